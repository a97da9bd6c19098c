-- A scope is shown where its climb says so.
use Rattle.std.proofs.Common.{◌∙◌, sym}
use Rattle.run_shown.proofs.Looks.{shown_gone, shown_root, shown_there}
use Rattle.run_shown.proofs.look.Look.is_shown.Goals as goal

pub returns-then-rung-eq0 : goal.returns-then-rung-eq0
returns-then-rung-eq0 g c = sym (shown_root c.args.self.now c.args.scope c.in-Some.rung c.in-Some.ensures c.if-rung-eq0.true)

pub returns : goal.returns
returns g c = c.is_shown_on.ensures ∙ sym (shown_there c.args.self.now c.args.scope c.in-Some.rung c.in-Some.ensures c.if-rung-eq0.false)

pub returns-in_default : goal.returns-in_default
returns-in_default g c = sym (shown_gone c.args.self.now c.args.scope c.in_default.ensures)
