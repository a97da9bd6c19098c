-- Where none is kept the scope stands.
use Rattle.std.proofs.Common.{◌∙◌, ap, sym}
use Rattle.std.specs.Prelude.{option_map}
use Rattle.rt_model.specs.Lists.{at}
use Rattle.run_shown.specs.Look.{standing, stood_in}
use Rattle.run_shown.proofs.Looks.{seen_gone, seen_now}
use Rattle.run_shown.proofs.look.Look.found_now.Goals as goal

pub returns-then-is_kept : goal.returns-then-is_kept
returns-then-is_kept g c = λ none.
    seen_gone (at (stood_in c.args.self.now) c.args.scope) (at (c.args.self.now.rows.now).table c.args.scope) none (sym c.is_kept.ensures ∙ c.if-is_kept.true)

pub returns-in-Some : goal.returns-in-Some
returns-in-Some g c = λ none.
    ap (λ o. option_map standing o) c.in-Some.ensures
    ∙ seen_now (at (stood_in c.args.self.now) c.args.scope) (at (c.args.self.now.rows.now).table c.args.scope) (sym c.is_kept.ensures ∙ c.if-is_kept.false)

pub returns-in-None : goal.returns-in-None
returns-in-None g c = λ none.
    ap (λ o. option_map standing o) c.in-None.ensures
    ∙ seen_now (at (stood_in c.args.self.now) c.args.scope) (at (c.args.self.now.rows.now).table c.args.scope) (sym c.is_kept.ensures ∙ c.if-is_kept.false)
