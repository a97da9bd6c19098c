-- A live scope joins the others.
use Rattle.std.proofs.Common.{sym, ◌∙◌}
use Rattle.run_state.specs.Mirror.{state_of}
use Rattle.run_state.proofs.Changed.{on_ok}
use Rattle.rt_scopes.proofs.Spots.{live_joins, gone_passes, none_joins}
use Rattle.rt_scopes.proofs.children.add_live.Goals as goal

pub returns-then-is_live : goal.returns-then-is_live
returns-then-is_live g c =
    on_ok c.push.result c.push.ensures.ok (λ is kept. live_joins (state_of kept c.args.state.now) c.in-Some.scope c.args.scope c.args.scopes.now c.push.new.self c.in-Some.is (sym (c.is_live.ensures kept) ∙ c.if-is_live.true) is)

pub returns-else-is_live : goal.returns-else-is_live
returns-else-is_live g c = λ kept. gone_passes (state_of kept c.args.state.now) c.in-Some.scope c.args.scope c.args.scopes.now c.in-Some.is (sym (c.is_live.ensures kept) ∙ c.if-is_live.false)

pub returns-in-None : goal.returns-in-None
returns-in-None g c = λ kept. none_joins (state_of kept c.args.state.now) c.args.scope c.args.scopes.now c.in-None.is
