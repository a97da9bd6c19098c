use Rattle.std.proofs.Common.{◌≡◌, ◌∙◌, ap}
use Rattle.run_state.proofs.KindsInPlace.{scopes_step, scopes_end}
use Rattle.run_state.proofs.removal.add_scope_kinds.Goals as goal

pub loop-entry-preserved : goal.loop-entry-preserved
loop-entry-preserved g c =
    scopes_step c.args.scope c.args.scopes.now c.loop-entry.entry-index c.entry-item.result c.as_slice.result.now c.loop-entry.kinds.items c.add_kinds.new.kinds.items c.loop-entry-test.true c.entry-item.is (c.as_slice.ensures.items ∙ ap (λ s. (s.rest).reads) c.get-other.ensures.value) c.in_ok-add_kinds.ensures
    ∙ c.loop-entry.invariant

pub returns : goal.returns
returns g c = scopes_end c.args.scope c.args.scopes.now c.loop-entry.entry-index c.loop-entry.kinds.items _ c.loop-entry-test.false c.loop-entry.invariant
