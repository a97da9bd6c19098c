-- The callbacks that are left come to what all of them come to.
use Rattle.std.proofs.Common.{◌≡◌, drop}
use Rattle.run_state.specs.Mirror.{Unkept, state_of}
use Rattle.rt_scopes.specs.Counts.{Counts}
use Rattle.rt_scopes.specs.Hooks.{in_turn, one_called}
use Rattle.rt_scopes.proofs.scopes.Scopes.call_back.Given as goal

abbrev pub invariant-loop-callback : goal.invariant-loop-callback
invariant-loop-callback g l =
    (kept : Unkept _)
    → (after : Unkept _)
    × (in_turn (one_called (g.A.App.meaning l.app)) (state_of kept l.fn.self.state) l.callbacks
    ≡ in_turn (one_called (g.A.App.meaning l.app)) (state_of after l.self.state) (drop l.callback-index l.callbacks))
    × (Counts l.fn.calls kept.calls → Counts l.calls after.calls)
