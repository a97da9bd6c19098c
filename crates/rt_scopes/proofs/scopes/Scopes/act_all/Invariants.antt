-- The effects that are left come to what all of them come to.
use Rattle.std.proofs.Common.{◌≡◌, drop}
use Rattle.rt_model.specs.Run.{acted}
use Rattle.run_state.specs.Mirror.{Unkept, state_of}
use Rattle.rt_scopes.specs.Counts.{Counts}
use Rattle.rt_scopes.specs.Hooks.{in_turn}
use Rattle.rt_scopes.proofs.scopes.Scopes.act_all.Given as goal

abbrev pub invariant-loop-effect : goal.invariant-loop-effect
invariant-loop-effect g l =
    (kept : Unkept _)
    → (after : Unkept _)
    × (in_turn (λ w e. acted (g.A.App.meaning l.app) w l.scope e l.rendering) (state_of kept l.fn.self.state) l.effects
    ≡ in_turn (λ w e. acted (g.A.App.meaning l.app) w l.scope e l.rendering) (state_of after l.self.state) (drop l.effect-index l.effects))
    × (Counts l.fn.calls kept.calls → Counts l.calls after.calls)
