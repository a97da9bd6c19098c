-- The clean-ups that are left come to what all of them come to.
use Rattle.std.proofs.Common.{◌≡◌, [], drop, map}
use Rattle.rt_model.specs.Removal.{cleaned_in}
use Rattle.run_records.specs.Records.{command_of}
use Rattle.run_state.specs.Mirror.{Unkept, state_of}
use Rattle.rt_scopes.specs.Counts.{Counts}
use Rattle.rt_scopes.proofs.scopes.Scopes.clean.Given as goal

abbrev pub invariant-loop-effect : goal.invariant-loop-effect
invariant-loop-effect g l =
    (kept : Unkept _)
    → (after : Unkept _)
    × (cleaned_in (g.A.App.meaning l.app) l.patching l.scope l.effects (state_of kept l.fn.self.state) []
    ≡ cleaned_in (g.A.App.meaning l.app) l.patching l.scope (drop l.effect-index l.effects) (state_of after l.self.state) (map command_of l.waiting))
    × (Counts l.fn.calls kept.calls → Counts l.calls after.calls)
