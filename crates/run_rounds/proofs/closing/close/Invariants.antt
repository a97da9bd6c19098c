-- What is left to close comes to what all of it comes to, and just the scopes that are left are still listed.
use Rattle.std.proofs.Common.{◌≡◌, ◌-◌, length}
use Rattle.std.specs.List.Sorted.{IsStrictlySortedBy}
use Rattle.rt_model.specs.Removal.{close, closes}
use Rattle.run_state.specs.Effects.{rank_cmp}
use Rattle.run_state.specs.Mirror.{Unkept, scopes_of, state_of}
use Rattle.rt_scopes.specs.Counts.{Counts}
use Rattle.run_answers.specs.Ranked.{AreRanked}
use Rattle.run_rounds.proofs.closing.close.Given as goal

abbrev pub invariant-loop-scope : goal.invariant-loop-scope
invariant-loop-scope g l = record {
  closed : (kept : Unkept _)
      → (after : Unkept _)
      × (close (g.A.App.meaning l.app) (state_of kept l.fn.machine.scopes.state)
      ≡ closes (g.A.App.meaning l.app) (length l.fn.machine.scopes.state.rows.table - l._scope) (state_of after l.machine.scopes.state))
      × (Counts l.fn.calls kept.calls → Counts l.calls after.calls);
  ranked : AreRanked (scopes_of l.machine.scopes.state.rows.table) l.left;
  sorted : IsStrictlySortedBy rank_cmp l.left;
}
