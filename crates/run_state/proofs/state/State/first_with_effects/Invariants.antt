use Rattle.std.proofs.Common.{length}
use Rattle.std.specs.List.Sorted.{IsStrictlySortedBy}
use Rattle.run_state.specs.Effects.{rank_cmp}
use Rattle.run_state.specs.Mirror.{scopes_of}
use Rattle.run_state.proofs.LeastEffects.{AllThere}
use Rattle.run_state.proofs.state.State.first_with_effects.Given as goal

-- all that have effects to do are left, in order
abbrev pub invariant-loop-rank : goal.invariant-loop-rank
invariant-loop-rank g l = record {
  all : AllThere (scopes_of (l.self.rows).table) l.left;
  sorted : IsStrictlySortedBy rank_cmp l.left;
}

abbrev pub decreases-loop-rank : goal.decreases-loop-rank
decreases-loop-rank g l = length l.left
