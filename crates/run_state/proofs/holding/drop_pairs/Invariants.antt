use Rattle.std.proofs.Common.{◌≡◌, ℕ, nat_eq, false}
use Rattle.run_state.specs.Effects.{has_rank}
use Rattle.run_state.proofs.holding.drop_pairs.Given as goal

-- pairs of other scopes stay
abbrev pub invariant-loop-holder : goal.invariant-loop-holder
invariant-loop-holder l = (t s : ℕ) → nat_eq l.scope s ≡ false → has_rank l.pairs t s ≡ has_rank l.initial.pairs t s
