-- The rows passed are for other scopes.
use Rattle.std.proofs.Common.{◌≡◌, drop}
use Rattle.std.specs.Prelude.{nat_eq}
use Rattle.std.specs.List.{list_any}
use Rattle.run_shown.proofs.asked.GivenRows.has.Given as goal

abbrev pub invariant-loop-pair : goal.invariant-loop-pair
invariant-loop-pair l = list_any (λ r. nat_eq r.0 l.scope) (l.self).rows ≡ list_any (λ r. nat_eq r.0 l.scope) (drop l.pair-index (l.self).rows)
