use Rattle.std.proofs.Common.{◌≡◌, drop}
use Rattle.std.specs.Prelude.{nat_eq}
use Rattle.std.specs.List.{list_any}
use Rattle.run_state.proofs.numbers.scope_in.Given as goal

abbrev pub invariant-loop-index : goal.invariant-loop-index
invariant-loop-index l = list_any (λ own. nat_eq own.0 l.scope) l.scopes ≡ list_any (λ own. nat_eq own.0 l.scope) (drop l.index l.scopes)
