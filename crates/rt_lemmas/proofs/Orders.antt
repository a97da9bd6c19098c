-- What comparisons answer.
use Rattle.std.proofs.Common.{refl, sym, true, ◌≡◌}
use Rattle.std.specs.Ordering.{is_lt, ordering_then}
use Rattle.std.specs.declared.cmp.Ordering.{Ordering}
use Rattle.std.specs.declared.cmp.Ordering.TheVariants.{Equal, Greater, Less}
use mathlib.Core.Bool.{true≢false}

-- what tests as less is less
pub less : (r : Ordering) → is_lt r ≡ true → r ≡ Less
less Less is = refl
less Equal is = absurd (true≢false (sym is))
less Greater is = absurd (true≢false (sym is))

-- where two comparisons tie each does
pub both_tie : (r s : Ordering) → ordering_then r s ≡ Equal → (r ≡ Equal) × (s ≡ Equal)
both_tie Less s e = absurd (cc e)
both_tie Equal s e = (refl, e)
both_tie Greater s e = absurd (cc e)
