-- Marks among what is posted, and tests of sources.
use Rattle.std.proofs.Common.{ℕ, Bool, true, false, List, [], ◌∷◌, ◌++◌, ◌≡◌, ◌≤◌, ◌<◌, ◌⊎◌, not, refl, ap, ◌∙◌, subst, nat_eq, arith, inl, inr}
use Rattle.std.specs.Prelude.{if◌then◌else◌}
use Rattle.std.specs.List.{AllByRecursion}
use Rattle.rt_model.specs.World.{Source, same_source}
use Rattle.rt_model.specs.State.{Posted, Mark}
use Rattle.rt_model.specs.Commands.{same_posted, drop_posted, names_source}
use Rattle.rt_model.proofs.Members.{clash, or_left, or_right, by_either}
use Rattle.rt_model.proofs.SameTrees.{source-same as source_same}
pub use Rattle.rt_model.proofs.SameTrees.{source-true as source_is}
use Rattle.law_moves.specs.Heeds.{HasMark}

pub from_apart : (n m i : ℕ) → n ≤ i → m < n → nat_eq i m ≡ false
from_apart n m i h g = grind (arith, h, g)

-- marks

pub mark_first : (ps qs : List Posted) (s : ℕ) → HasMark ps s → HasMark (ps ++ qs) s
mark_first [] qs s h = absurd h
mark_first (p ∷ ps) qs s (inl h) = inl h
mark_first (p ∷ ps) qs s (inr h) = inr (mark_first ps qs s h)

pub mark_last : (ps qs : List Posted) (s : ℕ) → HasMark qs s → HasMark (ps ++ qs) s
mark_last [] qs s h = h
mark_last (p ∷ ps) qs s h = inr (mark_last ps qs s h)

pub mark_split : (ps qs : List Posted) (s : ℕ) → HasMark (ps ++ qs) s → HasMark ps s ⊎ HasMark qs s
mark_split [] qs s h = inr h
mark_split (p ∷ ps) qs s (inl h) = inl (inl h)
mark_split (p ∷ ps) qs s (inr h) = elim (mark_split ps qs s h) [ inl g ↦ inl (inr g) | inr g ↦ inr g ]

-- a mark goes with its own kind alone
kept_mark : (b : Bool) (p q : Posted) (s : ℕ) (ps : List Posted) → (p ≡ Mark s → b ≡ true) → (HasMark ps s → HasMark (drop_posted ps q) s) → HasMark (p ∷ ps) s
    → HasMark (if b then p ∷ drop_posted ps q else drop_posted ps q) s
kept_mark true p q s ps f go (inl h) = inl h
kept_mark true p q s ps f go (inr h) = inr (go h)
kept_mark false p q s ps f go (inl h) = clash (f h) refl
kept_mark false p q s ps f go (inr h) = go h

-- what isn't the mark of a scope is taken out, and the mark stays
pub mark_stays : (ps : List Posted) (q : Posted) (s : ℕ) → same_posted (Mark s) q ≡ false → HasMark ps s → HasMark (drop_posted ps q) s
mark_stays [] q s other h = h
mark_stays (p ∷ ps) q s other h =
    kept_mark (not (same_posted p q)) p q s ps (λ e. ap (λ (x : Posted). not (same_posted x q)) e ∙ ap (λ (b : Bool). not b) other) (λ g. mark_stays ps q s other g) h

-- sources

-- what holds of each source that is named holds of all of them
pub all_named : (P : Source → Type 0) (xs : List Source) → ((i : Source) → names_source xs i ≡ true → P i) → AllByRecursion (λ i. P i) xs
all_named P [] h = tt
all_named P (x ∷ xs) h = (
  h x (or_left (same_source x x) (names_source xs x) (source_same x)),
  all_named P xs (λ i q. h i (or_right (same_source x i) (names_source xs i) q)),
)

-- and the other way round
pub named_of : (P : Source → Type 0) (xs : List Source) → AllByRecursion (λ i. P i) xs → (i : Source) → names_source xs i ≡ true → P i
named_of P [] h i q = clash q refl
named_of P (x ∷ xs) h i q =
    by_either (same_source x i) (names_source xs i) q
    (λ e. subst (λ (j : Source). P j) (source_is x i e) h.0)
    (λ g. named_of P xs h.1 i g)

-- each is so, or something else holds
pub each_or : {Q : Type 0} (P : Source → Type 0) (xs : List Source) → AllByRecursion (λ i. P i ⊎ Q) xs → AllByRecursion (λ i. P i) xs ⊎ Q
each_or P [] h = inl tt
each_or P (x ∷ xs) (inr q, rest) = inr q
each_or P (x ∷ xs) (inl p, rest) = elim (each_or P xs rest) [ inl g ↦ inl (p, g) | inr g ↦ inr g ]
