-- What stands under a number where numbers ascend, once another thing went.
use Rattle.std.proofs.Common.{◌≡◌, ℕ, List, [], ◌∷◌, Bool, true, false, cond, ◌||◌, nat_eq, Option, None, Some, refl, sym, ap, ◌∙◌}
use mathlib.Core.Bool.{true≢false}
use Rattle.std.specs.declared.cmp.Ordering.TheVariants.{Less, Equal, Greater}
use Rattle.std.specs.Ordering.{is_eq, nat_cmp}
use Rattle.std.specs.FinMap.{nat_cmp-IsAntisymmetric}
use Rattle.std.specs.List.{list_any, AllByRecursion}
use Rattle.std.specs.List.Sorted.{IsStrictlySortedBy}
use Rattle.std.specs.Map.{keys_of}
use Rattle.std.proofs.lemmas.Bool.{eqb-true}
use Rattle.std.proofs.lemmas.Map.Keys.{sorted_head, sorted_tail}
pub use Rattle.rt_lemmas.proofs.Numbers.{ties_back, ties}
use Rattle.rt_cells.specs.declared.numbered.Held.{Held}
use Rattle.rt_cells.specs.Held.{held_at, without}

-- of two tests that don't hold both, either may come first
either_first : {A : Type 0} (a b : Bool) (x o : Option A) → (a ≡ true → b ≡ true → x ≡ None) → cond a x (cond b None o) ≡ cond b None (cond a x o)
either_first true true x o both = both refl refl
either_first true false x o both = refl
either_first false b x o both = refl

-- one of several numbers, or one of the rest
pub one_or_rest : {A : Type 0} (m n : ℕ) (ns : List ℕ) (d x : A) → cond (list_any (nat_eq m) ns) d (cond (nat_eq m n) d x) ≡ cond (list_any (nat_eq m) (n ∷ ns)) d x
one_or_rest {A = A} m n ns d x = by (list_any (nat_eq m) ns) (nat_eq m n)
  where
    by : (a b : Bool) → cond a d (cond b d x) ≡ cond (b || a) d x
    by true true = refl
    by true false = refl
    by false true = refl
    by false false = refl

module _ {X : Type 0} where
  -- nothing stands under a number that is below all
  none_below : (n : ℕ) (held : List (ℕ × Held X)) → AllByRecursion (λ k. nat_cmp n k ≡ Less) (keys_of held) → held_at n held ≡ None
  none_below n [] all = refl
  none_below n (first ∷ held) all = ap (λ r. cond (is_eq r) (Some first.1) (held_at n held)) all.0 ∙ none_below n held all.1

  -- without a thing the others stand where they stood
  pub held_without : (held : List (ℕ × Held X)) (n m : ℕ) → IsStrictlySortedBy nat_cmp (keys_of held) → held_at m (without n held) ≡ cond (nat_eq m n) None (held_at m held)
  held_without [] n m sorted = let none : Option (Held X) = None in elim (nat_eq m n) as (λ b. none ≡ cond b none none) [ true ↦ refl | false ↦ refl ]
  held_without (first ∷ held) n m sorted =
      elim (nat_cmp n first.0) as (λ r. nat_cmp n first.0 ≡ r → held_at m (cond (is_eq r) held (first ∷ without n held)) ≡ cond (nat_eq m n) None (held_at m (first ∷ held))) [
        | Less ↦ λ e. apart (ap is_eq e) (held_without held n m (sorted_tail nat_cmp first.0 (keys_of held) sorted))
        | Equal ↦ λ e. here (nat_cmp-IsAntisymmetric n first.0 e)
        | Greater ↦ λ e. apart (ap is_eq e) (held_without held n m (sorted_tail nat_cmp first.0 (keys_of held) sorted))
      ] refl
    where
      apart : is_eq (nat_cmp n first.0) ≡ false → held_at m (without n held) ≡ cond (nat_eq m n) None (held_at m held) → held_at m (first ∷ without n held) ≡ cond (nat_eq m n) None (held_at m (first ∷ held))
      apart other rest =
          ap (λ o. cond (is_eq (nat_cmp m first.0)) (Some first.1) o) rest
          ∙ either_first (is_eq (nat_cmp m first.0)) (nat_eq m n) (Some first.1) (held_at m held)
          (λ own same. absurd (true≢false (sym own ∙ ap (λ (k : ℕ). is_eq (nat_cmp k first.0)) (eqb-true m n same) ∙ other)))

      here : n ≡ first.0 → held_at m held ≡ cond (nat_eq m n) None (held_at m (first ∷ held))
      here same =
          elim (nat_eq m n) as (λ b. nat_eq m n ≡ b → held_at m held ≡ cond b None (held_at m (first ∷ held))) [
            | true ↦ λ q. ap (λ (k : ℕ). held_at k held) (eqb-true m n q ∙ same) ∙ none_below first.0 held (sorted_head nat_cmp first.0 (keys_of held) sorted)
            | false ↦ λ q. sym (ap (λ b. cond b (Some first.1) (held_at m held)) (ap (λ (k : ℕ). is_eq (nat_cmp m k)) (sym same) ∙ ties m n ∙ q))
          ] refl
