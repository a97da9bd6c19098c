-- Counts over the views, as one of them changes.
use Rattle.std.proofs.Common.{◌≡◌, ◌≢◌, ℕ, zero, suc, ◌+◌, ◌≤◌, List, [], ◌∷◌, ◌++◌, set, refl, sym, ap, subst, ⊎_elim, arith}
use mathlib.Core.Option.{some, some-injective, some-ne-none}
use lib.ListN.{get_elem?}
use Rattle.crossbeam_queue.proofs.Lists.{at_set, at_snoc}
use Rattle.rt_inbox.specs.declared.view.View.{View}
use Rattle.rt_inbox.specs.Rule.{total}

pub total-set : (f : View → ℕ) (views : List View) (i : ℕ) (v w : View) → get_elem? views i ≡ some v → total f (set views i w) + f v ≡ total f views + f w
total-set f [] i v w e = absurd (some-ne-none v (sym e))
total-set f (x ∷ xs) zero v w e = let is : f x ≡ f v = ap f (some-injective x v e) in omega arith
total-set f (x ∷ xs) (suc i) v w e = let h = total-set f xs i v w e in omega arith

pub total-snoc : (f : View → ℕ) (views : List View) (v : View) → total f (views ++ v ∷ []) ≡ total f views + f v
total-snoc f [] v = omega arith
total-snoc f (x ∷ xs) v = let h = total-snoc f xs v in omega arith

pub total-one : (f : View → ℕ) (views : List View) (i : ℕ) (v : View) → get_elem? views i ≡ some v → f v ≤ total f views
total-one f [] i v e = absurd (some-ne-none v (sym e))
total-one f (x ∷ xs) zero v e = let is : f x ≡ f v = ap f (some-injective x v e) in omega arith
total-one f (x ∷ xs) (suc i) v e = let h = total-one f xs i v e in omega arith

pub total-two : (f : View → ℕ) (views : List View) (i j : ℕ) (v u : View) → get_elem? views i ≡ some v → get_elem? views j ≡ some u → j ≢ i → f v + f u ≤ total f views
total-two f [] i j v u e d apart = absurd (some-ne-none v (sym e))
total-two f (x ∷ xs) zero zero v u e d apart = absurd (apart refl)
total-two f (x ∷ xs) zero (suc j) v u e d apart = let is : f x ≡ f v = ap f (some-injective x v e) in let h = total-one f xs j u d in omega arith
total-two f (x ∷ xs) (suc i) zero v u e d apart = let is : f x ≡ f u = ap f (some-injective x u d) in let h = total-one f xs i v e in omega arith
total-two f (x ∷ xs) (suc i) (suc j) v u e d apart = let h = total-two f xs i j v u e d (λ k. apart (ap suc k)) in omega arith

-- what holds of each view, after a change of one
pub views-set : (F : View → Type 0) (views : List View) (i : ℕ) (w : View) → F w → ((j : ℕ) (u : View) → j ≢ i → get_elem? views j ≡ some u → F u)
    → (j : ℕ) (u : View) → get_elem? (set views i w) j ≡ some u → F u
views-set F views i w mine others j u e = ⊎_elim (λ (x : (j ≡ i) × (w ≡ u)). subst F x.1 mine)
    (λ (x : (j ≢ i) × (get_elem? views j ≡ some u)). others j u x.0 x.1) (at_set views i j w u e)

-- and with one view more
pub views-snoc : (F : View → Type 0) (views : List View) (w : View) → F w → ((j : ℕ) (u : View) → get_elem? views j ≡ some u → F u)
    → (j : ℕ) (u : View) → get_elem? (views ++ w ∷ []) j ≡ some u → F u
views-snoc F views w mine others j u e = ⊎_elim (λ (x : get_elem? views j ≡ some u). others j u x) (λ (x : w ≡ u). subst F x mine) (at_snoc views w u j e)
