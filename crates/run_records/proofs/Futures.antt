-- Tasks that are waited for, by their pairs; a list that is put through a change, with one item of it taken out.
use Rattle.std.proofs.Common.{◌≡◌, ◌<◌, ℕ, zero, suc, Bool, true, false, List, [], ◌∷◌, length, get_or, map, refl, ap, sym, ◌∙◌, arith}
use Rattle.std.specs.Prelude.{not, nat_eq, remove}
use Rattle.std.specs.List.{list_any}
use Rattle.std.proofs.lemmas.Grind.{common_steps}
use Rattle.rt_model.specs.Lists.{kept_by}
use Rattle.tree_nodes.specs.declared.error.SuspendedFuture.{SuspendedFuture}
use Rattle.run_records.specs.Futures.{holder_of}

-- whether one is among them
pub any_holder : (fs : List SuspendedFuture) (n : ℕ) → list_any (λ h. nat_eq h.0 n) (map holder_of fs) ≡ list_any (λ future. nat_eq (future.task).0 n) fs
any_holder [] n = refl
any_holder (f ∷ fs) n = grind (arith, common_steps, any_holder fs n)

-- one that would go anyway goes first
module _ {A B : Type 0} (f : A → B) (test : B → Bool) where
  kept_first : (xs : List A) (i : ℕ) (d : A) → i < length xs → test (f (get_or xs i d)) ≡ true
      → kept_by (λ x. not (test x)) (map f (remove xs i)) ≡ kept_by (λ x. not (test x)) (map f xs)
  kept_first [] i d within own = absurd (omega arith)
  kept_first (x ∷ xs) zero d within own = grind (arith, common_steps)
  kept_first (x ∷ xs) (suc i) d within own = grind (arith, common_steps, kept_first xs i d)

  pub kept_less : (xs seen : List A) (i : ℕ) (d : A) → seen ≡ xs → i < length seen → test (f (get_or seen i d)) ≡ true
      → kept_by (λ x. not (test x)) (map f (remove xs i)) ≡ kept_by (λ x. not (test x)) (map f xs)
  kept_less xs seen i d slice within own =
      ap (λ ys. kept_by (λ x. not (test x)) (map f (remove ys i))) (sym slice) ∙ kept_first seen i d within own ∙ ap (λ ys. kept_by (λ x. not (test x)) (map f ys)) slice

-- none is left
pub holder_none : (fs : List SuspendedFuture) (n : ℕ) → list_any (λ future. nat_eq (future.task).0 n) fs ≡ false
    → kept_by (λ h. not (nat_eq h.0 n)) (map holder_of fs) ≡ map holder_of fs
holder_none [] n none = refl
holder_none (f ∷ fs) n none = grind (arith, common_steps, holder_none fs n)
