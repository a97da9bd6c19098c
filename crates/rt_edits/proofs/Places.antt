-- An item takes its place among ordered ones.
use Rattle.std.proofs.Common.{◌≡◌, ℕ, zero, suc, ◌<◌, ◌≤◌, true, false, List, [], ◌∷◌, length, get_or, refl, sym, ap, ◌∙◌, subst, arith}
use Rattle.std.specs.Prelude.{slice_set}
use Rattle.std.specs.List.{insert}
use Rattle.std.specs.declared.cmp.Ordering.{Ordering}
use Rattle.std.specs.declared.cmp.Ordering.TheVariants.{Less, Equal, Greater}
use Rattle.std.specs.Ordering.{is_eq}
use Rattle.rt_edits.specs.Ordered.{place_by, place_for, put_by, put_in}

module _ {A : Type 0} (order : A → Ordering) (item : A) where
  over_by : (o : Ordering) (x d : A) (xs : List A) (k : ℕ) → order x ≡ o → k ≡ place_by o (place_for order xs) → k < suc (length xs)
      → is_eq (order (get_or (x ∷ xs) k d)) ≡ true
      → ((n : ℕ) → n ≡ place_for order xs → n < length xs → is_eq (order (get_or xs n d)) ≡ true → slice_set xs n item ≡ put_in order item xs)
      → slice_set (x ∷ xs) k item ≡ put_by o item x xs (put_in order item xs)
  over_by Less x d xs k is e low h more =
      let wrong : false ≡ true = ap is_eq (sym is) ∙ ap (λ n. is_eq (order (get_or (x ∷ xs) n d))) (sym e) ∙ h in cc
  over_by Equal x d xs k is e low h more = ap (λ n. slice_set (x ∷ xs) n item) e
  over_by Greater x d xs k is e low h more =
      let lower : suc (place_for order xs) < suc (length xs) = subst (λ n. n < suc (length xs)) e low in
      ap (λ n. slice_set (x ∷ xs) n item) e ∙
      ap (λ ys. x ∷ ys) (more (place_for order xs) refl (omega (arith, lower)) (ap (λ n. is_eq (order (get_or (x ∷ xs) n d))) (sym e) ∙ h))

  -- over the one that it equals
  pub put_over : (xs : List A) (k : ℕ) (d : A) → k ≡ place_for order xs → k < length xs → is_eq (order (get_or xs k d)) ≡ true
      → slice_set xs k item ≡ put_in order item xs
  put_over [] k d e low h = absurd (omega (arith, low))
  put_over (x ∷ xs) k d e low h = over_by (order x) x d xs k refl e low h (λ n f g i. put_over xs n d f g i)

  new_by : (o : Ordering) (x d : A) (xs : List A) (k : ℕ) → order x ≡ o → k ≡ place_by o (place_for order xs)
      → (k < suc (length xs) → is_eq (order (get_or (x ∷ xs) k d)) ≡ false)
      → ((n : ℕ) → n ≡ place_for order xs → (n < length xs → is_eq (order (get_or xs n d)) ≡ false) → insert xs n item ≡ put_in order item xs)
      → insert (x ∷ xs) k item ≡ put_by o item x xs (put_in order item xs)
  new_by Less x d xs k is e h more = ap (λ n. insert (x ∷ xs) n item) e
  new_by Equal x d xs k is e h more =
      let low : k < suc (length xs) = subst (λ n. n < suc (length xs)) (sym e) (omega arith) in
      let wrong : true ≡ false = ap is_eq (sym is) ∙ ap (λ n. is_eq (order (get_or (x ∷ xs) n d))) (sym e) ∙ h low in cc
  new_by Greater x d xs k is e h more =
      let later : place_for order xs < length xs → is_eq (order (get_or xs (place_for order xs) d)) ≡ false =
      λ low. ap (λ n. is_eq (order (get_or (x ∷ xs) n d))) (sym e) ∙ h (subst (λ n. n < suc (length xs)) (sym e) (omega (arith, low))) in
      ap (λ n. insert (x ∷ xs) n item) e ∙ ap (λ ys. x ∷ ys) (more (place_for order xs) refl later)

  -- before the one that comes after it, or at the end
  pub put_new : (xs : List A) (k : ℕ) (d : A) → k ≡ place_for order xs → (k < length xs → is_eq (order (get_or xs k d)) ≡ false)
      → insert xs k item ≡ put_in order item xs
  put_new [] k d e h = ap (λ n. insert [] n item) e
  put_new (x ∷ xs) k d e h = new_by (order x) x d xs k refl e h (λ n f g. put_new xs n d f g)

  within_by : (o : Ordering) (n m : ℕ) → n ≤ m → place_by o n ≤ suc m
  within_by Less n m h = omega arith
  within_by Equal n m h = omega arith
  within_by Greater n m h = omega (arith, h)

  pub place_within : (xs : List A) → place_for order xs ≤ length xs
  place_within [] = omega arith
  place_within (x ∷ xs) = within_by (order x) (place_for order xs) (length xs) (place_within xs)
