-- What comes of each item of two lists, one after another.
use Rattle.std.proofs.Common.{List, [], ◌∷◌, ◌++◌, ◌≡◌, map, refl, sym, ap, ◌∙◌, append-nil, append_assoc}
use Rattle.rt_model.specs.Lists.{joined}

module _ {A B : Type 0} (f : A → List B) where
  -- of two lists it is what comes of the first, then what comes of the second
  pub joined_append : (xs ys : List A) → joined (map f (xs ++ ys)) ≡ joined (map f xs) ++ joined (map f ys)
  joined_append [] ys = refl
  joined_append (x ∷ xs) ys =
      ap (λ (zs : List B). f x ++ zs) (joined_append xs ys) ∙ sym (append_assoc (f x) (joined (map f xs)) (joined (map f ys)))

  -- so it is where both are known
  pub both_joined : (xs ys : List A) {us vs : List B} → joined (map f xs) ≡ us → joined (map f ys) ≡ vs → joined (map f (xs ++ ys)) ≡ us ++ vs
  both_joined xs ys {us = us} p q =
      joined_append xs ys ∙ ap (λ (zs : List B). zs ++ joined (map f ys)) p ∙ ap (λ (zs : List B). us ++ zs) q

  -- one more item of which nothing comes
  pub none_more : (xs : List A) (x : A) {us : List B} → f x ≡ [] → joined (map f xs) ≡ us → joined (map f (xs ++ x ∷ [])) ≡ us
  none_more xs x none p =
      joined_append xs (x ∷ [])
      ∙ ap (λ (zs : List B). joined (map f xs) ++ (zs ++ [])) none
      ∙ append-nil (joined (map f xs))
      ∙ p
