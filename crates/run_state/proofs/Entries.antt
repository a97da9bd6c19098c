-- What is read at an index of a view.
use Rattle.std.proofs.Common.{◌≡◌, ℕ, ◌<◌, List, [], ◌∷◌, length, get_or, ap, ◌∙◌, arith}
use Rattle.std.proofs.lemmas.List.{get_or_default}

-- some item, where there is one
pub some_item : {A : Type 0} (xs : List A) (i : ℕ) → i < length xs → A
some_item [] i within = absurd (omega arith)
some_item (x ∷ xs) i within = x

-- the number at an index, whatever stands for one past the end
pub number-at : {A : Type 0} (seen table : List (ℕ × A)) (i : ℕ) (e row : ℕ × A) → seen ≡ table → i < length table → e ≡ get_or seen i e → e.0 ≡ (get_or table i row).0
number-at {A = A} seen table i e row view within is = ap (λ (p : ℕ × A). p.0) (is ∙ ap (λ xs. get_or xs i e) view ∙ get_or_default table i e row within)

-- the same, for what is read there in the view
pub number-seen : {A : Type 0} (seen table : List (ℕ × A)) (i : ℕ) (e row : ℕ × A) → seen ≡ table → i < length table → (get_or seen i e).0 ≡ (get_or table i row).0
number-seen {A = A} seen table i e row view within = ap (λ (p : ℕ × A). p.0) (ap (λ xs. get_or xs i e) view ∙ get_or_default table i e row within)

-- what is read at an index of a view stands there in the table
pub at-index : {A : Type 0} (seen table : List (ℕ × A)) (i : ℕ) (e row : ℕ × A) → seen ≡ table → i < length table → e ≡ get_or seen i e → e ≡ get_or table i row
at-index seen table i e row view within is = is ∙ ap (λ xs. get_or xs i e) view ∙ get_or_default table i e row within

-- a number that is read at an index of a view stands there in the list
pub number_read : (view list : List ℕ) (i : ℕ) (d : ℕ) → view ≡ list → i < length list → get_or view i 0 ≡ get_or list i d
number_read view list i d same within = ap (λ xs. get_or xs i 0) same ∙ get_or_default list i 0 d within
