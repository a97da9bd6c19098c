-- Fronts of lists.
use Rattle.std.proofs.Common.{ℕ, zero, suc, ◌+◌, ◌≤◌, ◌<◌, true, false, List, [], ◌∷◌, ◌++◌, ◌≡◌, refl, sym, ap, ◌∙◌, subst, length, map, take, drop, drop-cons, get_or, append_assoc, append-nil, arith}
use Rattle.std.proofs.Math.Seq.{drop-append_seam}
use Rattle.std.proofs.lemmas.List.{take-append-drop, length-take-le, take_all, drop-map}
use Rattle.rt_model.specs.Replay.{Entry, same_entry}
use Rattle.rt_audit.specs.Fronts.{begins_with, IsFront, PartsAt, GoesOn}

-- the first of what is left, and the others
pub record Next (n : ℕ) (xs : List Entry) (first : Entry) : Type 0 where
  pub is : drop n xs ≡ first ∷ drop (suc n) xs
  pub taken : take (suc n) xs ≡ take n xs ++ first ∷ []

-- no entry is a front of all
pub none_front : (list : List Entry) → IsFront [] list
none_front list = record { rest = list; is = refl }

-- what is next behind so many is taken next
taken_next : (n : ℕ) (xs : List Entry) (first : Entry) → drop n xs ≡ first ∷ drop (suc n) xs → take (suc n) xs ≡ take n xs ++ first ∷ []
taken_next zero [] first h = cc
taken_next zero (x ∷ xs) first h = let same : x ≡ first = cc in ap (λ (e : Entry). e ∷ []) same
taken_next (suc n) [] first h = cc
taken_next (suc n) (x ∷ xs) first h = ap (λ (l : List Entry). x ∷ l) (taken_next n xs first h)

-- the item at a place is next there
pub next_in : {A : Type 0} (f : A → Entry) (n : ℕ) (xs : List A) (x : A) → n < length xs → x ≡ get_or xs n x → Next n (map f xs) (f x)
next_in f n xs x low here =
    let next : drop n (map f xs) ≡ f x ∷ drop (suc n) (map f xs) =
    drop-map f n xs
    ∙ ap (λ ys. map f ys) (drop-cons xs n x low ∙ ap (λ y. y ∷ drop (suc n) xs) (sym here))
    ∙ ap (λ ys. f x ∷ ys) (sym (drop-map f (suc n) xs)) in
    record { is = next; taken = taken_next n (map f xs) (f x) next }

-- one more that is the next one of the list
pub front_next : (n : ℕ) (noted list : List Entry) (first : Entry) → n ≤ length noted → Next n noted first
    → begins_with first (drop n list) ≡ true
    → ((d e : Entry) → same_entry d e ≡ true → d ≡ e)
    → IsFront (take n noted) list
    → IsFront (take (suc n) noted) list
front_next n noted list first low next has tells h =
    let left : drop n list ≡ h.rest = ap (λ (xs : List Entry). drop n xs) h.is ∙ ap (λ k. drop k (take n noted ++ h.rest)) (sym (length-take-le n noted low)) ∙ drop-append_seam (take n noted) h.rest in
    go h.rest h.is (ap (λ (xs : List Entry). begins_with first xs) (sym left) ∙ has)
  where
    go : (rest : List Entry) → list ≡ take n noted ++ rest → begins_with first rest ≡ true → IsFront (take (suc n) noted) list
    go [] is q = cc
    go (e ∷ rest) is q =
        let same : first ≡ e = tells first e q in
        record {
          rest = rest;
          is = is
              ∙ ap (λ (x : Entry). take n noted ++ x ∷ rest) (sym same)
              ∙ sym (append_assoc (take n noted) (first ∷ []) rest)
              ∙ ap (λ (xs : List Entry). xs ++ rest) (sym next.taken);
        }

-- one more that isn't
pub parts_here : (n : ℕ) (noted list : List Entry) (first : Entry) → n ≤ length noted → Next n noted first
    → begins_with first (drop n list) ≡ false
    → IsFront (take n noted) list
    → PartsAt noted list n
parts_here n noted list first low next has h =
    let left : drop n list ≡ h.rest = ap (λ (xs : List Entry). drop n xs) h.is ∙ ap (λ k. drop k (take n noted ++ h.rest)) (sym (length-take-le n noted low)) ∙ drop-append_seam (take n noted) h.rest in
    record {
      front = take n noted;
      first = first;
      more = drop (suc n) noted;
      rest = h.rest;
      noted_is = sym (take-append-drop n noted) ∙ ap (λ (xs : List Entry). take n noted ++ xs) next.is;
      list_is = h.is;
      place_is = length-take-le n noted low;
      other = ap (λ (xs : List Entry). begins_with first xs) (sym left) ∙ has;
    }

-- all were compared
pub front_all : (n : ℕ) (noted list : List Entry) → length noted ≤ n → IsFront (take n noted) list → IsFront noted list
front_all n noted list h front = subst (λ (xs : List Entry). IsFront xs list) (take_all n noted h) front

longer : (xs : List Entry) (e : Entry) (rest : List Entry) → length (xs ++ e ∷ rest) ≡ length xs + suc (length rest)
longer [] e rest = omega arith
longer (x ∷ xs) e rest = let more = longer xs e rest in omega (arith, more)

-- as many entries are all of them
pub front_is_all : (noted list : List Entry) → length noted ≡ length list → IsFront noted list → list ≡ noted
front_is_all noted list same h = go h.rest h.is
  where
    go : (rest : List Entry) → list ≡ noted ++ rest → list ≡ noted
    go [] is = is ∙ append-nil noted
    go (e ∷ rest) is =
        let count = ap (λ (l : List Entry). length l) is in
        let more = longer noted e rest in
        absurd (omega (arith, same, count, more))

-- else the list goes on
pub front_goes_on : (noted list : List Entry) → (length noted ≡ length list → ⊥) → IsFront noted list → GoesOn noted list
front_goes_on noted list other h = go h.rest h.is
  where
    go : (rest : List Entry) → list ≡ noted ++ rest → GoesOn noted list
    go [] is = absurd (other (sym (ap (λ (l : List Entry). length l) (is ∙ append-nil noted))))
    go (e ∷ rest) is = record { first = e; more = rest; is = is }
