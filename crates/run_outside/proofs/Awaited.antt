-- What is called in scopes that are told: one more, one fewer, the other way round.
use Rattle.std.proofs.Common.{ℕ, Bool, true, false, ◌||◌, List, [], ◌∷◌, ◌++◌, ◌≡◌, refl, sym, ap, ◌∙◌, reverse, nat_eq}
use Rattle.std.proofs.lemmas.List.{reverse-append}
use Rattle.std.specs.List.{list_all}
use Rattle.rt_lemmas.proofs.Bools.{and_both, and_left, and_right, or_left, or_right}
use Rattle.rt_lemmas.proofs.Numbers.{eq_is, eq_same}
use Rattle.rt_model.specs.Lists.{has}
use Rattle.run_outside.specs.Among.{are_among}

-- a test that all pass is passed by both parts
all_parts : {A : Type 0} (p : A → Bool) (xs ys : List A) → list_all p (xs ++ ys) ≡ true → (list_all p xs ≡ true) × (list_all p ys ≡ true)
all_parts p [] ys h = (refl, h)
all_parts p (x ∷ xs) ys h =
    let rest = all_parts p xs ys (and_right (p x) (list_all p (xs ++ ys)) h) in
    (and_both (p x) (list_all p xs) (and_left (p x) (list_all p (xs ++ ys)) h) rest.0, rest.1)

-- and the other way round
all_of_parts : {A : Type 0} (p : A → Bool) (xs ys : List A) → list_all p xs ≡ true → list_all p ys ≡ true → list_all p (xs ++ ys) ≡ true
all_of_parts p [] ys h k = k
all_of_parts p (x ∷ xs) ys h k =
    and_both (p x) (list_all p (xs ++ ys)) (and_left (p x) (list_all p xs) h) (all_of_parts p xs ys (and_right (p x) (list_all p xs) h) k)

-- the order of a list doesn't count
pub all_back : {A : Type 0} (p : A → Bool) (xs : List A) → list_all p xs ≡ true → list_all p (reverse xs) ≡ true
all_back p [] h = refl
all_back p (x ∷ xs) h =
    ap (list_all p) (reverse-append (x ∷ []) xs)
    ∙ all_of_parts p (reverse xs) (x ∷ []) (all_back p xs (and_right (p x) (list_all p xs) h)) (and_both (p x) true (and_left (p x) (list_all p xs) h) refl)

-- one that all are is one of them
pub all_has : (p : ℕ → Bool) (ns : List ℕ) (n : ℕ) → list_all p ns ≡ true → has ns n ≡ true → p n ≡ true
all_has p [] n h k = cc
all_has p (m ∷ ns) n h k = by (nat_eq m n) refl (all_has p ns n (and_right (p m) (list_all p ns) h))
  where
    by : (b : Bool) → nat_eq m n ≡ b → (has ns n ≡ true → p n ≡ true) → p n ≡ true
    by true q later = ap p (sym (eq_is m n q)) ∙ and_left (p m) (list_all p ns) h
    by false q later = later (sym (ap (λ b. b || has ns n) q) ∙ k)

-- a number at the end
pub has_end : (ns : List ℕ) (n : ℕ) → has (ns ++ n ∷ []) n ≡ true
has_end [] n = or_left (nat_eq n n) false (eq_same n)
has_end (m ∷ ns) n = or_right (nat_eq m n) (has (ns ++ n ∷ []) n) (has_end ns n)

-- those before it are still there
pub has_before : (ns : List ℕ) (n m : ℕ) → has ns m ≡ true → has (ns ++ n ∷ []) m ≡ true
has_before [] n m h = cc
has_before (k ∷ ns) n m h = by (nat_eq k m) (has_before ns n m) h
  where
    by : (b : Bool) → (has ns m ≡ true → has (ns ++ n ∷ []) m ≡ true) → (b || has ns m) ≡ true → (b || has (ns ++ n ∷ []) m) ≡ true
    by true later h = refl
    by false later h = later h

module _ {A : Type 0} (scope_of : A → ℕ) where
  -- among more numbers they are, too
  pub among_more : (old new : List ℕ) (xs : List A) → ((n : ℕ) → has old n ≡ true → has new n ≡ true)
      → are_among scope_of old xs ≡ true → are_among scope_of new xs ≡ true
  among_more old new [] more h = refl
  among_more old new (x ∷ xs) more h =
      and_both (has new (scope_of x)) (are_among scope_of new xs)
      (more (scope_of x) (and_left (has old (scope_of x)) (are_among scope_of old xs) h))
      (among_more old new xs more (and_right (has old (scope_of x)) (are_among scope_of old xs) h))

  -- one more of a scope that is told
  pub among_end : (ns : List ℕ) (xs : List A) (x : A) → are_among scope_of ns xs ≡ true → has ns (scope_of x) ≡ true
      → are_among scope_of ns (xs ++ x ∷ []) ≡ true
  among_end ns xs x h k = all_of_parts (λ y. has ns (scope_of y)) xs (x ∷ []) h (and_both (has ns (scope_of x)) true k refl)

  -- one fewer
  pub among_front : (ns : List ℕ) (xs : List A) (x : A) → are_among scope_of ns (xs ++ x ∷ []) ≡ true → are_among scope_of ns xs ≡ true
  among_front ns xs x h = (all_parts (λ y. has ns (scope_of y)) xs (x ∷ []) h).0
