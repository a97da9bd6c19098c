-- What truth values say of one another.
use Rattle.std.proofs.Common.{Bool, ap, arith, cond, false, inl, inr, not, refl, sym, true, ℕ, ◌&&◌, ◌+◌, ◌||◌, ◌∙◌, ◌≡◌, ◌⊎◌}
use Rattle.std.specs.Prelude.{if◌then◌else◌}

-- neither of two tests says yes
pub neither : (a b : Bool) → a || b ≡ false → (a ≡ false) × (b ≡ false)
neither true b h = cc
neither false b h = (refl, h)

-- with a test that says no both say no
pub and_false : (root : Bool) → root && false ≡ false
and_false true = refl
and_false false = refl

-- both of two tests say yes
pub and_both : (a b : Bool) → a ≡ true → b ≡ true → (a && b) ≡ true
and_both true b h k = k
and_both false b h k = h

-- where both say yes the first does
pub and_left : (a b : Bool) → a && b ≡ true → a ≡ true
and_left true b h = refl
and_left false b h = cc

-- of three tests the first two may be asked in either order
pub or_swapped : (a b r : Bool) → (a || (b || r)) ≡ (b || (a || r))
or_swapped true true r = refl
or_swapped true false r = refl
or_swapped false b r = refl

-- where the second says yes one does
pub or_right : (a b : Bool) → b ≡ true → (a || b) ≡ true
or_right true b h = refl
or_right false b h = h

-- where both say yes the second does
pub and_right : (a b : Bool) → a && b ≡ true → b ≡ true
and_right true b h = h
and_right false b h = cc

-- a test or one that says no is the test
pub or_none : (a : Bool) → (a || false) ≡ a
or_none true = refl
or_none false = refl

-- a test or one that says yes says yes
pub or_all : (a : Bool) → (a || true) ≡ true
or_all true = refl
or_all false = refl

-- no test says yes and no
pub contrary : {C : Type 0} (b : Bool) → b ≡ true → b ≡ false → C
contrary true h k = cc
contrary false h k = cc

-- what is denied is not so
pub not_true : (b : Bool) → not b ≡ true → b ≡ false
not_true true h = cc
not_true false h = refl

-- where neither says yes no one does
pub not_either : (a b : Bool) → a ≡ false → b ≡ false → (a || b) ≡ false
not_either a b p q = ap (λ c. c || b) p ∙ q

-- no is never yes
pub never : {P : Type 0} → false ≡ true → P
never h = cc

-- both of two tests say yes
pub both_true : {a b : Bool} → a ≡ true → b ≡ true → (a && b) ≡ true
both_true p q = rw (p, q) refl

-- with a test that says yes it is the other one
pub and_true : (b : Bool) → b && true ≡ b
and_true true = refl
and_true false = refl

-- two tests of which each says yes where the other does are one
pub agree : (b c : Bool) → (b ≡ true → c ≡ true) → (c ≡ true → b ≡ true) → b ≡ c
agree true c f g = sym (f refl)
agree false true f g = g refl
agree false false f g = refl

-- where the second says no both do
pub and_none : (c t : Bool) → t ≡ false → (c && t) ≡ false
and_none true t h = h
and_none false t h = refl

-- of something or nothing it is the first
pub first_of : {P : Type 0} → P ⊎ ⊥ → P
first_of (inl h) = h
first_of (inr h) = absurd h

-- where a count is nothing no one was counted
pub none_counted : (b : Bool) (n : ℕ) → (if b then 1 else 0) + n ≡ 0 → (b ≡ false) × (n ≡ 0)
none_counted true n h = absurd (omega (arith, h))
none_counted false n h = (refl, omega (arith, h))

-- both of two tests say yes, each
pub both_of : (b c : Bool) → b && c ≡ true → (b ≡ true) × (c ≡ true)
both_of true true h = (refl, refl)
both_of true false h = cc
both_of false c h = cc

-- no test says yes and no
pub clash : {P : Type 0} {b : Bool} → b ≡ true → b ≡ false → P
clash h g = cc

-- where the first says yes one does
pub or_left : (a b : Bool) → a ≡ true → (a || b) ≡ true
or_left a b h = rw h refl

-- no test says no and yes
pub clash_back : {P : Type 0} (b : Bool) → b ≡ false → b ≡ true → P
clash_back true h k = cc
clash_back false h k = cc

-- of three tests the first or the last two may be asked together
pub or_assoc : (a b c : Bool) → ((a || b) || c) ≡ (a || (b || c))
or_assoc true b c = refl
or_assoc false b c = refl

-- what is denied is not so, the other way round
pub not_back : (b : Bool) → true ≡ not b → b ≡ false
not_back true h = cc
not_back false h = refl

-- a test may be asked twice
pub or_twice : (b r : Bool) → (b || r) ≡ (b || (b || r))
or_twice true r = refl
or_twice false r = refl

-- where the test says yes it is the first
pub pick_true : {A : Type 0} (b : Bool) (x y : A) → b ≡ true → (if b then x else y) ≡ x
pick_true b x y h = ap (λ c. if c then x else y) h

-- where it says no it is the second
pub pick_false : {A : Type 0} (b : Bool) (x y : A) → b ≡ false → (if b then x else y) ≡ y
pick_false b x y h = ap (λ c. if c then x else y) h

-- where not both say yes, and the first does, the second says no
pub second_false : (a b : Bool) → a && b ≡ false → a ≡ true → b ≡ false
second_false true b h q = h
second_false false b h q = cc

-- a test is the same with one that says yes
pub true_and : (b : Bool) → b ≡ (b && true)
true_and true = refl
true_and false = refl

-- the first says no, and the second yes
pub not_and : (a b : Bool) → (not a && b) ≡ true → (a ≡ false) × (b ≡ true)
not_and true b h = cc
not_and false b h = (refl, h)

-- yes, or else another test
pub cond_or : (b c : Bool) → cond b true c ≡ (b || c)
cond_or true c = refl
cond_or false c = refl

-- where the second says no both do
pub and_second : (a : Bool) {b : Bool} → b ≡ false → (a && b) ≡ false
and_second true h = h
and_second false h = refl
