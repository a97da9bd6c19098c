-- The first of the least ones of a list, by a test that orders.
use Rattle.std.proofs.Common.{ℕ, ◌+◌, ◌≤◌, ◌<◌, ◌⊎◌, inl, inr, Bool, true, false, ◌&&◌, ◌||◌, List, [], ◌∷◌, ◌++◌, ◌≡◌, length, refl, sym, ap, ◌∙◌, subst, nat_eq, nat_lt, arith}
use Rattle.std.proofs.lemmas.Bool.{eqb-true}
use Rattle.std.specs.Prelude.{Some, if◌then◌else◌}
use Rattle.std.specs.List.{AllByRecursion}
use Rattle.rt_lemmas.proofs.Numbers.{eq_true, lt_true, lt_false, high_test as false_lt, eq_above as eq_false, low_test as true_lt, eq_apart}
pub use Rattle.law_moves.proofs.Settled.{no_least as none_least}
use Rattle.rt_model.specs.Lists.{drop_number}
use Rattle.rt_model.specs.Tree.{Types}
use Rattle.rt_model.specs.State.{Scope, height_of}
use Rattle.rt_model.specs.Next.{least_from, least, is_before}
use Rattle.rt_model.proofs.Maps.{by_test, pick_true, pick_false, eq_same}
use Rattle.law_behavior.specs.Comes.{IsFirst}

pub record IsOrder (earlier : ℕ → ℕ → Bool) : Type 0 where
  pub through : (a b c : ℕ) → earlier a b ≡ true → earlier b c ≡ true → earlier a c ≡ true
  pub below : (a b c : ℕ) → earlier a b ≡ true → earlier c b ≡ false → earlier a c ≡ true
  pub above : (a b c : ℕ) → earlier a c ≡ false → earlier a b ≡ true → earlier b c ≡ false
  pub level : (a b c : ℕ) → earlier a c ≡ false → earlier b a ≡ false → earlier b c ≡ false

-- an order by two numbers, the second one where the first ones are equal

abbrev by_two : ℕ → ℕ → ℕ → ℕ → Bool
by_two a b s t = nat_lt a b || (nat_eq a b && nat_lt s t)

two_true : (a b s t : ℕ) → by_two a b s t ≡ true → (a < b) ⊎ ((a ≡ b) × (s < t))
two_true a b s t h =
    by_test (nat_lt a b)
    (λ q. inl (lt_true a b q))
    (
    λ q.
    by_test (nat_eq a b)
    (
    λ r.
    inr (
      eqb-true a b r,
      lt_true s t (sym (ap (λ (c : Bool). c || (nat_eq a b && nat_lt s t)) q ∙ ap (λ (c : Bool). c && nat_lt s t) r) ∙ h),
    )
    )
    (
    λ r.
    let absurdity : false ≡ true = sym (ap (λ (c : Bool). c || (nat_eq a b && nat_lt s t)) q ∙ ap (λ (c : Bool). c && nat_lt s t) r) ∙ h in
    cc
    )
    )

true_two : (a b s t : ℕ) → (a < b) ⊎ ((a ≡ b) × (s < t)) → by_two a b s t ≡ true
true_two a b s t (inl h) = ap (λ (c : Bool). c || (nat_eq a b && nat_lt s t)) (true_lt a b h)
true_two a b s t (inr h) =
    let level : nat_lt a b ≡ false = false_lt a b (omega (arith, h.0)) in
    ap (λ (c : Bool). c || (nat_eq a b && nat_lt s t)) level
    ∙ ap (λ (c : Bool). c && nat_lt s t) (eq_true a b h.0)
    ∙ true_lt s t h.1

two_false : (a b s t : ℕ) → by_two a b s t ≡ false → (b < a) ⊎ ((b ≡ a) × (t ≤ s))
two_false a b s t h =
    by_test (nat_lt a b)
    (λ q. let absurdity : true ≡ false = sym (ap (λ (c : Bool). c || (nat_eq a b && nat_lt s t)) q) ∙ h in cc)
    (
    λ q.
    by_test (nat_eq a b)
    (
    λ r.
    inr (
      sym (eqb-true a b r),
      lt_false s t (sym (ap (λ (c : Bool). c || (nat_eq a b && nat_lt s t)) q ∙ ap (λ (c : Bool). c && nat_lt s t) r) ∙ h),
    )
    )
    (λ r. inl (eq_apart a b q r))
    )

false_two : (a b s t : ℕ) → (b < a) ⊎ ((b ≡ a) × (t ≤ s)) → by_two a b s t ≡ false
false_two a b s t (inl h) =
    ap (λ (c : Bool). c || (nat_eq a b && nat_lt s t)) (false_lt a b (omega (arith, h)))
    ∙ ap (λ (c : Bool). c && nat_lt s t) (eq_false b a h)
false_two a b s t (inr h) =
    ap (λ (c : Bool). c || (nat_eq a b && nat_lt s t)) (false_lt a b (omega (arith, h.0)))
    ∙ ap (λ (c : Bool). c && nat_lt s t) (eq_true a b (sym h.0))
    ∙ false_lt s t h.1

two_order : (f : ℕ → ℕ) → IsOrder (λ a b. by_two (f a) (f b) a b)
two_order f =
    record {
      through = λ a b c h g. through a b c (two_true (f a) (f b) a b h) (two_true (f b) (f c) b c g);
      below = λ a b c h g. below a b c (two_true (f a) (f b) a b h) (two_false (f c) (f b) c b g);
      above = λ a b c h g. above a b c (two_false (f a) (f c) a c h) (two_true (f a) (f b) a b g);
      level = λ a b c h g. level a b c (two_false (f a) (f c) a c h) (two_false (f b) (f a) b a g);
    }
  where
    through : (a b c : ℕ) → (f a < f b) ⊎ ((f a ≡ f b) × (a < b)) → (f b < f c) ⊎ ((f b ≡ f c) × (b < c)) → by_two (f a) (f c) a c ≡ true
    through a b c (inl h) (inl g) = true_two (f a) (f c) a c (inl (omega (arith, h, g)))
    through a b c (inl h) (inr g) = true_two (f a) (f c) a c (inl (omega (arith, h, g.0)))
    through a b c (inr h) (inl g) = true_two (f a) (f c) a c (inl (omega (arith, h.0, g)))
    through a b c (inr h) (inr g) = true_two (f a) (f c) a c (inr (h.0 ∙ g.0, omega (arith, h.1, g.1)))

    below : (a b c : ℕ) → (f a < f b) ⊎ ((f a ≡ f b) × (a < b)) → (f b < f c) ⊎ ((f b ≡ f c) × (b ≤ c)) → by_two (f a) (f c) a c ≡ true
    below a b c (inl h) (inl g) = true_two (f a) (f c) a c (inl (omega (arith, h, g)))
    below a b c (inl h) (inr g) = true_two (f a) (f c) a c (inl (omega (arith, h, g.0)))
    below a b c (inr h) (inl g) = true_two (f a) (f c) a c (inl (omega (arith, h.0, g)))
    below a b c (inr h) (inr g) = true_two (f a) (f c) a c (inr (h.0 ∙ g.0, omega (arith, h.1, g.1)))

    above : (a b c : ℕ) → (f c < f a) ⊎ ((f c ≡ f a) × (c ≤ a)) → (f a < f b) ⊎ ((f a ≡ f b) × (a < b)) → by_two (f b) (f c) b c ≡ false
    above a b c (inl h) (inl g) = false_two (f b) (f c) b c (inl (omega (arith, h, g)))
    above a b c (inl h) (inr g) = false_two (f b) (f c) b c (inl (omega (arith, h, g.0)))
    above a b c (inr h) (inl g) = false_two (f b) (f c) b c (inl (omega (arith, h.0, g)))
    above a b c (inr h) (inr g) = false_two (f b) (f c) b c (inr (h.0 ∙ g.0, omega (arith, h.1, g.1)))

    level : (a b c : ℕ) → (f c < f a) ⊎ ((f c ≡ f a) × (c ≤ a)) → (f a < f b) ⊎ ((f a ≡ f b) × (a ≤ b)) → by_two (f b) (f c) b c ≡ false
    level a b c (inl h) (inl g) = false_two (f b) (f c) b c (inl (omega (arith, h, g)))
    level a b c (inl h) (inr g) = false_two (f b) (f c) b c (inl (omega (arith, h, g.0)))
    level a b c (inr h) (inl g) = false_two (f b) (f c) b c (inl (omega (arith, h.0, g)))
    level a b c (inr h) (inr g) = false_two (f b) (f c) b c (inr (h.0 ∙ g.0, omega (arith, h.1, g.1)))

module _ {K : Types} where
  pub scopes_order : (scopes : List (ℕ × Scope K)) → IsOrder (λ a b. is_before scopes a b)
  scopes_order scopes = two_order (λ s. height_of scopes s)

pub order_by : (earlier : ℕ → ℕ → Bool) (f : ℕ → ℕ) → IsOrder earlier → IsOrder (λ a b. earlier (f a) (f b))
order_by earlier f o =
    record {
      through = λ a b c h g. o.through (f a) (f b) (f c) h g;
      below = λ a b c h g. o.below (f a) (f b) (f c) h g;
      above = λ a b c h g. o.above (f a) (f b) (f c) h g;
      level = λ a b c h g. o.level (f a) (f b) (f c) h g;
    }

module _ (earlier : ℕ → ℕ → Bool) (o : IsOrder earlier) where
  first_alone : (s : ℕ) → IsFirst earlier s (s ∷ [])
  first_alone s = record { front = []; back = []; stands = refl; later = tt; no_earlier = tt }

  -- an earlier item took the place of the one before it
  behind : (s t x : ℕ) (ts front back : List ℕ) → earlier t s ≡ true → t ∷ ts ≡ front ++ x ∷ back → AllByRecursion (λ (y : ℕ). earlier x y ≡ true) front → earlier x s ≡ true
  behind s t x ts [] back h e l = let same : t ≡ x = cc in subst (λ (n : ℕ). earlier n s ≡ true) same h
  behind s t x ts (f ∷ front) back h e l = let same : t ≡ f = cc in o.through x t s (subst (λ (n : ℕ). earlier x n ≡ true) (sym same) l.0) h

  -- an item that isn't earlier joins behind the first one
  passed : (s t x : ℕ) (ts front back : List ℕ) → earlier t s ≡ false → s ∷ ts ≡ front ++ x ∷ back → AllByRecursion (λ (y : ℕ). earlier x y ≡ true) front
      → AllByRecursion (λ (y : ℕ). earlier y x ≡ false) back → IsFirst earlier x (s ∷ t ∷ ts)
  passed s t x ts [] back h e l n =
      let same : s ≡ x = cc in
      let rest : ts ≡ back = cc in
      record {
        front = [];
        back = t ∷ back;
        stands = ap (λ (k : ℕ). k ∷ t ∷ ts) same ∙ ap (λ (ys : List ℕ). x ∷ t ∷ ys) rest;
        later = tt;
        no_earlier = (subst (λ (k : ℕ). earlier t k ≡ false) same h, n);
      }
  passed s t x ts (f ∷ front) back h e l n =
      let same : s ≡ f = cc in
      let rest : ts ≡ front ++ x ∷ back = cc in
      let first : earlier x s ≡ true = subst (λ (k : ℕ). earlier x k ≡ true) (sym same) l.0 in
      record {
        front = s ∷ t ∷ front;
        back = back;
        stands = ap (λ (ys : List ℕ). s ∷ t ∷ ys) rest;
        later = (first, (o.below x s t first h, l.1));
        no_earlier = n;
      }

  pub least_first : (s : ℕ) (ts : List ℕ) → IsFirst earlier (least_from earlier s ts) (s ∷ ts)
  least_first s [] = first_alone s
  least_first s (t ∷ ts) =
      by_test (earlier t s)
      (
      λ q.
      let rest : IsFirst earlier (least_from earlier t ts) (t ∷ ts) = least_first t ts in
      let same : least_from earlier s (t ∷ ts) ≡ least_from earlier t ts = ap (λ (k : ℕ). least_from earlier k ts) (pick_true t s q) in
      subst (λ (k : ℕ). IsFirst earlier k (s ∷ t ∷ ts)) (sym same)
      (record {
        front = s ∷ rest.front;
        back = rest.back;
        stands = ap (λ (ys : List ℕ). s ∷ ys) rest.stands;
        later = (behind s t (least_from earlier t ts) ts rest.front rest.back q rest.stands rest.later, rest.later);
        no_earlier = rest.no_earlier;
      })
      )
      (
      λ q.
      let rest : IsFirst earlier (least_from earlier s ts) (s ∷ ts) = least_first s ts in
      let same : least_from earlier s (t ∷ ts) ≡ least_from earlier s ts = ap (λ (k : ℕ). least_from earlier k ts) (pick_false t s q) in
      subst (λ (k : ℕ). IsFirst earlier k (s ∷ t ∷ ts)) (sym same)
      (passed s t (least_from earlier s ts) ts rest.front rest.back q rest.stands rest.later rest.no_earlier)
      )

  pub first_of_least : (xs : List ℕ) (x : ℕ) → least earlier xs ≡ Some x → IsFirst earlier x xs
  first_of_least [] x h = cc
  first_of_least (s ∷ ss) x h = let same : least_from earlier s ss ≡ x = cc in subst (λ (k : ℕ). IsFirst earlier k (s ∷ ss)) same (least_first s ss)

-- what holds of all that come later and of all that come no earlier holds of the whole list
pub all_first : (P : ℕ → Type 0) (front back : List ℕ) (x : ℕ) → AllByRecursion P front → P x → AllByRecursion P back → AllByRecursion P (front ++ x ∷ back)
all_first P [] back x f p b = (p, b)
all_first P (y ∷ front) back x f p b = (f.0, all_first P front back x f.1 p b)

pub all_map : (P Q : ℕ → Type 0) (xs : List ℕ) → ((x : ℕ) → P x → Q x) → AllByRecursion P xs → AllByRecursion Q xs
all_map P Q [] f h = tt
all_map P Q (x ∷ xs) f h = (f x h.0, all_map P Q xs f h.1)

-- a number that is taken out of a list leaves it shorter

no_longer : (xs : List ℕ) (n : ℕ) → length (drop_number xs n) ≤ length xs
no_longer [] n = omega arith
no_longer (x ∷ xs) n = one (nat_eq x n) (no_longer xs n)
  where
    one : (b : Bool) → length (drop_number xs n) ≤ length xs → length (if b then drop_number xs n else x ∷ drop_number xs n) ≤ length (x ∷ xs)
    one true h = omega (arith, h)
    one false h = omega (arith, h)

pub shorter : (front back : List ℕ) (n : ℕ) → length (drop_number (front ++ n ∷ back) n) + 1 ≤ length (front ++ n ∷ back)
shorter [] back n =
    subst (λ (ys : List ℕ). length ys + 1 ≤ length (n ∷ back)) (sym (pick_true (drop_number back n) (n ∷ drop_number back n) (eq_same n)))
    (let h = no_longer back n in omega (arith, h))
shorter (x ∷ front) back n = one (nat_eq x n) (shorter front back n)
  where
    one : (b : Bool) → length (drop_number (front ++ n ∷ back) n) + 1 ≤ length (front ++ n ∷ back)
        → length (if b then drop_number (front ++ n ∷ back) n else x ∷ drop_number (front ++ n ∷ back) n) + 1 ≤ length (x ∷ (front ++ n ∷ back))
    one true h = omega (arith, h)
    one false h = omega (arith, h)
