-- A list in its order: what a number that goes leaves, and which one comes first.
use Rattle.std.proofs.Common.{ℕ, Bool, true, false, ◌||◌, List, [], ◌∷◌, ◌++◌, ◌≡◌, refl, sym, ap, ◌∙◌, subst, nat_eq}
use Rattle.std.specs.Prelude.{if◌then◌else◌}
use Rattle.std.specs.List.{AllByRecursion}
use Rattle.rt_lemmas.proofs.Bools.{neither as one_false}
use Rattle.rt_lemmas.proofs.Numbers.{other_way}
use Rattle.rt_model.specs.Lists.{has, drop_number}
use Rattle.rt_model.specs.Next.{insert_by, sorted_by}
use Rattle.rt_model.proofs.Maps.{by_test, pick_true, pick_false, eq_same}
use Rattle.law_behavior.specs.Comes.{IsFirst}
use Rattle.law_behavior.proofs.Firsts.{IsOrder}

-- no number stands twice
abbrev pub Distinct : List ℕ → Type 0
Distinct [] = Unit {0}
Distinct (x ∷ xs) = (has xs x ≡ false) × Distinct xs

-- what isn't there goes without a change
pub drop_none : (xs : List ℕ) (s : ℕ) → has xs s ≡ false → drop_number xs s ≡ xs
drop_none [] s h = refl
drop_none (x ∷ xs) s h =
    let both = one_false (nat_eq x s) (has xs s) h in
    pick_false (drop_number xs s) (x ∷ drop_number xs s) both.0 ∙ ap (λ (ys : List ℕ). x ∷ ys) (drop_none xs s both.1)

has_both : (xs ys : List ℕ) (x : ℕ) → has (xs ++ ys) x ≡ false → (has xs x ≡ false) × (has ys x ≡ false)
has_both [] ys x h = (refl, h)
has_both (y ∷ xs) ys x h =
    let both = one_false (nat_eq y x) (has (xs ++ ys) x) h in
    let rest = has_both xs ys x both.1 in
    (ap (λ (b : Bool). b || has xs x) both.0 ∙ rest.0, rest.1)

-- one that stands once leaves the others
pub drop_once : (front back : List ℕ) (s : ℕ) → Distinct (front ++ s ∷ back) → drop_number (front ++ s ∷ back) s ≡ front ++ back
drop_once [] back s h =
    pick_true (drop_number back s) (s ∷ drop_number back s) (eq_same s) ∙ drop_none back s h.0
drop_once (x ∷ front) back s h =
    let apart = one_false (nat_eq s x) (has back x) (has_both front (s ∷ back) x h.0).1 in
    pick_false (drop_number (front ++ s ∷ back) s) (x ∷ drop_number (front ++ s ∷ back) s) (other_way s x apart.0)
    ∙ ap (λ (ys : List ℕ). x ∷ ys) (drop_once front back s h.1)

-- what a number that goes leaves
left_false : (xs : List ℕ) (s x : ℕ) → has xs x ≡ false → has (drop_number xs s) x ≡ false
left_false [] s x h = h
left_false (y ∷ xs) s x h =
    let both = one_false (nat_eq y x) (has xs x) h in
    let rest = left_false xs s x both.1 in
    by_test (nat_eq y s)
    (λ q. ap (λ (ys : List ℕ). has ys x) (pick_true (drop_number xs s) (y ∷ drop_number xs s) q) ∙ rest)
    (
    λ q.
    ap (λ (ys : List ℕ). has ys x) (pick_false (drop_number xs s) (y ∷ drop_number xs s) q)
    ∙ ap (λ (b : Bool). b || has (drop_number xs s) x) both.0
    ∙ rest
    )

pub drop_distinct : (xs : List ℕ) (s : ℕ) → Distinct xs → Distinct (drop_number xs s)
drop_distinct [] s h = tt
drop_distinct (x ∷ xs) s h =
    by_test (nat_eq x s)
    (λ q. subst (λ (ys : List ℕ). Distinct ys) (sym (pick_true (drop_number xs s) (x ∷ drop_number xs s) q)) (drop_distinct xs s h.1))
    (
    λ q.
    subst (λ (ys : List ℕ). Distinct ys) (sym (pick_false (drop_number xs s) (x ∷ drop_number xs s) q))
    (left_false xs s x h.0, drop_distinct xs s h.1)
    )

has_end : (xs : List ℕ) (s x : ℕ) → has xs x ≡ false → nat_eq s x ≡ false → has (xs ++ s ∷ []) x ≡ false
has_end [] s x h q = ap (λ (b : Bool). b || false) q
has_end (y ∷ xs) s x h q =
    let both = one_false (nat_eq y x) (has xs x) h in
    ap (λ (b : Bool). b || has (xs ++ s ∷ []) x) both.0 ∙ has_end xs s x both.1 q

pub end_distinct : (xs : List ℕ) (s : ℕ) → has xs s ≡ false → Distinct xs → Distinct (xs ++ s ∷ [])
end_distinct [] s out h = (refl, tt)
end_distinct (x ∷ xs) s out h =
    let both = one_false (nat_eq x s) (has xs s) out in
    (has_end xs s x h.0 (other_way x s both.0), end_distinct xs s both.1 h.1)

module _ (P : ℕ → Type 0) where
  pub drop_all : (xs : List ℕ) (t : ℕ) → AllByRecursion P xs → AllByRecursion P (drop_number xs t)
  drop_all [] t h = tt
  drop_all (x ∷ xs) t h =
      by_test (nat_eq x t)
      (λ q. subst (λ (ys : List ℕ). AllByRecursion P ys) (sym (pick_true (drop_number xs t) (x ∷ drop_number xs t) q)) (drop_all xs t h.1))
      (
      λ q.
      subst (λ (ys : List ℕ). AllByRecursion P ys) (sym (pick_false (drop_number xs t) (x ∷ drop_number xs t) q))
      (h.0, drop_all xs t h.1)
      )

  insert_all : (e : ℕ → ℕ → Bool) (s : ℕ) (xs : List ℕ) → P s → AllByRecursion P xs → AllByRecursion P (insert_by e s xs)
  insert_all e s [] p h = (p, tt)
  insert_all e s (x ∷ xs) p h =
      by_test (e x s)
      (
      λ q.
      subst (λ (ys : List ℕ). AllByRecursion P ys) (sym (pick_true (x ∷ insert_by e s xs) (s ∷ x ∷ xs) q))
      (h.0, insert_all e s xs p h.1)
      )
      (λ q. subst (λ (ys : List ℕ). AllByRecursion P ys) (sym (pick_false (x ∷ insert_by e s xs) (s ∷ x ∷ xs) q)) (p, h))

  sorted_all : (e : ℕ → ℕ → Bool) (xs : List ℕ) → AllByRecursion P xs → AllByRecursion P (sorted_by e xs)
  sorted_all e [] h = tt
  sorted_all e (x ∷ xs) h = insert_all e x (sorted_by e xs) h.0 (sorted_all e xs h.1)

  pub both_all : (xs ys : List ℕ) → AllByRecursion P xs → AllByRecursion P ys → AllByRecursion P (xs ++ ys)
  both_all [] ys h g = g
  both_all (x ∷ xs) ys h g = (h.0, both_all xs ys h.1 g)

pub all_map : (P Q : ℕ → Type 0) (xs : List ℕ) → ((y : ℕ) → P y → Q y) → AllByRecursion P xs → AllByRecursion Q xs
all_map P Q [] f h = tt
all_map P Q (x ∷ xs) f h = (f x h.0, all_map P Q xs f h.1)

-- one before which none comes is put first
before_all : (e : ℕ → ℕ → Bool) (s : ℕ) (xs : List ℕ) → AllByRecursion (λ (y : ℕ). e y s ≡ false) xs → insert_by e s xs ≡ s ∷ xs
before_all e s [] h = refl
before_all e s (x ∷ xs) h = pick_false (x ∷ insert_by e s xs) (s ∷ x ∷ xs) h.0

module _ (e : ℕ → ℕ → Bool) (o : IsOrder e) (apart : (s : ℕ) → e s s ≡ false) where
  -- none comes before one that it stands behind
  abbrev Sorted : List ℕ → Type 0
  Sorted [] = Unit {0}
  Sorted (x ∷ xs) = AllByRecursion (λ (y : ℕ). e y x ≡ false) xs × Sorted xs

  insert_sorted : (s : ℕ) (xs : List ℕ) → Sorted xs → Sorted (insert_by e s xs)
  insert_sorted s [] h = (tt, tt)
  insert_sorted s (x ∷ xs) h =
      by_test (e x s)
      (
      λ q.
      subst (λ (ys : List ℕ). Sorted ys) (sym (pick_true (x ∷ insert_by e s xs) (s ∷ x ∷ xs) q))
      (insert_all (λ (y : ℕ). e y x ≡ false) e s xs (o.above x s x (apart x) q) h.0, insert_sorted s xs h.1)
      )
      (
      λ q.
      subst (λ (ys : List ℕ). Sorted ys) (sym (pick_false (x ∷ insert_by e s xs) (s ∷ x ∷ xs) q))
      ((q, all_map (λ y. e y x ≡ false) (λ y. e y s ≡ false) xs (λ y g. o.level x y s q g) h.0), h)
      )

  sorted_is : (xs : List ℕ) → Sorted (sorted_by e xs)
  sorted_is [] = tt
  sorted_is (x ∷ xs) = insert_sorted x (sorted_by e xs) (sorted_is xs)

  -- a number goes before or after another one has taken its place
  drop_insert : (t s : ℕ) (xs : List ℕ) → Sorted xs
      → drop_number (insert_by e s xs) t ≡ (if nat_eq s t then drop_number xs t else insert_by e s (drop_number xs t))
  drop_insert t s [] h = refl
  drop_insert t s (x ∷ xs) h = by_test (e x s) (later (drop_insert t s xs h.1)) earlier
    where
      whole : List ℕ
      whole = drop_number (x ∷ xs) t

      later : drop_number (insert_by e s xs) t ≡ (if nat_eq s t then drop_number xs t else insert_by e s (drop_number xs t)) → e x s ≡ true
          → drop_number (insert_by e s (x ∷ xs)) t ≡ (if nat_eq s t then whole else insert_by e s whole)
      later rest q =
          let first : drop_number (insert_by e s (x ∷ xs)) t ≡ drop_number (x ∷ insert_by e s xs) t =
          ap (λ (ys : List ℕ). drop_number ys t) (pick_true (x ∷ insert_by e s xs) (s ∷ x ∷ xs) q) in
          by_test (nat_eq x t)
          (
          λ r.
          first
          ∙ pick_true (drop_number (insert_by e s xs) t) (x ∷ drop_number (insert_by e s xs) t) r
          ∙ rest
          ∙ sym (ap (λ (ys : List ℕ). if nat_eq s t then ys else insert_by e s ys) (pick_true (drop_number xs t) (x ∷ drop_number xs t) r))
          )
          (
          λ r.
          let left : whole ≡ x ∷ drop_number xs t = pick_false (drop_number xs t) (x ∷ drop_number xs t) r in
          first
          ∙ pick_false (drop_number (insert_by e s xs) t) (x ∷ drop_number (insert_by e s xs) t) r
          ∙ ap (λ (ys : List ℕ). x ∷ ys) rest
          ∙ by_test (nat_eq s t)
          (
          λ p.
          ap (λ (ys : List ℕ). x ∷ ys) (pick_true (drop_number xs t) (insert_by e s (drop_number xs t)) p)
          ∙ sym left
          ∙ sym (pick_true whole (insert_by e s whole) p)
          )
          (
          λ p.
          ap (λ (ys : List ℕ). x ∷ ys) (pick_false (drop_number xs t) (insert_by e s (drop_number xs t)) p)
          ∙ sym (pick_true (x ∷ insert_by e s (drop_number xs t)) (s ∷ x ∷ drop_number xs t) q)
          ∙ sym (ap (λ (ys : List ℕ). insert_by e s ys) left)
          ∙ sym (pick_false whole (insert_by e s whole) p)
          )
          )

      earlier : e x s ≡ false → drop_number (insert_by e s (x ∷ xs)) t ≡ (if nat_eq s t then whole else insert_by e s whole)
      earlier q =
          let behind : AllByRecursion (λ (y : ℕ). e y s ≡ false) (x ∷ xs) =
          (q, all_map (λ y. e y x ≡ false) (λ y. e y s ≡ false) xs (λ y g. o.level x y s q g) h.0) in
          let first : drop_number (insert_by e s (x ∷ xs)) t ≡ drop_number (s ∷ x ∷ xs) t =
          ap (λ (ys : List ℕ). drop_number ys t) (pick_false (x ∷ insert_by e s xs) (s ∷ x ∷ xs) q) in
          let put : insert_by e s whole ≡ s ∷ whole = before_all e s whole (drop_all (λ (y : ℕ). e y s ≡ false) (x ∷ xs) t behind) in
          by_test (nat_eq s t)
          (λ p. first ∙ pick_true whole (s ∷ whole) p ∙ sym (pick_true whole (insert_by e s whole) p))
          (λ p. first ∙ pick_false whole (s ∷ whole) p ∙ sym put ∙ sym (pick_false whole (insert_by e s whole) p))

  -- a number goes before or after a list is put in order
  pub drop_sorted : (xs : List ℕ) (t : ℕ) → sorted_by e (drop_number xs t) ≡ drop_number (sorted_by e xs) t
  drop_sorted [] t = refl
  drop_sorted (x ∷ xs) t =
      let rest = drop_sorted xs t in
      let there = drop_insert t x (sorted_by e xs) (sorted_is xs) in
      by_test (nat_eq x t)
      (
      λ q.
      ap (λ (ys : List ℕ). sorted_by e ys) (pick_true (drop_number xs t) (x ∷ drop_number xs t) q)
      ∙ rest
      ∙ sym (pick_true (drop_number (sorted_by e xs) t) (insert_by e x (drop_number (sorted_by e xs) t)) q)
      ∙ sym there
      )
      (
      λ q.
      ap (λ (ys : List ℕ). sorted_by e ys) (pick_false (drop_number xs t) (x ∷ drop_number xs t) q)
      ∙ ap (λ (ys : List ℕ). insert_by e x ys) rest
      ∙ sym (pick_false (drop_number (sorted_by e xs) t) (insert_by e x (drop_number (sorted_by e xs) t)) q)
      ∙ sym there
      )

  -- the first of the least ones comes first
  first_sorted : (front back : List ℕ) (s : ℕ) → AllByRecursion (λ (y : ℕ). e s y ≡ true) front
      → AllByRecursion (λ (y : ℕ). e y s ≡ false) back
      → sorted_by e (front ++ s ∷ back) ≡ s ∷ sorted_by e (front ++ back)
  first_sorted [] back s h g = before_all e s (sorted_by e back) (sorted_all (λ (y : ℕ). e y s ≡ false) e back g)
  first_sorted (x ∷ front) back s h g =
      ap (λ (ys : List ℕ). insert_by e x ys) (first_sorted front back s h.1 g)
      ∙ pick_true (s ∷ insert_by e x (sorted_by e (front ++ back))) (x ∷ s ∷ sorted_by e (front ++ back)) h.0

  -- so it is rerun next, and the others are left in their order
  pub turn_sorted : (xs : List ℕ) (s : ℕ) → IsFirst e s xs → Distinct xs → sorted_by e xs ≡ s ∷ sorted_by e (drop_number xs s)
  turn_sorted xs s f h =
      let stands : xs ≡ f.front ++ s ∷ f.back = f.stands in
      let once : Distinct (f.front ++ s ∷ f.back) = subst (λ (ys : List ℕ). Distinct ys) stands h in
      ap (λ (ys : List ℕ). sorted_by e ys) stands
      ∙ first_sorted f.front f.back s f.later f.no_earlier
      ∙ ap (λ (ys : List ℕ). s ∷ sorted_by e ys) (sym (ap (λ (ys : List ℕ). drop_number ys s) stands ∙ drop_once f.front f.back s once))

-- orders that agree on a list put it in the same order

abbrev Agrees : (e f : ℕ → ℕ → Bool) → List ℕ → Type 0
Agrees e f [] = Unit {0}
Agrees e f (x ∷ xs) = AllByRecursion (λ (y : ℕ). e y x ≡ f y x) xs × Agrees e f xs

same_insert : (e f : ℕ → ℕ → Bool) (s : ℕ) (xs : List ℕ) → AllByRecursion (λ (y : ℕ). e y s ≡ f y s) xs → insert_by e s xs ≡ insert_by f s xs
same_insert e f s [] h = refl
same_insert e f s (x ∷ xs) h =
    ap (λ (b : Bool). if b then x ∷ insert_by e s xs else s ∷ x ∷ xs) h.0
    ∙ ap (λ (ys : List ℕ). if f x s then x ∷ ys else s ∷ x ∷ xs) (same_insert e f s xs h.1)

same_sorted : (e f : ℕ → ℕ → Bool) (xs : List ℕ) → Agrees e f xs → sorted_by e xs ≡ sorted_by f xs
same_sorted e f [] h = refl
same_sorted e f (x ∷ xs) h =
    ap (λ (ys : List ℕ). insert_by e x ys) (same_sorted e f xs h.1)
    ∙ same_insert e f x (sorted_by f xs) (sorted_all (λ (y : ℕ). e y x ≡ f y x) f xs h.0)

agrees : (e f : ℕ → ℕ → Bool) (P : ℕ → Type 0) → ((x y : ℕ) → P x → P y → e x y ≡ f x y) → (xs : List ℕ) → AllByRecursion P xs → Agrees e f xs
agrees e f P g [] h = tt
agrees e f P g (x ∷ xs) h = (all_map P (λ y. e y x ≡ f y x) xs (λ y p. g y x p h.0) h.1, agrees e f P g xs h.1)

pub agree_sorted : (e f : ℕ → ℕ → Bool) (P : ℕ → Type 0) → ((x y : ℕ) → P x → P y → e x y ≡ f x y) → (xs : List ℕ) → AllByRecursion P xs
    → sorted_by e xs ≡ sorted_by f xs
agree_sorted e f P g xs h = same_sorted e f xs (agrees e f P g xs h)
