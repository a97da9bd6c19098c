-- The least scope with effects is the first of those that are listed by height and have some.
use Rattle.std.proofs.Common.{◌≡◌, ◌||◌, ◌&&◌, ◌⊎◌, inl, inr, ℕ, ◌<◌, ◌≤◌, Bool, true, false, List, [], ◌∷◌, length, nat_eq, nat_lt, refl, sym, ap, subst, ◌∙◌, arith}
use Rattle.std.specs.Prelude.{Option, Some, None, if◌then◌else◌}
use Rattle.std.proofs.lemmas.Bool.{eqb-true}
use Rattle.std.proofs.lemmas.Map.Keys.{sorted_head}
use Rattle.std.specs.BTreeMap.{is_at}
use Rattle.std.specs.List.Sorted.{IsStrictlySortedBy}
use Rattle.std.specs.Cmp.{Equal-is}
use Rattle.rt_lemmas.proofs.Numbers.{eq_true, lt_false, high_test as false_lt, eq_above as eq_false, eq_apart}
use Rattle.rt_model.specs.Lists.{at, has}
use Rattle.rt_model.specs.Tree.{Types}
use Rattle.rt_model.specs.State as model
use Rattle.rt_model.specs.State.{height_of}
use Rattle.rt_model.specs.Next.{is_before, least, least_from, with_effects}
use Rattle.rt_model.proofs.Maps.{by_test, eq_same, pick_false, pick_true}
use Rattle.rt_model.proofs.Members.{by_either, or_left, or_right}
use Rattle.run_owed.specs.Lists.{EachOnce, numbers_of}
use Rattle.run_state.specs.Effects.{AreListed, comes_up, effects_at, has_effects, has_rank, queues_some, rank_cmp}
use Rattle.run_state.proofs.Ranked.{behind_first, rank_exact, rank_less}

-- an order by two numbers, the second one where the first ones are equal
abbrev by_two : ℕ → ℕ → ℕ → ℕ → Bool
by_two a b s t = nat_lt a b || (nat_eq a b && nat_lt s t)

two_false : (a b s t : ℕ) → by_two a b s t ≡ false → (b < a) ⊎ ((b ≡ a) × (t ≤ s))
two_false a b s t h =
    by_test (nat_lt a b)
    (λ q. let absurdity : true ≡ false = sym (ap (λ (c : Bool). c || (nat_eq a b && nat_lt s t)) q) ∙ h in cc)
    (
    λ q.
    by_test (nat_eq a b)
    (
    λ r.
    inr (
      sym (eqb-true a b r),
      lt_false s t (sym (ap (λ (c : Bool). c || (nat_eq a b && nat_lt s t)) q ∙ ap (λ (c : Bool). c && nat_lt s t) r) ∙ h),
    )
    )
    (λ r. inl (eq_apart a b q r))
    )

false_two : (a b s t : ℕ) → (b < a) ⊎ ((b ≡ a) × (t ≤ s)) → by_two a b s t ≡ false
false_two a b s t (inl h) =
    ap (λ (c : Bool). c || (nat_eq a b && nat_lt s t)) (false_lt a b (omega (arith, h)))
    ∙ ap (λ (c : Bool). c && nat_lt s t) (eq_false b a h)
false_two a b s t (inr h) =
    ap (λ (c : Bool). c || (nat_eq a b && nat_lt s t)) (false_lt a b (omega (arith, h.0)))
    ∙ ap (λ (c : Bool). c && nat_lt s t) (eq_true a b (sym h.0))
    ∙ false_lt s t h.1

-- where neither the first is before the second nor the second before the third
through : (x y z a b c : ℕ) → (y < x) ⊎ ((y ≡ x) × (b ≤ a)) → (z < y) ⊎ ((z ≡ y) × (c ≤ b)) → by_two x z a c ≡ false
through x y z a b c (inl h) (inl g) = false_two x z a c (inl (omega (arith, h, g)))
through x y z a b c (inl h) (inr g) = false_two x z a c (inl (omega (arith, h, g.0)))
through x y z a b c (inr h) (inl g) = false_two x z a c (inl (omega (arith, h.0, g)))
through x y z a b c (inr h) (inr g) = false_two x z a c (inr (g.0 ∙ h.0, omega (arith, h.1, g.1)))

module _ {K : Types} (scopes : List (ℕ × model.Scope K)) where
  abbrev before : ℕ → ℕ → Bool
  before = λ a b. is_before scopes a b

  not_itself : (a : ℕ) → before a a ≡ false
  not_itself a = grind (arith)

  not_back : (a b : ℕ) → before a b ≡ true → before b a ≡ false
  not_back a b h = grind (arith, h)

  not_through : (a b c : ℕ) → before a b ≡ false → before b c ≡ false → before a c ≡ false
  not_through a b c h g =
      through (height_of scopes a) (height_of scopes b) (height_of scopes c) a b c (two_false (height_of scopes a) (height_of scopes b) a b h)
      (two_false (height_of scopes b) (height_of scopes c) b c g)

  one_of : (a b : ℕ) → before a b ≡ false → before b a ≡ false → a ≡ b
  one_of a b h g = grind (arith, h, g)

  least_there : (s : ℕ) (ss : List ℕ) → has (s ∷ ss) (least_from before s ss) ≡ true
  least_there s [] = or_left (nat_eq s s) false (eq_same s)
  least_there s (t ∷ ts) = by (before t s) (least_there t ts) (least_there s ts)
    where
      by : (b : Bool) → has (t ∷ ts) (least_from before t ts) ≡ true → has (s ∷ ts) (least_from before s ts) ≡ true
          → has (s ∷ t ∷ ts) (least_from before (if b then t else s) ts) ≡ true
      by true other own = or_right (nat_eq s (least_from before t ts)) (has (t ∷ ts) (least_from before t ts)) other
      by false other own =
          by_either (nat_eq s (least_from before s ts)) (has ts (least_from before s ts)) own
          (λ q. or_left (nat_eq s (least_from before s ts)) (has (t ∷ ts) (least_from before s ts)) q)
          (λ q. or_right (nat_eq s (least_from before s ts)) (has (t ∷ ts) (least_from before s ts)) (or_right (nat_eq t (least_from before s ts)) (has ts (least_from before s ts)) q))

  -- none of a list is before its least one
  least_low : (s : ℕ) (ss : List ℕ) (m : ℕ) → has (s ∷ ss) m ≡ true → before m (least_from before s ss) ≡ false
  least_low s [] m own = by_either (nat_eq s m) false own (λ q. ap (λ (n : ℕ). before n s) (sym (eqb-true s m q)) ∙ not_itself s) (λ q. absurd (cc q))
  least_low s (t ∷ ts) m own =
      by_test (before t s)
      (λ q. ap (λ (n : ℕ). before m (least_from before n ts)) (pick_true t s q) ∙ later q (least_low t ts t (or_left (nat_eq t t) (has ts t) (eq_same t))) (λ p. least_low t ts m p))
      (λ q. ap (λ (n : ℕ). before m (least_from before n ts)) (pick_false t s q) ∙ former q (least_low s ts s (or_left (nat_eq s s) (has ts s) (eq_same s))) (λ p. least_low s ts m p))
    where
      later : before t s ≡ true → before t (least_from before t ts) ≡ false → (has (t ∷ ts) m ≡ true → before m (least_from before t ts) ≡ false)
          → before m (least_from before t ts) ≡ false
      later q own_low low =
          by_either (nat_eq s m) (has (t ∷ ts) m) own
          (
          λ p.
          ap (λ (n : ℕ). before n (least_from before t ts)) (sym (eqb-true s m p))
          ∙ not_through s t (least_from before t ts) (not_back t s q) own_low
          )
          low

      former : before t s ≡ false → before s (least_from before s ts) ≡ false → (has (s ∷ ts) m ≡ true → before m (least_from before s ts) ≡ false)
          → before m (least_from before s ts) ≡ false
      former q own_low low =
          by_either (nat_eq s m) (has (t ∷ ts) m) own
          (λ p. low (or_left (nat_eq s m) (has ts m) p))
          (
          λ p.
          by_either (nat_eq t m) (has ts m) p
          (
          λ r.
          ap (λ (n : ℕ). before n (least_from before s ts)) (sym (eqb-true t m r))
          ∙ not_through t s (least_from before s ts) q own_low
          )
          (λ r. low (or_right (nat_eq s m) (has ts m) r))
          )

  -- one of a list that none is before is the least one
  least_is : (xs : List ℕ) (s : ℕ) → has xs s ≡ true → ((t : ℕ) → has xs t ≡ true → before t s ≡ false) → Some s ≡ least before xs
  least_is [] s own low = absurd (cc own)
  least_is (x ∷ xs) s own low =
      ap Some (one_of s (least_from before x xs) (least_low x xs s own) (low (least_from before x xs) (least_there x xs)))

  -- where none is in a list there is none
  least_none : (xs : List ℕ) → ((t : ℕ) → has xs t ≡ false) → None ≡ least before xs
  least_none [] none = refl
  least_none (x ∷ xs) none = absurd (cc (sym (none x) ∙ or_left (nat_eq x x) (has xs x) (eq_same x)))

  -- those that have effects to do are among pairs, with their heights
  abbrev pub AllThere : List (ℕ × ℕ) → Type 0
  AllThere ranks = (t : ℕ) → effects_at scopes t ≡ true → has_rank ranks (height_of scopes t) t ≡ true

  -- one that doesn't come up is passed over
  pub there_behind : (ranks rest : List (ℕ × ℕ)) (rank : ℕ × ℕ) → ranks ≡ rank ∷ rest → comes_up scopes rank.0 rank.1 ≡ false → AllThere ranks → AllThere rest
  there_behind ranks rest rank is passed all t q =
      by_either (is_at (rank_cmp (height_of scopes t, t)) rank) (has_rank rest (height_of scopes t) t) (ap (λ (es : List (ℕ × ℕ)). has_rank es (height_of scopes t) t) (sym is) ∙ all t q)
      (
      λ own.
      let same : (height_of scopes t, t) ≡ rank = rank_exact (height_of scopes t, t) rank ((Equal-is (rank_cmp (height_of scopes t, t) rank)).0 own) in
      absurd (cc (sym passed ∙ ap (λ (r : ℕ × ℕ). comes_up scopes r.0 r.1) (sym same) ∙ (λ i. eq_same (height_of scopes t) i && q i)))
      )
      (λ r. r)

  -- where the first one comes up, none of the others is before it
  none_before : (ranks rest : List (ℕ × ℕ)) (rank : ℕ × ℕ) → ranks ≡ rank ∷ rest → IsStrictlySortedBy rank_cmp ranks → rank.0 ≡ height_of scopes rank.1 → AllThere ranks
      → (t : ℕ) → effects_at scopes t ≡ true → before t rank.1 ≡ false
  none_before ranks rest rank is sorted level all t q =
      by_either (is_at (rank_cmp (height_of scopes t, t)) rank) (has_rank rest (height_of scopes t) t) (ap (λ (es : List (ℕ × ℕ)). has_rank es (height_of scopes t) t) (sym is) ∙ all t q)
      (
      λ own.
      let same : (height_of scopes t, t) ≡ rank = rank_exact (height_of scopes t, t) rank ((Equal-is (rank_cmp (height_of scopes t, t) rank)).0 own) in
      ap (λ (r : ℕ × ℕ). before t r.1) (sym same) ∙ not_itself t
      )
      (
      λ there.
      let after = rank_less rank (height_of scopes t, t) (behind_first rank rest (height_of scopes t) t (sorted_head rank_cmp rank rest (subst (IsStrictlySortedBy rank_cmp) is sorted)) there) in
      ap (λ (h : ℕ). by_two (height_of scopes t) h t rank.1) (sym level) ∙ false_two (height_of scopes t) rank.0 t rank.1 after
      )

-- a scope with effects to do has queued some at its height
to_do_queued : {K : Types} (o : Option (model.Scope K)) → elim o as (λ _. Bool) [ None ↦ false | Some x ↦ has_effects x ] ≡ true
    → elim o as (λ _. Bool) [ None ↦ false | Some x ↦ queues_some x (elim o as (λ _. ℕ) [ None ↦ 0 | Some y ↦ y.height ]) ] ≡ true
to_do_queued None q = q
to_do_queued {K = K} (Some x) q = by x.effects q
  where
    by : (es : List K.Effect) → elim es as (λ _. Bool) [ [] ↦ false | f ∷ fs ↦ x.mounted ] ≡ true → elim es as (λ _. Bool) [ [] ↦ false | f ∷ fs ↦ nat_eq x.height x.height ] ≡ true
    by [] p = p
    by (f ∷ fs) p = eq_same x.height

module _ {K : Types} where
  -- a row with effects to do comes first among those
  row_has : (x : model.Scope K) (n : ℕ) (rest : List ℕ) → (if x.mounted then elim x.effects as (λ _. List ℕ) [ [] ↦ rest | f ∷ fs ↦ n ∷ rest ] else rest) ≡ (if has_effects x then n ∷ rest else rest)
  row_has x n rest = by x.mounted x.effects
    where
      by : (b : Bool) (es : List K.Effect) → (if b then elim es as (λ _. List ℕ) [ [] ↦ rest | f ∷ fs ↦ n ∷ rest ] else rest) ≡ (if elim es as (λ _. Bool) [ [] ↦ false | f ∷ fs ↦ b ] then n ∷ rest else rest)
      by true [] = refl
      by true (f ∷ fs) = refl
      by false [] = refl
      by false (f ∷ fs) = refl

  -- a number that no row has has no effects
  none_has : (es : List (ℕ × model.Scope K)) (m : ℕ) → has (numbers_of es) m ≡ false → has (with_effects es) m ≡ false
  none_has [] m out = refl
  none_has (e ∷ es) m out =
      ap (λ (ns : List ℕ). has ns m) (row_has e.1 e.0 (with_effects es))
      ∙ by (has_effects e.1) (none_has es m (rest out))
    where
      apart : (a b : Bool) → (a || b) ≡ false → a ≡ false
      apart true b q = q
      apart false b q = refl

      behind : (a b : Bool) → (a || b) ≡ false → b ≡ false
      behind true b q = absurd (cc q)
      behind false b q = q

      rest : (nat_eq e.0 m || has (numbers_of es) m) ≡ false → has (numbers_of es) m ≡ false
      rest q = behind (nat_eq e.0 m) (has (numbers_of es) m) q

      by : (b : Bool) → has (with_effects es) m ≡ false → has (if b then e.0 ∷ with_effects es else with_effects es) m ≡ false
      by true q = (λ i. apart (nat_eq e.0 m) (has (numbers_of es) m) out i || q i)
      by false q = q

  -- who has effects to do, where no number stands twice
  effects_has : (es : List (ℕ × model.Scope K)) (m : ℕ) → EachOnce (numbers_of es) → has (with_effects es) m ≡ effects_at es m
  effects_has [] m once = refl
  effects_has (e ∷ es) m once =
      ap (λ (ns : List ℕ). has ns m) (row_has e.1 e.0 (with_effects es))
      ∙ by_test (nat_eq e.0 m)
      (λ q. here q (has_effects e.1) ∙ sym (ap (λ (o : Option (model.Scope K)). elim o as (λ _. Bool) [ None ↦ false | Some x ↦ has_effects x ]) (pick_true (Some e.1) (at es m) q)))
      (
      λ q.
      there q (has_effects e.1) ∙ effects_has es m once.1
      ∙ sym (ap (λ (o : Option (model.Scope K)). elim o as (λ _. Bool) [ None ↦ false | Some x ↦ has_effects x ]) (pick_false (Some e.1) (at es m) q))
      )
    where
      here : nat_eq e.0 m ≡ true → (b : Bool) → has (if b then e.0 ∷ with_effects es else with_effects es) m ≡ b
      here q true = or_left (nat_eq e.0 m) (has (with_effects es) m) q
      here q false = none_has es m (ap (λ (n : ℕ). has (numbers_of es) n) (sym (eqb-true e.0 m q)) ∙ once.0)

      there : nat_eq e.0 m ≡ false → (b : Bool) → has (if b then e.0 ∷ with_effects es else with_effects es) m ≡ has (with_effects es) m
      there q true = ap (λ (b : Bool). b || has (with_effects es) m) q
      there q false = refl

  -- all that have effects to do are listed
  pub all_there : (scopes : List (ℕ × model.Scope K)) (effects held : List (ℕ × ℕ)) → AreListed scopes effects held → AllThere scopes effects
  all_there scopes effects held h t q = h.each t (height_of scopes t) (to_do_queued (at scopes t) q)

  -- the first one that comes up is the least of all
  pub first_up : (scopes : List (ℕ × model.Scope K)) (ranks rest : List (ℕ × ℕ)) (rank : ℕ × ℕ) → EachOnce (numbers_of scopes) → ranks ≡ rank ∷ rest → IsStrictlySortedBy rank_cmp ranks
      → comes_up scopes rank.0 rank.1 ≡ true → AllThere scopes ranks → Some rank.1 ≡ least (λ s t. is_before scopes s t) (with_effects scopes)
  first_up scopes ranks rest rank once is sorted up all =
      least_is scopes (with_effects scopes) rank.1
      (effects_has scopes rank.1 once ∙ second (nat_eq rank.0 (height_of scopes rank.1)) (effects_at scopes rank.1) up)
      (
      λ t q.
      none_before scopes ranks rest rank is sorted (eqb-true rank.0 (height_of scopes rank.1) (first (nat_eq rank.0 (height_of scopes rank.1)) (effects_at scopes rank.1) up)) all t
      (sym (effects_has scopes t once) ∙ q)
      )
    where
      first : (a b : Bool) → (a && b) ≡ true → a ≡ true
      first true b q = refl
      first false b q = q

      second : (a b : Bool) → (a && b) ≡ true → b ≡ true
      second true b q = q
      second false b q = absurd (cc q)

  -- where none is left none has effects to do
  pub none_up : (scopes : List (ℕ × model.Scope K)) (ranks : List (ℕ × ℕ)) → EachOnce (numbers_of scopes) → ranks ≡ [] → AllThere scopes ranks
      → None ≡ least (λ s t. is_before scopes s t) (with_effects scopes)
  none_up scopes ranks once is all =
      least_none scopes (with_effects scopes)
      (
      λ t.
      effects_has scopes t once
      ∙ by_test (effects_at scopes t) (λ q. absurd (cc (sym (ap (λ (es : List (ℕ × ℕ)). has_rank es (height_of scopes t) t) (sym is) ∙ all t q)))) (λ q. q)
      )

-- one fewer is left
pub fewer_ranks : (ranks rest : List (ℕ × ℕ)) (rank : ℕ × ℕ) → ranks ≡ rank ∷ rest → length rest < length ranks
fewer_ranks ranks rest rank is = omega (arith, ap length is)
