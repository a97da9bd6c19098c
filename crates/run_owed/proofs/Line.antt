-- A line to which numbers came, one after another: one more, one less, the first, and a look.
use Rattle.std.proofs.Common.{◌≡◌, ℕ, Bool, true, false, cond, not, ◌||◌, List, [], ◌∷◌, ◌++◌, map, eqb, nat_eq, refl, ap, ◌∙◌, sym, subst, Some, arith}
use Rattle.std.specs.Prelude.{if◌then◌else◌, option_map}
use Rattle.std.proofs.lemmas.Bool.{or_parts, or_from, or_left, or_right, eqb-true, eq-eqb, both_ways}
use Rattle.std.proofs.lemmas.Bool.Decides.{nat_tests}
use Rattle.rt_model.specs.Lists.{drop_number, has, join}
use Rattle.rt_model.specs.Next.{least, least_from}
use Rattle.run_owed.specs.Lists.{EachOnce, joins}
use Rattle.run_owed.specs.Stands.{line, under}
use Rattle.rt_sched.specs.Order.{order_before}
use Rattle.rt_sched.specs.Lines.{first_in, order_in, waits, with_last, with_waiting, without_waiting}
use Rattle.rt_sched.specs.Queues.{without_tasks_of}
use Rattle.rt_sched.specs.Rosters.{all_waiting, stands_under}
use Rattle.rt_sched.specs.declared.order.ScopeOrder.{ScopeOrder}
use Rattle.rt_sched.proofs.Lined.{all_into, leaves_all, waits_with_waiting}
use Rattle.rt_sched.proofs.RollLemmas.{order_in_with_last, order_stands, waits_with_last}

-- whether the order of one number comes before that of another
abbrev pub earlier : (ℕ → ScopeOrder) → ℕ → ℕ → Bool
earlier order n m = order_before (order n) (order m)

turned : (m n : ℕ) → nat_eq m n ≡ eqb n m
turned m n = grind (arith, nat_tests)

module _ (order : ℕ → ScopeOrder) where
  -- ---- one more
  all_more : (ps es : List (ScopeOrder × ℕ)) (p : ScopeOrder × ℕ) → all_waiting (ps ++ p ∷ []) es ≡ with_waiting p.0 p.1 (all_waiting ps es)
  all_more [] es p = refl
  all_more (q ∷ ps) es p = all_more ps (with_waiting q.0 q.1 es) p

  map_more : (ns : List ℕ) (n : ℕ) → map (under order) (ns ++ n ∷ []) ≡ map (under order) ns ++ under order n ∷ []
  map_more [] n = refl
  map_more (m ∷ ns) n = ap (λ (ps : List (ScopeOrder × ℕ)). under order m ∷ ps) (map_more ns n)

  or_turned : (a b c : Bool) → (a || (b || c)) ≡ ((b || a) || c)
  or_turned true true c = refl
  or_turned true false c = refl
  or_turned false b c = or_left_none b c
    where
      or_left_none : (b c : Bool) → (b || c) ≡ ((b || false) || c)
      or_left_none true c = refl
      or_left_none false c = refl

  waits_into : (n : ℕ) (ns : List ℕ) (es : List (ScopeOrder × ℕ)) → waits n (all_waiting (map (under order) ns) es) ≡ (has ns n || waits n es)
  waits_into n [] es = refl
  waits_into n (m ∷ ns) es =
      waits_into n ns (with_waiting (order m) m es)
      ∙ ap (λ (b : Bool). has ns n || b) (waits_with_waiting n m (order m) es)
      ∙ ap (λ (b : Bool). has ns n || (b || waits n es)) (sym (turned m n))
      ∙ or_turned (has ns n) (nat_eq m n) (waits n es)

  or_none : (b : Bool) → (b || false) ≡ b
  or_none true = refl
  or_none false = refl

  pub waits_line : (n : ℕ) (ns : List ℕ) → waits n (line order ns) ≡ has ns n
  waits_line n ns = waits_into n ns [] ∙ or_none (has ns n)

  pub join_line : (ns : List ℕ) (n : ℕ) → line order (join ns n) ≡ with_waiting (order n) n (line order ns)
  join_line ns n =
      (elim (has ns n) as (λ b. has ns n ≡ b → line order (cond b ns (ns ++ n ∷ [])) ≡ with_waiting (order n) n (line order ns)) [
        | true ↦ λ t. let there : waits n (line order ns) ≡ true = waits_line n ns ∙ t in rw there refl
        | false ↦ λ _. ap (λ (ps : List (ScopeOrder × ℕ)). all_waiting ps []) (map_more ns n) ∙ all_more (map (under order) ns) [] (under order n)
      ]) refl

  -- ---- one less
  map_less : (ns : List ℕ) (n : ℕ) → map (under order) (drop_number ns n) ≡ without_waiting n (map (under order) ns)
  map_less [] n = refl
  map_less (m ∷ ns) n =
      by (nat_eq m n) (eqb n m) (turned m n) (map_less ns n)
    where
      by : (a b : Bool) → a ≡ b → map (under order) (drop_number ns n) ≡ without_waiting n (map (under order) ns)
          → map (under order) (if a then drop_number ns n else m ∷ drop_number ns n) ≡ cond (not b) (under order m ∷ without_waiting n (map (under order) ns)) (without_waiting n (map (under order) ns))
      by true true is rest = rest
      by false false is rest = ap (λ (ps : List (ScopeOrder × ℕ)). under order m ∷ ps) rest
      by true false is rest = absurd (cc is)
      by false true is rest = absurd (cc is)

  pub drop_line : (ns : List ℕ) (n : ℕ) → line order (drop_number ns n) ≡ without_waiting n (line order ns)
  drop_line ns n = ap (λ (ps : List (ScopeOrder × ℕ)). all_waiting ps []) (map_less ns n) ∙ sym (leaves_all n (map (under order) ns) [] tt)

  -- ---- the first
  -- none of these waits
  abbrev pub Apart : List ℕ → List (ScopeOrder × ℕ) → Type 0
  Apart [] es = Unit {0}
  Apart (n ∷ ns) es = (waits n es ≡ false) × Apart ns es

  pub apart_more : (ns : List ℕ) (o : ScopeOrder) (n : ℕ) (es : List (ScopeOrder × ℕ)) → has ns n ≡ false → Apart ns es → Apart ns (with_last o n es)
  apart_more [] o n es other a = tt
  apart_more (m ∷ ns) o n es other a =
      let parts = or_parts (nat_eq m n) (has ns n) other in
      let m_other : eqb m n ≡ false = flipped m n ∙ parts.0 in
      (waits_with_last m n o es ∙ or_from (eqb m n) (waits m es) m_other a.0, apart_more ns o n es parts.1 a.1)
    where
      flipped : (m n : ℕ) → eqb m n ≡ nat_eq m n
      flipped m n = grind (arith, nat_tests)

  -- the first of one more
  first_more : (s n : ℕ) (es : List (ScopeOrder × ℕ)) → first_in es ≡ Some (under order s) → first_in (with_last (order n) n es) ≡ Some (under order (if earlier order n s then n else s))
  first_more s n [] is = absurd (cc is)
  first_more s n (e ∷ es) is =
      let own : e ≡ under order s = cc in
      subst (λ (d : ScopeOrder × ℕ). first_in (cond (order_before (order n) d.0) ((order n, n) ∷ d ∷ es) (d ∷ with_last (order n) n es)) ≡ Some (under order (if earlier order n s then n else s))) (sym own)
      (by (earlier order n s))
    where
      by : (b : Bool) → first_in (cond b ((order n, n) ∷ under order s ∷ es) (under order s ∷ with_last (order n) n es)) ≡ Some (under order (if b then n else s))
      by true = refl
      by false = refl

  first_from : (ns : List ℕ) (s : ℕ) (es : List (ScopeOrder × ℕ)) → EachOnce ns → Apart ns es → first_in es ≡ Some (under order s)
      → first_in (all_waiting (map (under order) ns) es) ≡ Some (under order (least_from (earlier order) s ns))
  first_from [] s es once a is = is
  first_from (n ∷ ns) s es once a is =
      let came : with_waiting (order n) n es ≡ with_last (order n) n es = rw a.0 refl in
      ap (λ (fs : List (ScopeOrder × ℕ)). first_in (all_waiting (map (under order) ns) fs)) came
      ∙ first_from ns (if earlier order n s then n else s) (with_last (order n) n es) once.1 (apart_more ns (order n) n es once.0 a.1) (first_more s n es is)

  alone : (s : ℕ) (ns : List ℕ) → has ns s ≡ false → Apart ns (under order s ∷ [])
  alone s ns other = apart_more ns (order s) s [] other (none ns)
    where
      none : (ns : List ℕ) → Apart ns []
      none [] = tt
      none (n ∷ ns) = (refl, none ns)

  pub line_least : (ns : List ℕ) → EachOnce ns → first_in (line order ns) ≡ option_map (under order) (least (earlier order) ns)
  line_least [] once = refl
  line_least (s ∷ ns) once = first_from ns s (under order s ∷ []) once.1 (alone s ns once.0) refl

  -- ---- a look
  all_join : (ws ns : List ℕ) → all_waiting (map (under order) ws) (line order ns) ≡ line order (joins ns ws)
  all_join [] ns = refl
  all_join (w ∷ ws) ns = ap (all_waiting (map (under order) ws)) (sym (join_line ns w)) ∙ all_join ws (join ns w)

  pub look_line : (ws ns : List ℕ) → all_waiting (line order ws) (line order ns) ≡ line order (joins ns ws)
  look_line ws ns = all_into (map (under order) ws) [] (line order ns) tt ∙ all_join ws ns

  -- ---- one more, whether it was there or not
  pub push_line : (ns : List ℕ) (n : ℕ) → line order (ns ++ n ∷ []) ≡ with_waiting (order n) n (line order ns)
  push_line ns n = ap (λ (ps : List (ScopeOrder × ℕ)). all_waiting ps []) (map_more ns n) ∙ all_more (map (under order) ns) [] (under order n)

  -- ---- the order of one
  abbrev Own : List (ScopeOrder × ℕ) → Type 0
  Own es = (m : ℕ) → waits m es ≡ true → order_in m es ≡ Some (order m)

  own_more : (n : ℕ) (es : List (ScopeOrder × ℕ)) → Own es → Own (with_waiting (order n) n es)
  own_more n es own =
      (elim (waits n es) as (λ b. waits n es ≡ b → Own (cond b es (with_last (order n) n es))) [
        | true ↦ λ _. own
        | false ↦ λ none. λ m w.
            order_in_with_last m n (order n) es none ∙ (elim (eqb m n) as (λ b. eqb m n ≡ b → (b || waits m es) ≡ true → cond b (Some (order n)) (order_in m es) ≡ Some (order m)) [
              | true ↦ λ t _. ap (λ (k : ℕ). Some (order k)) (sym (eqb-true m n t))
              | false ↦ λ _ rest. own m rest
            ]) refl (sym (waits_with_last m n (order n) es) ∙ w)
      ]) refl

  own_all : (ns : List ℕ) (es : List (ScopeOrder × ℕ)) → Own es → Own (all_waiting (map (under order) ns) es)
  own_all [] es own = own
  own_all (n ∷ ns) es own = own_all ns (with_waiting (order n) n es) (own_more n es own)

  pub order_in_line : (ns : List ℕ) (n : ℕ) → has ns n ≡ true → order_in n (line order ns) ≡ Some (order n)
  order_in_line ns n there = own_all ns [] (λ m w. absurd (both_ways false refl w)) n (waits_line n ns ∙ there)

  pub stands_in_line : (ns : List ℕ) (n : ℕ) → has ns n ≡ true → stands_under n (order n) (line order ns) ≡ true
  stands_in_line ns n there = order_stands n (order n) (line order ns) (order_in_line ns n there)

  -- ---- those of one scope
  -- none of these is of a scope
  abbrev NoneOf : ℕ → List (ScopeOrder × ℕ) → Type 0
  NoneOf v [] = Unit {0}
  NoneOf v (e ∷ es) = (eqb v e.0.id.0 ≡ false) × NoneOf v es

  none_more : (v n : ℕ) (o : ScopeOrder) (es : List (ScopeOrder × ℕ)) → eqb v o.id.0 ≡ false → NoneOf v es → NoneOf v (with_last o n es)
  none_more v n o [] other none = (other, tt)
  none_more v n o (e ∷ es) other none =
      elim (order_before o e.0) as (λ b. NoneOf v (cond b ((o, n) ∷ e ∷ es) (e ∷ with_last o n es))) [ true ↦ (other, none) | false ↦ (none.0, none_more v n o es other none.1) ]

  none_waiting : (v n : ℕ) (o : ScopeOrder) (es : List (ScopeOrder × ℕ)) → eqb v o.id.0 ≡ false → NoneOf v es → NoneOf v (with_waiting o n es)
  none_waiting v n o es other none = elim (waits n es) as (λ b. NoneOf v (cond b es (with_last o n es))) [ true ↦ none | false ↦ none_more v n o es other none ]

  none_all : (v : ℕ) (ns : List ℕ) (es : List (ScopeOrder × ℕ)) → ((n : ℕ) → has ns n ≡ true → eqb v (order n).id.0 ≡ false) → NoneOf v es → NoneOf v (all_waiting (map (under order) ns) es)
  none_all v [] es others none = none
  none_all v (n ∷ ns) es others none =
      none_all v ns (with_waiting (order n) n es) (λ m there. others m (or_right (nat_eq n m) (has ns m) there))
      (none_waiting v n (order n) es (others n (or_left (nat_eq n n) (has ns n) (same n))) none)
    where
      same : (n : ℕ) → nat_eq n n ≡ true
      same n = eq-eqb n n refl

  all_stay : (v : ℕ) (es : List (ScopeOrder × ℕ)) → NoneOf v es → without_tasks_of v es ≡ es
  all_stay v [] none = refl
  all_stay v (e ∷ es) none = rw none.0 (ap (λ (fs : List (ScopeOrder × ℕ)). e ∷ fs) (all_stay v es none.1))

  -- where none is of a scope all stay as that one goes
  pub others_stay : (v : ℕ) (ns : List ℕ) → ((n : ℕ) → has ns n ≡ true → eqb v (order n).id.0 ≡ false) → without_tasks_of v (line order ns) ≡ line order ns
  others_stay v ns others = all_stay v (line order ns) (none_all v ns [] others tt)

-- ---- under other orders
-- numbers that have one order by both
pub same_line : (old new : ℕ → ScopeOrder) (ns : List ℕ) → ((n : ℕ) → has ns n ≡ true → old n ≡ new n) → line old ns ≡ line new ns
same_line old new ns same = ap (λ (ps : List (ScopeOrder × ℕ)). all_waiting ps []) (mapped ns same)
  where
    mapped : (ms : List ℕ) → ((n : ℕ) → has ms n ≡ true → old n ≡ new n) → map (under old) ms ≡ map (under new) ms
    mapped [] each = refl
    mapped (m ∷ ms) each =
        λ i. (each m (or_left (nat_eq m m) (has ms m) (eq-eqb m m refl)) i, m) ∷ mapped ms (λ n there. each n (or_right (nat_eq m n) (has ms n) there)) i
