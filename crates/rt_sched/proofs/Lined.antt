-- Who waits, once others came, left, or came in another turn.
use Rattle.std.proofs.Common.{◌≡◌, ℕ, Bool, true, false, cond, not, ◌||◌, List, [], ◌∷◌, eqb, refl, ap, ◌∙◌, sym, subst, arith}
use Rattle.std.proofs.lemmas.Bool.{or_parts, or_right, eqb-true, eq-eqb, both_ways}
use Rattle.std.proofs.lemmas.Bool.Decides.{nat_tests}
use Rattle.std.specs.List.{filter}
use Rattle.rt_lemmas.proofs.Bools.{neither}
use Rattle.rt_lemmas.proofs.Numbers.{eqb_turned as flip}
use Rattle.rt_sched.specs.Order.{order_before}
use Rattle.rt_sched.specs.Places.{IsInOrder, NoneBefore}
use Rattle.rt_sched.specs.Lines.{AllOnce, waits, who_waits, with_last, with_waiting, without_waiting}
use Rattle.rt_sched.specs.Rosters.{all_waiting}
use Rattle.rt_sched.specs.declared.order.ScopeOrder.{ScopeOrder}
use Rattle.rt_sched.specs.declared.place.Place.{Place}
use Rattle.rt_sched.proofs.RollLemmas.{waits_with_last, waits_without}

-- ---- orders
not_both : (o p : ScopeOrder) → order_before o p ≡ true → order_before p o ≡ false
not_both o p h = grind (arith, nat_tests)

before_still : (o p q : ScopeOrder) → order_before o p ≡ true → order_before q p ≡ false → order_before o q ≡ true
before_still o p q h k = grind (arith, nat_tests)

before_through : (o p q : ScopeOrder) → order_before o p ≡ true → order_before p q ≡ true → order_before o q ≡ true
before_through o p q h k = grind (arith, nat_tests)

-- ---- in order
-- none of these comes before an order
abbrev pub NoneSooner : ScopeOrder → List (ScopeOrder × ℕ) → Type 0
NoneSooner o [] = Unit {0}
NoneSooner o (e ∷ es) = (order_before e.0 o ≡ false) × NoneSooner o es

-- none comes before one that stands before it
abbrev pub StandInOrder : List (ScopeOrder × ℕ) → Type 0
StandInOrder [] = Unit {0}
StandInOrder (e ∷ es) = NoneSooner e.0 es × StandInOrder es

-- an order comes before each of these
abbrev pub AllBehind : ScopeOrder → List (ScopeOrder × ℕ) → Type 0
AllBehind o [] = Unit {0}
AllBehind o (e ∷ es) = (order_before o e.0 ≡ true) × AllBehind o es

none_is_sooner : (o p : ScopeOrder) (es : List (ScopeOrder × ℕ)) → order_before o p ≡ true → NoneSooner p es → NoneSooner o es
none_is_sooner o p [] h s = tt
none_is_sooner o p (e ∷ es) h s = (not_both o e.0 (before_still o p e.0 h s.0), none_is_sooner o p es h s.1)

pub all_are_behind : (o p : ScopeOrder) (es : List (ScopeOrder × ℕ)) → order_before o p ≡ true → NoneSooner p es → AllBehind o es
all_are_behind o p [] h s = tt
all_are_behind o p (e ∷ es) h s = (before_still o p e.0 h s.0, all_are_behind o p es h s.1)

sooner_with_last : (q o : ScopeOrder) (n : ℕ) (es : List (ScopeOrder × ℕ)) → order_before o q ≡ false → NoneSooner q es → NoneSooner q (with_last o n es)
sooner_with_last q o n [] h s = (h, tt)
sooner_with_last q o n (e ∷ es) h s =
    elim (order_before o e.0) as (λ b. NoneSooner q (cond b ((o, n) ∷ e ∷ es) (e ∷ with_last o n es))) [ true ↦ (h, s) | false ↦ (s.0, sooner_with_last q o n es h s.1) ]

pub ordered_with_last : (o : ScopeOrder) (n : ℕ) (es : List (ScopeOrder × ℕ)) → StandInOrder es → StandInOrder (with_last o n es)
ordered_with_last o n [] s = (tt, tt)
ordered_with_last o n (e ∷ es) s =
    (elim (order_before o e.0) as (λ b. order_before o e.0 ≡ b → StandInOrder (cond b ((o, n) ∷ e ∷ es) (e ∷ with_last o n es))) [
      | true ↦ λ h. ((not_both o e.0 h, none_is_sooner o e.0 es h s.0), s)
      | false ↦ λ h. (sooner_with_last e.0 o n es h s.0, ordered_with_last o n es s.1)
    ]) refl

pub ordered_with_waiting : (o : ScopeOrder) (n : ℕ) (es : List (ScopeOrder × ℕ)) → StandInOrder es → StandInOrder (with_waiting o n es)
ordered_with_waiting o n es s = elim (waits n es) as (λ b. StandInOrder (cond b es (with_last o n es))) [ true ↦ s | false ↦ ordered_with_last o n es s ]

pub ordered_all : (ps es : List (ScopeOrder × ℕ)) → StandInOrder es → StandInOrder (all_waiting ps es)
ordered_all [] es s = s
ordered_all (p ∷ ps) es s = ordered_all ps (with_waiting p.0 p.1 es) (ordered_with_waiting p.0 p.1 es s)

behind_filter : (p : ScopeOrder × ℕ → Bool) (o : ScopeOrder) (es : List (ScopeOrder × ℕ)) → AllBehind o es → AllBehind o (filter p es)
behind_filter p o [] a = tt
behind_filter p o (e ∷ es) a = elim (p e) as (λ b. AllBehind o (cond b (e ∷ filter p es) (filter p es))) [ true ↦ (a.0, behind_filter p o es a.1) | false ↦ behind_filter p o es a.1 ]

-- who comes before all others stands first
stands_first : (o : ScopeOrder) (n : ℕ) (es : List (ScopeOrder × ℕ)) → AllBehind o es → with_last o n es ≡ (o, n) ∷ es
stands_first o n [] a = refl
stands_first o n (e ∷ es) a = rw a.0 refl

-- ---- one leaves
without_same : (o : ScopeOrder) (n : ℕ) (es : List (ScopeOrder × ℕ)) → without_waiting n (with_last o n es) ≡ without_waiting n es
without_same o n [] = rw (eq-eqb n n refl) refl
without_same o n (e ∷ es) =
    elim (order_before o e.0) as (λ b. without_waiting n (cond b ((o, n) ∷ e ∷ es) (e ∷ with_last o n es)) ≡ without_waiting n (e ∷ es)) [
      | true ↦ rw (eq-eqb n n refl) refl
      | false ↦ ap (λ (v : List (ScopeOrder × ℕ)). cond (not (eqb n e.1)) (e ∷ v) v) (without_same o n es)
    ]

without_other : (o : ScopeOrder) (m n : ℕ) (es : List (ScopeOrder × ℕ)) → eqb n m ≡ false → StandInOrder es → without_waiting n (with_last o m es) ≡ with_last o m (without_waiting n es)
without_other o m n [] apart s = rw apart refl
without_other o m n (e ∷ es) apart s =
    (elim (order_before o e.0) as (λ b. order_before o e.0 ≡ b → without_waiting n (cond b ((o, m) ∷ e ∷ es) (e ∷ with_last o m es)) ≡ with_last o m (without_waiting n (e ∷ es))) [
      | true ↦ λ h.
          let all : AllBehind o (e ∷ es) = (h, all_are_behind o e.0 es h s.0) in
          rw apart (sym (stands_first o m (without_waiting n (e ∷ es)) (behind_filter (λ d. not (eqb n d.1)) o (e ∷ es) all)))
      | false ↦ λ h.
          ap (λ (v : List (ScopeOrder × ℕ)). cond (not (eqb n e.1)) (e ∷ v) v) (without_other o m n es apart s.1)
          ∙ placed_on (eqb n e.1) h
    ]) refl
  where
    placed_on : (b : Bool) → order_before o e.0 ≡ false
        → cond (not b) (e ∷ with_last o m (without_waiting n es)) (with_last o m (without_waiting n es)) ≡ with_last o m (cond (not b) (e ∷ without_waiting n es) (without_waiting n es))
    placed_on true h = refl
    placed_on false h = rw h refl

pub leaves_other : (o : ScopeOrder) (m n : ℕ) (es : List (ScopeOrder × ℕ)) → eqb n m ≡ false → StandInOrder es → without_waiting n (with_waiting o m es) ≡ with_waiting o m (without_waiting n es)
leaves_other o m n es apart s =
    let still : waits m (without_waiting n es) ≡ waits m es = waits_without m n es ∙ rw (flip m n, apart) refl in
    rw still
    (elim (waits m es) as (λ b. without_waiting n (cond b es (with_last o m es)) ≡ cond b (without_waiting n es) (with_last o m (without_waiting n es))) [
      | true ↦ refl
      | false ↦ without_other o m n es apart s
    ])

pub leaves_same : (o : ScopeOrder) (n : ℕ) (es : List (ScopeOrder × ℕ)) → without_waiting n (with_waiting o n es) ≡ without_waiting n es
leaves_same o n es = elim (waits n es) as (λ b. without_waiting n (cond b es (with_last o n es)) ≡ without_waiting n es) [ true ↦ refl | false ↦ without_same o n es ]

-- who leaves when all came might as well not have come
pub leaves_all : (n : ℕ) (ps es : List (ScopeOrder × ℕ)) → StandInOrder es → without_waiting n (all_waiting ps es) ≡ all_waiting (without_waiting n ps) (without_waiting n es)
leaves_all n [] es s = refl
leaves_all n (p ∷ ps) es s =
    leaves_all n ps (with_waiting p.0 p.1 es) (ordered_with_waiting p.0 p.1 es s)
    ∙ (elim (eqb n p.1) as (λ b. eqb n p.1 ≡ b
    → all_waiting (without_waiting n ps) (without_waiting n (with_waiting p.0 p.1 es)) ≡ all_waiting (cond (not b) (p ∷ without_waiting n ps) (without_waiting n ps)) (without_waiting n es)) [
      | true ↦ λ t.
          ap (all_waiting (without_waiting n ps))
          (subst (λ (m : ℕ). without_waiting n (with_waiting p.0 m es) ≡ without_waiting n es) (eqb-true n p.1 t) (leaves_same p.0 n es))
      | false ↦ λ f. ap (all_waiting (without_waiting n ps)) (leaves_other p.0 p.1 n es f s)
    ]) refl

-- ---- in another turn
pub waits_with_waiting : (m n : ℕ) (o : ScopeOrder) (es : List (ScopeOrder × ℕ)) → waits m (with_waiting o n es) ≡ (eqb m n || waits m es)
waits_with_waiting m n o es =
    (elim (waits n es) as (λ b. waits n es ≡ b → waits m (cond b es (with_last o n es)) ≡ (eqb m n || waits m es)) [
      | true ↦ λ there. own (eqb m n) (λ t. subst (λ (k : ℕ). waits k es ≡ true) (sym (eqb-true m n t)) there)
      | false ↦ λ _. waits_with_last m n o es
    ]) refl
  where
    own : (b : Bool) → (b ≡ true → waits m es ≡ true) → waits m es ≡ (b || waits m es)
    own true h = h refl
    own false h = refl

pub waits_all : (n : ℕ) (ps es : List (ScopeOrder × ℕ)) → waits n es ≡ true → waits n (all_waiting ps es) ≡ true
waits_all n [] es h = h
waits_all n (p ∷ ps) es h = waits_all n ps (with_waiting p.0 p.1 es) (waits_with_waiting n p.1 p.0 es ∙ or_right (eqb n p.1) (waits n es) h)

-- of two orders the later one may come first
swap_last : (o p : ScopeOrder) (m n : ℕ) (es : List (ScopeOrder × ℕ)) → order_before o p ≡ true → with_last p n (with_last o m es) ≡ with_last o m (with_last p n es)
swap_last o p m n [] h = rw (h, not_both o p h) refl
swap_last o p m n (e ∷ es) h =
    (elim (order_before p e.0) as (λ b. order_before p e.0 ≡ b → with_last p n (with_last o m (e ∷ es)) ≡ with_last o m (cond b ((p, n) ∷ e ∷ es) (e ∷ with_last p n es))) [
      | true ↦ λ t. rw (before_through o p e.0 h t, not_both o p h, h, t) refl
      | false ↦ λ f.
          (elim (order_before o e.0) as (λ b. order_before o e.0 ≡ b → with_last p n (cond b ((o, m) ∷ e ∷ es) (e ∷ with_last o m es)) ≡ cond b ((o, m) ∷ e ∷ with_last p n es) (e ∷ with_last o m (with_last p n es))) [
            | true ↦ λ _. rw (not_both o p h, f) refl
            | false ↦ λ _. rw f (ap (λ (v : List (ScopeOrder × ℕ)). e ∷ v) (swap_last o p m n es h))
          ]) refl
    ]) refl

swap_waiting : (o p : ScopeOrder) (m n : ℕ) (es : List (ScopeOrder × ℕ)) → order_before o p ≡ true → eqb n m ≡ false → with_waiting p n (with_waiting o m es) ≡ with_waiting o m (with_waiting p n es)
swap_waiting o p m n es h apart =
    let n_waits : waits n (with_waiting o m es) ≡ waits n es = waits_with_waiting n m o es ∙ rw apart refl in
    let m_waits : waits m (with_waiting p n es) ≡ waits m es = waits_with_waiting m n p es ∙ rw (flip m n, apart) refl in
    rw (n_waits, m_waits) (by (waits m es) (waits n es))
  where
    by : (a b : Bool) → cond b (cond a es (with_last o m es)) (with_last p n (cond a es (with_last o m es))) ≡ cond a (cond b es (with_last p n es)) (with_last o m (cond b es (with_last p n es)))
    by true true = refl
    by true false = refl
    by false true = refl
    by false false = swap_last o p m n es h

-- one may come after all whom it comes before
comes_late : (o : ScopeOrder) (n : ℕ) (qs es : List (ScopeOrder × ℕ)) → AllBehind o qs → waits n qs ≡ false → all_waiting qs (with_waiting o n es) ≡ with_waiting o n (all_waiting qs es)
comes_late o n [] es a w = refl
comes_late o n (q ∷ qs) es a w =
    let parts = or_parts (eqb n q.1) (waits n qs) w in
    ap (all_waiting qs) (swap_waiting o q.0 n q.1 es a.0 (flip q.1 n ∙ parts.0)) ∙ comes_late o n qs (with_waiting q.0 q.1 es) a.1 parts.1

comes_last : (o : ScopeOrder) (n : ℕ) (ps es : List (ScopeOrder × ℕ)) → StandInOrder ps → waits n ps ≡ false → all_waiting (with_last o n ps) es ≡ with_waiting o n (all_waiting ps es)
comes_last o n [] es s w = refl
comes_last o n (p ∷ ps) es s w =
    (elim (order_before o p.0) as (λ b. order_before o p.0 ≡ b → all_waiting (cond b ((o, n) ∷ p ∷ ps) (p ∷ with_last o n ps)) es ≡ with_waiting o n (all_waiting (p ∷ ps) es)) [
      | true ↦ λ h. comes_late o n (p ∷ ps) es (h, all_are_behind o p.0 ps h s.0) w
      | false ↦ λ _. comes_last o n ps (with_waiting p.0 p.1 es) s.1 (or_parts (eqb n p.1) (waits n ps) w).1
    ]) refl

waits_came : (n : ℕ) (ps es : List (ScopeOrder × ℕ)) → waits n ps ≡ true → waits n (all_waiting ps es) ≡ true
waits_came n [] es h = absurd (both_ways false refl h)
waits_came n (p ∷ ps) es h =
    (elim (eqb n p.1) as (λ b. eqb n p.1 ≡ b → (b || waits n ps) ≡ true → waits n (all_waiting ps (with_waiting p.0 p.1 es)) ≡ true) [
      | true ↦ λ t _. waits_all n ps (with_waiting p.0 p.1 es) (waits_with_waiting n p.1 p.0 es ∙ rw t refl)
      | false ↦ λ _ rest. waits_came n ps (with_waiting p.0 p.1 es) rest
    ]) refl h

comes_first : (o : ScopeOrder) (n : ℕ) (ys es : List (ScopeOrder × ℕ)) → StandInOrder ys → all_waiting (with_waiting o n ys) es ≡ with_waiting o n (all_waiting ys es)
comes_first o n ys es s =
    (elim (waits n ys) as (λ b. waits n ys ≡ b → all_waiting (cond b ys (with_last o n ys)) es ≡ with_waiting o n (all_waiting ys es)) [
      | true ↦ λ t. let there : waits n (all_waiting ys es) ≡ true = waits_came n ys es t in rw there refl
      | false ↦ λ f. comes_last o n ys es s f
    ]) refl

-- those who wait in one line come to another as they came to the first
pub all_into : (xs ys es : List (ScopeOrder × ℕ)) → StandInOrder ys → all_waiting (all_waiting xs ys) es ≡ all_waiting xs (all_waiting ys es)
all_into [] ys es s = refl
all_into (x ∷ xs) ys es s =
    all_into xs (with_waiting x.0 x.1 ys) es (ordered_with_waiting x.0 x.1 ys s) ∙ ap (all_waiting xs) (comes_first x.0 x.1 ys es s)

-- ---- those who wait in one line come to an empty one, or behind one who came first
-- no number waits twice
abbrev pub WaitOnce : List (ScopeOrder × ℕ) → Type 0
WaitOnce [] = Unit {0}
WaitOnce (e ∷ es) = (waits e.1 es ≡ false) × WaitOnce es

-- one in its place, before those of its order
abbrev pub put_first : ScopeOrder × ℕ → List (ScopeOrder × ℕ) → List (ScopeOrder × ℕ)
put_first e [] = e ∷ []
put_first e (d ∷ ds) = cond (order_before d.0 e.0) (d ∷ put_first e ds) (e ∷ d ∷ ds)

before_neither : (o p q : ScopeOrder) → order_before q p ≡ false → order_before p o ≡ false → order_before q o ≡ false
before_neither o p q h k = by (order_before q o) refl
  where
    by : (b : Bool) → order_before q o ≡ b → b ≡ false
    by true t = absurd (both_ways (order_before q p) h (before_still q o p t k))
    by false f = refl

none_before : (o p : ScopeOrder) (es : List (ScopeOrder × ℕ)) → order_before p o ≡ false → NoneSooner p es → NoneSooner o es
none_before o p [] k s = tt
none_before o p (e ∷ es) k s = (before_neither o p e.0 s.0 k, none_before o p es k s.1)

-- who doesn't come before the first one comes among those behind it
comes_behind : (e : ScopeOrder × ℕ) (o : ScopeOrder) (n : ℕ) (es : List (ScopeOrder × ℕ)) → order_before o e.0 ≡ false → eqb n e.1 ≡ false → with_waiting o n (e ∷ es) ≡ e ∷ with_waiting o n es
comes_behind e o n es late apart = rw (apart, late) (by (waits n es))
  where
    by : (b : Bool) → cond b (e ∷ es) (e ∷ with_last o n es) ≡ e ∷ cond b es (with_last o n es)
    by true = refl
    by false = refl

-- so the first one stays the first, where none of these comes before it
stays_before : (e : ScopeOrder × ℕ) (ps es : List (ScopeOrder × ℕ)) → NoneSooner e.0 ps → waits e.1 ps ≡ false → all_waiting ps (e ∷ es) ≡ e ∷ all_waiting ps es
stays_before e [] es s w = refl
stays_before e (p ∷ ps) es s w =
    let parts = or_parts (eqb e.1 p.1) (waits e.1 ps) w in
    ap (all_waiting ps) (comes_behind e p.0 p.1 es s.0 (flip p.1 e.1 ∙ parts.0)) ∙ stays_before e ps (with_waiting p.0 p.1 es) s.1 parts.1

-- those who wait come to an empty line as they are
pub comes_so : (es : List (ScopeOrder × ℕ)) → StandInOrder es → WaitOnce es → all_waiting es [] ≡ es
comes_so [] s w = refl
comes_so (e ∷ es) s w = stays_before e es [] s.0 w.0 ∙ ap (λ (v : List (ScopeOrder × ℕ)). e ∷ v) (comes_so es s.1 w.1)

-- who came first stands before those of its order
pub came_first : (e : ScopeOrder × ℕ) (es : List (ScopeOrder × ℕ)) → StandInOrder es → WaitOnce es → waits e.1 es ≡ false → all_waiting es (e ∷ []) ≡ put_first e es
came_first e [] s w out = refl
came_first e (d ∷ ds) s w out =
    let parts = or_parts (eqb e.1 d.1) (waits e.1 ds) out in
    let apart : eqb d.1 e.1 ≡ false = flip d.1 e.1 ∙ parts.0 in
    (elim (order_before d.0 e.0) as (λ b. order_before d.0 e.0 ≡ b → all_waiting ds (with_waiting d.0 d.1 (e ∷ [])) ≡ cond b (d ∷ put_first e ds) (e ∷ d ∷ ds)) [
      | true ↦ λ h.
          let came : with_waiting d.0 d.1 (e ∷ []) ≡ d ∷ e ∷ [] = rw (apart, h) refl in
          ap (all_waiting ds) came ∙ stays_before d ds (e ∷ []) s.0 w.0 ∙ ap (λ (v : List (ScopeOrder × ℕ)). d ∷ v) (came_first e ds s.1 w.1 parts.1)
      | false ↦ λ k.
          ap (all_waiting ds) (comes_behind e d.0 d.1 [] k apart)
          ∙ stays_before e ds (with_waiting d.0 d.1 []) (none_before e.0 d.0 ds k s.0) parts.1
          ∙ ap (λ (v : List (ScopeOrder × ℕ)). e ∷ v) (comes_so (d ∷ ds) s w)
    ]) refl

-- ---- who stands at the places of a line
none_stands_sooner : (p : Place) (ps : List Place) → NoneBefore p ps → NoneSooner p.order (who_waits ps)
none_stands_sooner p [] s = tt
none_stands_sooner p (q ∷ qs) s = ((neither (order_before q.order p.order) _ s.0).0, none_stands_sooner p qs s.1)

pub stand_so : (ps : List Place) → IsInOrder ps → StandInOrder (who_waits ps)
stand_so [] s = tt
stand_so (p ∷ ps) s = (none_stands_sooner p ps s.0, stand_so ps s.1)

pub wait_so : (ps : List Place) → AllOnce ps → WaitOnce (who_waits ps)
wait_so [] s = tt
wait_so (p ∷ ps) s = (s.0, wait_so ps s.1)
