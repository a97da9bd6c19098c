-- The numbers of a line in their turn.
use Rattle.std.proofs.Common.{◌≡◌, ℕ, Bool, true, false, cond, ◌||◌, List, [], ◌∷◌, map, eqb, refl, ap, ◌∙◌, sym}
use Rattle.std.specs.List.{list_any}
use Rattle.std.specs.Option.{option_map}
use Rattle.std.proofs.lemmas.Bool.{both_ways, eqb-true, or_left, or_right}
use Rattle.rt_lemmas.proofs.Bools.{neither}
use Rattle.rt_model.specs.Lists.{has}
use Rattle.rt_model.specs.Next.{insert_by, sorted_by}
use Rattle.rt_model.proofs.Maps.{eq_same}
use Rattle.rt_model.proofs.Members.{turned_round}
use Rattle.run_owed.specs.Lists.{EachOnce}
use Rattle.run_owed.specs.Orders.{first_number}
use Rattle.run_owed.specs.Stands.{behind_number, in_turn, line, under}
use Rattle.run_owed.proofs.Line.{earlier, waits_line}
use Rattle.run_owed.proofs.Owned.{named}
use Rattle.rt_sched.specs.Order.{order_before}
use Rattle.rt_sched.specs.Lines.{behind, waits, with_last, with_waiting}
use Rattle.rt_sched.specs.Queues.{first_task}
use Rattle.rt_sched.specs.Rosters.{all_waiting}
use Rattle.rt_sched.specs.declared.order.ScopeOrder.{ScopeOrder}
use Rattle.rt_sched.proofs.Lined.{WaitOnce, all_into, came_first, ordered_all, put_first}

abbrev numbers : List (ScopeOrder × ℕ) → List ℕ
numbers es = map (λ (e : ScopeOrder × ℕ). e.1) es

-- the first task of a line has its first number
pub first_numbered : (es : List (ScopeOrder × ℕ)) → first_task es ≡ option_map named (first_number (numbers es))
first_numbered [] = refl
first_numbered (e ∷ es) = refl

pub behind_numbered : (n : ℕ) (es : List (ScopeOrder × ℕ)) → numbers (behind n es) ≡ behind_number n (numbers es)
behind_numbered n [] = refl
behind_numbered n (e ∷ es) = by (eqb n e.1) (behind_numbered n es)
  where
    by : (b : Bool) → numbers (behind n es) ≡ behind_number n (numbers es) → numbers (cond b es (behind n es)) ≡ cond b (numbers es) (behind_number n (numbers es))
    by true rest = refl
    by false rest = rest

-- a test that one of those that wait passes
module _ (p : ℕ → Bool) where
  waits_passes : (n : ℕ) (es : List (ScopeOrder × ℕ)) → waits n es ≡ true → p n ≡ true → list_any p (numbers es) ≡ true
  waits_passes n [] w own = absurd (both_ways false refl w)
  waits_passes n (e ∷ es) w own =
      (elim (eqb n e.1) as (λ b. eqb n e.1 ≡ b → (b || waits n es) ≡ true → (p e.1 || list_any p (numbers es)) ≡ true) [
        | true ↦ λ t _. or_left (p e.1) (list_any p (numbers es)) (ap p (sym (eqb-true n e.1 t)) ∙ own)
        | false ↦ λ _ rest. or_right (p e.1) (list_any p (numbers es)) (waits_passes n es rest own)
      ]) refl w

  swapped : (a b c : Bool) → (a || (b || c)) ≡ (b || (a || c))
  swapped true true c = refl
  swapped true false c = refl
  swapped false b c = refl

  any_last : (o : ScopeOrder) (n : ℕ) (es : List (ScopeOrder × ℕ)) → list_any p (numbers (with_last o n es)) ≡ (p n || list_any p (numbers es))
  any_last o n [] = refl
  any_last o n (e ∷ es) =
      elim (order_before o e.0) as (λ b. list_any p (numbers (cond b ((o, n) ∷ e ∷ es) (e ∷ with_last o n es))) ≡ (p n || (p e.1 || list_any p (numbers es)))) [
        | true ↦ refl
        | false ↦ ap (λ (b : Bool). p e.1 || b) (any_last o n es) ∙ swapped (p e.1) (p n) (list_any p (numbers es))
      ]

  any_waiting : (o : ScopeOrder) (n : ℕ) (es : List (ScopeOrder × ℕ)) → list_any p (numbers (with_waiting o n es)) ≡ (p n || list_any p (numbers es))
  any_waiting o n es =
      (elim (waits n es) as (λ b. waits n es ≡ b → list_any p (numbers (cond b es (with_last o n es))) ≡ (p n || list_any p (numbers es))) [
        | true ↦ λ t. there (p n) refl t
        | false ↦ λ _. any_last o n es
      ]) refl
    where
      there : (b : Bool) → p n ≡ b → waits n es ≡ true → list_any p (numbers es) ≡ (b || list_any p (numbers es))
      there true own t = waits_passes n es t own
      there false own t = refl

  any_all : (order : ℕ → ScopeOrder) (ns : List ℕ) (es : List (ScopeOrder × ℕ)) → list_any p (numbers (all_waiting (map (under order) ns) es)) ≡ (list_any p ns || list_any p (numbers es))
  any_all order [] es = refl
  any_all order (n ∷ ns) es =
      any_all order ns (with_waiting (order n) n es)
      ∙ ap (λ (b : Bool). list_any p ns || b) (any_waiting (order n) n es)
      ∙ turned (list_any p ns) (p n) (list_any p (numbers es))
    where
      turned : (a b c : Bool) → (a || (b || c)) ≡ ((b || a) || c)
      turned true true c = refl
      turned true false c = refl
      turned false true c = refl
      turned false false c = refl

  -- one of the numbers passes where one in their turn does
  pub any_in_turn : (order : ℕ → ScopeOrder) (ns : List ℕ) → list_any p (in_turn order ns) ≡ list_any p ns
  any_in_turn order ns = any_all order ns [] ∙ none (list_any p ns)
    where
      none : (b : Bool) → (b || false) ≡ b
      none true = refl
      none false = refl

-- who waits is one of the numbers, and none is there twice

waits_has : (n : ℕ) (es : List (ScopeOrder × ℕ)) → waits n es ≡ has (numbers es) n
waits_has n [] = refl
waits_has n (e ∷ es) = λ i. either_way n e.1 i || waits_has n es i
  where
    either_way : (a b : ℕ) → eqb a b ≡ eqb b a
    either_way a b = by (eqb b a) refl
      where
        by : (t : Bool) → eqb b a ≡ t → eqb a b ≡ t
        by true q = ap (λ (k : ℕ). eqb a k) (eqb-true b a q) ∙ eq_same a
        by false q = turned_round b a q

has_any : (n : ℕ) (ns : List ℕ) → has ns n ≡ list_any (λ k. eqb k n) ns
has_any n [] = refl
has_any n (m ∷ ms) = ap (λ (b : Bool). eqb m n || b) (has_any n ms)

once_last : (o : ScopeOrder) (n : ℕ) (es : List (ScopeOrder × ℕ)) → EachOnce (numbers es) → waits n es ≡ false → EachOnce (numbers (with_last o n es))
once_last o n [] once out = (refl, tt)
once_last o n (e ∷ es) once out =
    elim (order_before o e.0) as (λ b. EachOnce (numbers (cond b ((o, n) ∷ e ∷ es) (e ∷ with_last o n es)))) [
      | true ↦ (sym (waits_has n (e ∷ es)) ∙ out, once)
      | false ↦ (apart, once_last o n es once.1 (neither (eqb n e.1) (waits n es) out).1)
    ]
  where
    apart : has (numbers (with_last o n es)) e.1 ≡ false
    apart =
        has_any e.1 (numbers (with_last o n es))
        ∙ any_last (λ k. eqb k e.1) o n es
        ∙ ap (λ (b : Bool). b || list_any (λ k. eqb k e.1) (numbers es)) (neither (eqb n e.1) (waits n es) out).0
        ∙ sym (has_any e.1 (numbers es))
        ∙ once.0

once_waiting : (o : ScopeOrder) (n : ℕ) (es : List (ScopeOrder × ℕ)) → EachOnce (numbers es) → EachOnce (numbers (with_waiting o n es))
once_waiting o n es once =
    (elim (waits n es) as (λ b. waits n es ≡ b → EachOnce (numbers (cond b es (with_last o n es)))) [
      | true ↦ λ _. once
      | false ↦ λ out. once_last o n es once out
    ]) refl

once_all : (order : ℕ → ScopeOrder) (ns : List ℕ) (es : List (ScopeOrder × ℕ)) → EachOnce (numbers es) → EachOnce (numbers (all_waiting (map (under order) ns) es))
once_all order [] es once = once
once_all order (n ∷ ns) es once = once_all order ns (with_waiting (order n) n es) (once_waiting (order n) n es once)

-- in their turn each stands once
pub turns_once : (order : ℕ → ScopeOrder) (ns : List ℕ) → EachOnce (in_turn order ns)
turns_once order ns = once_all order ns [] tt

-- ---- in their turn they are sorted
waits_once : (es : List (ScopeOrder × ℕ)) → EachOnce (numbers es) → WaitOnce es
waits_once [] once = tt
waits_once (e ∷ es) once = (waits_has e.1 es ∙ once.0, waits_once es once.1)

module _ (order : ℕ → ScopeOrder) where
  put_mapped : (n : ℕ) (ns : List ℕ) → put_first (under order n) (map (under order) ns) ≡ map (under order) (insert_by (earlier order) n ns)
  put_mapped n [] = refl
  put_mapped n (m ∷ ns) = by (earlier order m n) (put_mapped n ns)
    where
      by : (b : Bool) → put_first (under order n) (map (under order) ns) ≡ map (under order) (insert_by (earlier order) n ns)
          → cond b (under order m ∷ put_first (under order n) (map (under order) ns)) (under order n ∷ under order m ∷ map (under order) ns)
          ≡ map (under order) (cond b (m ∷ insert_by (earlier order) n ns) (n ∷ m ∷ ns))
      by true rest = ap (λ (es : List (ScopeOrder × ℕ)). under order m ∷ es) rest
      by false rest = refl

  -- a line is its numbers by their orders, of one order as they came
  pub line_sorted : (ns : List ℕ) → EachOnce ns → line order ns ≡ map (under order) (sorted_by (earlier order) ns)
  line_sorted [] once = refl
  line_sorted (n ∷ ns) once =
      sym (all_into (map (under order) ns) [] (under order n ∷ []) tt)
      ∙ came_first (under order n) (line order ns) (ordered_all (map (under order) ns) [] tt) (waits_once (line order ns) (turns_once order ns)) (waits_line order n ns ∙ once.0)
      ∙ ap (put_first (under order n)) (line_sorted ns once.1)
      ∙ put_mapped n (sorted_by (earlier order) ns)
