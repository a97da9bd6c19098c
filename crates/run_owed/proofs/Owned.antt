-- The first task of a scope: in a line, and in the order of entering.
use Rattle.std.proofs.Common.{◌≡◌, ℕ, Bool, true, false, cond, List, [], ◌∷◌, map, nat_eq, eqb, refl, ap, ◌∙◌, sym, subst, arith}
use Rattle.std.specs.Prelude.{Option, Some, None, option_map, if◌then◌else◌}
use Rattle.std.proofs.lemmas.Bool.{eqb-true, both_ways, or_left, or_right}
use Rattle.std.proofs.lemmas.Bool.Decides.{nat_tests}
use Rattle.rt_values.specs.declared.names.Task.{Task}
use Rattle.rt_model.specs.Lists.{at, first_of, has, or_else}
use Rattle.rt_model.proofs.Maps.{pick_false, pick_true}
use Rattle.run_owed.specs.Lists.{EachOnce, first_with, held, numbers_of}
use Rattle.run_owed.specs.Stands.{entered_order, line, under}
use Rattle.run_owed.proofs.Held.{apart}
use Rattle.run_owed.proofs.Line.{Apart, apart_more}
use Rattle.rt_sched.specs.Order.{order_before}
use Rattle.rt_sched.specs.Lines.{with_last, with_waiting}
use Rattle.rt_sched.specs.Queues.{first_task_of}
use Rattle.rt_sched.specs.Rosters.{all_waiting}
use Rattle.rt_sched.specs.declared.order.ScopeOrder.{ScopeOrder}
use Rattle.rt_sched.proofs.Lined.{AllBehind, StandInOrder, all_are_behind, ordered_with_last}

abbrev pub named : ℕ → Task
named n = record { 0 = n }

not_itself : (o : ScopeOrder) → order_before o o ≡ false
not_itself o = grind (arith, nat_tests)

turned : (m n : ℕ) → eqb m n ≡ nat_eq n m
turned m n = grind (arith, nat_tests)

none_behind : {X : Type 0} (found : Option X) → first_of found None ≡ found
none_behind None = refl
none_behind (Some x) = refl

one_after : {X : Type 0} (a b c : Option X) → first_of (first_of a b) c ≡ first_of a (first_of b c)
one_after None b c = refl
one_after (Some x) b c = refl

-- the first number whose value is this
abbrev pub first_by : (ℕ → ℕ) → ℕ → List ℕ → Option ℕ
first_by g v [] = None
first_by g v (n ∷ ns) = if nat_eq (g n) v then Some n else first_by g v ns

module _ (scopes : List (ℕ × ℕ)) where
  -- each stands under the order of an entered scope
  abbrev Made : List (ScopeOrder × ℕ) → Type 0
  Made [] = Unit {0}
  Made (e ∷ es) = (e.0 ≡ entered_order scopes e.0.id.0) × Made es

  made_last : (s n : ℕ) (es : List (ScopeOrder × ℕ)) → Made es → Made (with_last (entered_order scopes s) n es)
  made_last s n [] made = (refl, tt)
  made_last s n (e ∷ es) made =
      elim (order_before (entered_order scopes s) e.0) as (λ b. Made (cond b ((entered_order scopes s, n) ∷ e ∷ es) (e ∷ with_last (entered_order scopes s) n es))) [
        | true ↦ (refl, made)
        | false ↦ (made.0, made_last s n es made.1)
      ]

  -- behind the order of a scope none stands of it
  none_of_it : (s v : ℕ) (es : List (ScopeOrder × ℕ)) → eqb v s ≡ true → AllBehind (entered_order scopes s) es → Made es → first_task_of v es ≡ None
  none_of_it s v [] own behind made = refl
  none_of_it s v (e ∷ es) own behind made =
      (elim (eqb v e.0.id.0) as (λ b. eqb v e.0.id.0 ≡ b → cond b (Some (named e.1)) (first_task_of v es) ≡ None) [
        | true ↦ λ t.
            let same : e.0 ≡ entered_order scopes s = made.0 ∙ ap (entered_order scopes) (sym (eqb-true v e.0.id.0 t) ∙ eqb-true v s own) in
            absurd (both_ways _ (not_itself (entered_order scopes s)) (subst (λ (p : ScopeOrder). order_before (entered_order scopes s) p ≡ true) same behind.0))
        | false ↦ λ _. none_of_it s v es own behind.1 made.1
      ]) refl

  -- the first of a scope, with one more
  first_last : (s v n : ℕ) (es : List (ScopeOrder × ℕ)) → StandInOrder es → Made es
      → first_task_of v (with_last (entered_order scopes s) n es) ≡ first_of (first_task_of v es) (cond (eqb v s) (Some (named n)) None)
  first_last s v n [] ordered made = refl
  first_last s v n (e ∷ es) ordered made =
      (elim (order_before (entered_order scopes s) e.0) as (λ b. order_before (entered_order scopes s) e.0 ≡ b
      → first_task_of v (cond b ((entered_order scopes s, n) ∷ e ∷ es) (e ∷ with_last (entered_order scopes s) n es)) ≡ first_of (first_task_of v (e ∷ es)) (cond (eqb v s) (Some (named n)) None)) [
        | true ↦ λ h. before (eqb v s) refl h
        | false ↦ λ _. behind (eqb v e.0.id.0) (first_last s v n es ordered.1 made.1)
      ]) refl
    where
      before : (b : Bool) → eqb v s ≡ b → order_before (entered_order scopes s) e.0 ≡ true
          → cond b (Some (named n)) (first_task_of v (e ∷ es)) ≡ first_of (first_task_of v (e ∷ es)) (cond b (Some (named n)) None)
      before true own h =
          ap (λ (f : Option Task). first_of f (Some (named n)))
          (sym (none_of_it s v (e ∷ es) own (h, all_are_behind (entered_order scopes s) e.0 es h ordered.0) made))
      before false own h = sym (none_behind (first_task_of v (e ∷ es)))

      behind : (b : Bool) → first_task_of v (with_last (entered_order scopes s) n es) ≡ first_of (first_task_of v es) (cond (eqb v s) (Some (named n)) None)
          → cond b (Some (named e.1)) (first_task_of v (with_last (entered_order scopes s) n es)) ≡ first_of (cond b (Some (named e.1)) (first_task_of v es)) (cond (eqb v s) (Some (named n)) None)
      behind true rest = refl
      behind false rest = rest

  module _ (g : ℕ → ℕ) where
    abbrev order : ℕ → ScopeOrder
    order n = entered_order scopes (g n)

    first_into : (v : ℕ) (ns : List ℕ) (es : List (ScopeOrder × ℕ)) → EachOnce ns → Apart order ns es → StandInOrder es → Made es
        → first_task_of v (all_waiting (map (under order) ns) es) ≡ first_of (first_task_of v es) (option_map named (first_by g v ns))
    first_into v [] es once a ordered made = sym (none_behind (first_task_of v es))
    first_into v (n ∷ ns) es once a ordered made =
        let came : with_waiting (order n) n es ≡ with_last (order n) n es = rw a.0 refl in
        ap (λ (fs : List (ScopeOrder × ℕ)). first_task_of v (all_waiting (map (under order) ns) fs)) came
        ∙ first_into v ns (with_last (order n) n es) once.1 (apart_more order ns (order n) n es once.0 a.1) (ordered_with_last (order n) n es ordered) (made_last (g n) n es made)
        ∙ ap (λ (f : Option Task). first_of f (option_map named (first_by g v ns))) (first_last (g n) v n es ordered made)
        ∙ one_after (first_task_of v es) (cond (eqb v (g n)) (Some (named n)) None) (option_map named (first_by g v ns))
        ∙ ap (λ (f : Option Task). first_of (first_task_of v es) f) (ap (λ (b : Bool). first_of (cond b (Some (named n)) None) (option_map named (first_by g v ns))) (turned v (g n)) ∙ by (nat_eq (g n) v))
      where
        by : (b : Bool) → first_of (cond b (Some (named n)) None) (option_map named (first_by g v ns)) ≡ option_map named (if b then Some n else first_by g v ns)
        by true = refl
        by false = refl

    none_apart : (ns : List ℕ) → Apart order ns []
    none_apart [] = tt
    none_apart (n ∷ ns) = (refl, none_apart ns)

    pub first_in_line : (v : ℕ) (ns : List ℕ) → EachOnce ns → first_task_of v (line order ns) ≡ option_map named (first_by g v ns)
    first_in_line v ns once = first_into v ns [] once (none_apart ns) tt tt

-- numbers with the same values
first_by_same : (f g : ℕ → ℕ) (v : ℕ) (ns : List ℕ) → ((n : ℕ) → has ns n ≡ true → f n ≡ g n) → first_by f v ns ≡ first_by g v ns
first_by_same f g v [] same = refl
first_by_same f g v (n ∷ ns) same =
    ap (λ (k : ℕ). if nat_eq k v then Some n else first_by f v ns) (same n (or_left (nat_eq n n) (has ns n) (itself n)))
    ∙ ap (λ (o : Option ℕ). if nat_eq (g n) v then Some n else o) (first_by_same f g v ns (λ m there. same m (or_right (nat_eq n m) (has ns m) there)))
  where
    itself : (k : ℕ) → nat_eq k k ≡ true
    itself k = grind (arith, nat_tests)

-- the first by what numbers were entered with
pub first_entered : (es : List (ℕ × ℕ)) (v : ℕ) → EachOnce (numbers_of es) → first_by (held es) v (numbers_of es) ≡ first_with v es
first_entered [] v once = refl
first_entered (e ∷ es) v once =
    ap (λ (o : Option ℕ). if nat_eq (or_else 0 o) v then Some e.0 else first_by (held (e ∷ es)) v (numbers_of es)) (pick_true (Some e.1) (at es e.0) (itself e.0))
    ∙ ap (λ (o : Option ℕ). if nat_eq e.1 v then Some e.0 else o)
    (first_by_same (held (e ∷ es)) (held es) v (numbers_of es) (λ n there. ap (λ (o : Option ℕ). or_else 0 o) (pick_false (Some e.1) (at es n) (other n there)))
    ∙ first_entered es v once.1)
  where
    itself : (k : ℕ) → nat_eq k k ≡ true
    itself k = grind (arith, nat_tests)

    other : (n : ℕ) → has (numbers_of es) n ≡ true → nat_eq e.0 n ≡ false
    other n there = apart (numbers_of es) e.0 n once.0 there
