-- The orders of scopes and tasks, as they come and go.
use Rattle.std.proofs.Common.{◌≡◌, ℕ, ◌+◌, Bool, true, false, List, [], ◌∷◌, ◌++◌, map, nat_eq, eqb, refl, ap, ◌∙◌, sym, arith}
use Rattle.std.specs.Prelude.{Option, Some, None, is_some, ◌||◌, if◌then◌else◌}
use Rattle.std.proofs.lemmas.Bool.Decides.{nat_tests}
use Rattle.rt_lemmas.proofs.Numbers.{eq_same as same_number}
use Rattle.rt_model.specs.Lists.{at, drop_number, has, join, or_else, without}
use Rattle.rt_model.proofs.Maps.{at_append_here, by_test}
use Rattle.rt_model.proofs.Members.{by_either, clash, or_left, or_right}
use Rattle.run_owed.specs.Lists.{EachOnce, first_with, held, joins, numbers_of}
use Rattle.run_owed.specs.Owing.{nothing}
use Rattle.run_owed.specs.Stands.{AllIn, StandsFor, entered_order, line, owner_order, owners_of, under}
use Rattle.run_owed.proofs.Held.{apart, held_more, held_without}
use Rattle.run_owed.proofs.Line.{drop_line, join_line, look_line, push_line}
use Rattle.run_owed.proofs.Once.{once_joined}
use Rattle.run_owed.proofs.Tables.{numbers_has}
use Rattle.run_owed.proofs.Within.{in_by}
use Rattle.rt_sched.specs.Lines.{orders_of}
use Rattle.rt_sched.specs.Pending.{AllTagged}
use Rattle.rt_sched.specs.Queues.{Waiting, all_seen, with_scope, without_scope}
use Rattle.rt_sched.specs.declared.order.ScopeOrder.{ScopeOrder}
use Rattle.rt_sched.proofs.KeptLemmas.{orders_all, orders_with_waiting, orders_without, tagged_all}

-- ---- lines of scopes, as orders
module _ (scopes : List (ℕ × ℕ)) where
  abbrev pub own : ℕ → ScopeOrder
  own = entered_order scopes

  pub tagged : (ns : List ℕ) → AllTagged (line own ns)
  tagged ns = tagged_all (map (under own) ns) [] (each ns) tt
    where
      each : (ms : List ℕ) → AllTagged (map (under own) ms)
      each [] = tt
      each (m ∷ ms) = (refl, each ms)

  -- one more, whether it was there or not
  pub scopes_push : (ns : List ℕ) (s : ℕ) → with_scope (own s) (orders_of (line own ns)) ≡ orders_of (line own (ns ++ s ∷ []))
  scopes_push ns s = sym (orders_with_waiting (own s) s (line own ns) refl (tagged ns)) ∙ ap orders_of (sym (push_line own ns s))

  pub scopes_join : (ns : List ℕ) (s : ℕ) → with_scope (own s) (orders_of (line own ns)) ≡ orders_of (line own (join ns s))
  scopes_join ns s = sym (orders_with_waiting (own s) s (line own ns) refl (tagged ns)) ∙ ap orders_of (sym (join_line own ns s))

  pub scopes_drop : (ns : List ℕ) (s : ℕ) → without_scope s (orders_of (line own ns)) ≡ orders_of (line own (drop_number ns s))
  scopes_drop ns s = sym (orders_without s (line own ns) (tagged ns)) ∙ ap orders_of (sym (drop_line own ns s))

  pub scopes_look : (ws ns : List ℕ) → all_seen (orders_of (line own ws)) (orders_of (line own ns)) ≡ orders_of (line own (joins ns ws))
  scopes_look ws ns = sym (orders_all (line own ws) (line own ns) (tagged ws) (tagged ns)) ∙ ap orders_of (look_line own ws ns)

-- ---- orders, as scopes and tasks come and go
abbrev pub order_with : ℕ → ℕ → ScopeOrder
order_with h s = record { height = h; id = record { 0 = s } }

pub other_test : (a b : ℕ) → nat_eq a b ≡ false → eqb b a ≡ false
other_test a b h = grind (arith, nat_tests)

pub no_value : (o : Option ℕ) → is_some o ≡ false → o ≡ None
no_value None q = refl
no_value (Some n) q = absurd (cc q)

pub not_there : (es : List (ℕ × ℕ)) (n : ℕ) → has (numbers_of es) n ≡ false → at es n ≡ None
not_there es n none = no_value (at es n) (sym (numbers_has es n) ∙ none)

pub entered_more : (scopes : List (ℕ × ℕ)) (s h : ℕ) → has (numbers_of scopes) s ≡ false → (m : ℕ) → has (numbers_of scopes) m ≡ true
    → entered_order scopes m ≡ entered_order (scopes ++ (s, h) ∷ []) m
entered_more scopes s h none m there = ap (λ (k : ℕ). order_with k m) (held_more scopes s h m (apart (numbers_of scopes) s m none there))

pub entered_new : (scopes : List (ℕ × ℕ)) (s h : ℕ) → has (numbers_of scopes) s ≡ false → entered_order (scopes ++ (s, h) ∷ []) s ≡ order_with h s
entered_new scopes s h none = ap (λ (o : Option ℕ). order_with (or_else 0 o) s) (at_append_here scopes s h s (same_number s) (not_there scopes s none))

pub entered_less : (scopes : List (ℕ × ℕ)) (s m : ℕ) → nat_eq s m ≡ false → entered_order scopes m ≡ entered_order (without scopes s) m
entered_less scopes s m other = ap (λ (k : ℕ). order_with k m) (held_without scopes s m other)

pub owner_more : (scopes tasks : List (ℕ × ℕ)) (t s m : ℕ) → nat_eq t m ≡ false → owner_order scopes tasks m ≡ owner_order scopes (tasks ++ (t, s) ∷ []) m
owner_more scopes tasks t s m other = ap (λ (k : ℕ). entered_order scopes k) (held_more tasks t s m other)

pub owner_new : (scopes tasks : List (ℕ × ℕ)) (t s : ℕ) → has (numbers_of tasks) t ≡ false → owner_order scopes (tasks ++ (t, s) ∷ []) t ≡ entered_order scopes s
owner_new scopes tasks t s none = ap (λ (o : Option ℕ). entered_order scopes (or_else 0 o)) (at_append_here tasks t s t (same_number t) (not_there tasks t none))

pub owner_less : (scopes tasks : List (ℕ × ℕ)) (t m : ℕ) → nat_eq t m ≡ false → owner_order scopes tasks m ≡ owner_order scopes (without tasks t) m
owner_less scopes tasks t m other = ap (λ (k : ℕ). entered_order scopes k) (held_without tasks t m other)

-- the scope of an entered task is one of the owners
pub owner_in : (all : List ℕ) (es : List (ℕ × ℕ)) → AllIn all (owners_of es) → (t : ℕ) → has (numbers_of es) t ≡ true → has all (held es t) ≡ true
owner_in all [] h t there = clash there refl
owner_in all (e ∷ es) h t there =
    by_test (nat_eq e.0 t)
    (λ q. ap (λ (o : Option ℕ). has all (or_else 0 o)) (at_first q) ∙ h.0)
    (λ q. ap (λ (o : Option ℕ). has all (or_else 0 o)) (at_rest q) ∙ owner_in all es h.1 t (by_either (nat_eq e.0 t) (has (numbers_of es) t) there (λ r. clash r q) (λ r. r)))
  where
    at_first : nat_eq e.0 t ≡ true → at (e ∷ es) t ≡ Some e.1
    at_first q = ap (λ (b : Bool). if b then Some e.1 else at es t) q

    at_rest : nat_eq e.0 t ≡ false → at (e ∷ es) t ≡ at es t
    at_rest q = ap (λ (b : Bool). if b then Some e.1 else at es t) q

-- where no task is of a scope, no entered task is held by it
pub not_owner : (s : ℕ) (es : List (ℕ × ℕ)) → first_with s es ≡ None → (t : ℕ) → has (numbers_of es) t ≡ true → nat_eq (held es t) s ≡ false
not_owner s [] none t there = clash there refl
not_owner s (e ∷ es) none t there =
    by_test (nat_eq e.1 s)
    (λ q. absurd (cc (sym (ap (λ (b : Bool). if b then Some e.0 else first_with s es) q) ∙ none)))
    (λ q.
    let rest : first_with s es ≡ None = sym (ap (λ (b : Bool). if b then Some e.0 else first_with s es) q) ∙ none in
    by_test (nat_eq e.0 t)
    (λ r. ap (λ (b : Bool). nat_eq (or_else 0 (if b then Some e.1 else at es t)) s) r ∙ q)
    (λ r. ap (λ (b : Bool). nat_eq (or_else 0 (if b then Some e.1 else at es t)) s) r
    ∙ not_owner s es rest t (by_either (nat_eq e.0 t) (has (numbers_of es) t) there (λ x. clash x r) (λ x. x))))

pub no_owner : (s : ℕ) (es : List (ℕ × ℕ)) → first_with s es ≡ None → has (owners_of es) s ≡ false
no_owner s [] none = refl
no_owner s (e ∷ es) none =
    by_test (nat_eq e.1 s)
    (λ q. absurd (cc (sym (ap (λ (b : Bool). if b then Some e.0 else first_with s es) q) ∙ none)))
    (λ q. ap (λ (b : Bool). b || has (owners_of es) s) q ∙ no_owner s es (sym (ap (λ (b : Bool). if b then Some e.0 else first_with s es) q) ∙ none))

pub owners_more : (es : List (ℕ × ℕ)) (t s : ℕ) → owners_of (es ++ (t, s) ∷ []) ≡ owners_of es ++ s ∷ []
owners_more [] t s = refl
owners_more (e ∷ es) t s = ap (λ (ns : List ℕ). e.1 ∷ ns) (owners_more es t s)

pub owners_less : (all : List ℕ) (es : List (ℕ × ℕ)) (t : ℕ) → AllIn all (owners_of es) → AllIn all (owners_of (without es t))
owners_less all [] t h = tt
owners_less all (e ∷ es) t h = by (nat_eq e.0 t) (owners_less all es t h.1)
  where
    by : (b : Bool) → AllIn all (owners_of (without es t)) → AllIn all (owners_of (if b then without es t else e ∷ without es t))
    by true rest = rest
    by false rest = (h.0, rest)

-- a number that isn't there needn't go
pub drop_absent : (ns : List ℕ) (n : ℕ) → has ns n ≡ false → drop_number ns n ≡ ns
drop_absent [] n none = refl
drop_absent (m ∷ ns) n none =
    by_test (nat_eq m n)
    (λ q. clash (or_left (nat_eq m n) (has ns n) q) none)
    (λ q. ap (λ (b : Bool). if b then drop_number ns n else m ∷ drop_number ns n) q
    ∙ ap (λ (ks : List ℕ). m ∷ ks) (drop_absent ns n (by_test (has ns n) (λ r. clash (or_right (nat_eq m n) (has ns n) r) none) (λ r. r))))

-- what waits of a task that isn't entered is nothing
pub not_waiting : (es : List (ℕ × ℕ)) (ns : List ℕ) (t : ℕ) → AllIn (numbers_of es) ns → has (numbers_of es) t ≡ false → has ns t ≡ false
not_waiting es ns t all none = by_test (has ns t) (λ q. clash (in_by (numbers_of es) ns all t q) none) (λ q. q)

pub once_joins : (ns ws : List ℕ) → EachOnce ns → EachOnce (joins ns ws)
once_joins ns [] once = once
once_joins ns (w ∷ ws) once = once_joins (join ns w) ws (once_joined ns w once)

-- ---- nothing is entered
abbrev pub no_queues : Waiting (Unit {0})
no_queues = record { scopes = []; tasks = []; seen = []; queued = []; posted_scopes = []; posted_tasks = []; effects = [] }

pub stood_nothing : StandsFor nothing no_queues 0
stood_nothing =
    record {
      queues = record { scopes = refl; tasks = refl; seen = refl; queued = refl; marks = refl; wakes = refl };
      owed = record { seen = tt; queued = tt; wakes = tt; owners = tt; tasks_once = tt; seen_once = tt; queued_once = tt; scopes_below = tt; marks_below = tt };
    }
