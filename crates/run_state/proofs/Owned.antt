-- The tasks of a scope end, one after another; a scope that stops.
use Rattle.std.proofs.Common.{◌≡◌, ℕ, suc, ◌<◌, ◌≤◌, Bool, true, false, List, [], ◌∷◌, ◌++◌, length, refl, ap, sym, ◌∙◌, arith}
use Rattle.std.specs.Prelude.{nat_eq, Option, Some, None, is_some, if◌then◌else◌}
use Rattle.std.proofs.lemmas.Bool.{eqb-true}
use Rattle.rt_model.specs.Lists.{at, drop_number, has, without}
use Rattle.rt_model.specs.OneLog.{types}
use Rattle.rt_model.specs.Tree.{Types}
use Rattle.rt_model.specs.State as model
use Rattle.rt_model.specs.State.{change}
use Rattle.rt_model.specs.Commands.{drop_posted, end, holding, released}
use Rattle.rt_model.specs.Run.{unmarked}
use Rattle.rt_model.specs.Removal.{tasks_in, end_all, stopped}
use Rattle.rt_model.proofs.Maps.{at_there, by_test, eq_same, pick_false, pick_true}
use Rattle.rt_model.proofs.Members.{clash, or_left, or_right}
use Rattle.run_records.specs.Kept.{each}
use Rattle.run_owed.specs.Lists.{EachOnce, first_with, numbers_of}
use Rattle.run_owed.proofs.Tables.{numbers_has, values_numbers}
use Rattle.run_state.specs.Heights.{task_scope, task_scopes}
use Rattle.run_state.specs.Mirror.{task_of}
use Rattle.run_state.specs.declared.state.TaskRow.{TaskRow}
use Rattle.run_state.proofs.Each.{live-each, without-each}

module _ {P C Q V H T E L : Type 0} where
  -- no task of the scope is left
  none_owned : (s : ℕ) (es : List (ℕ × TaskRow P C Q V H T E L)) → first_with s (task_scopes es) ≡ None → tasks_in s (each task_of es) ≡ []
  none_owned s [] none = refl
  none_owned s (e ∷ es) none =
      by_test (nat_eq (e.1).scope s)
      (λ q. absurd (cc (sym (pick_true (Some e.0) (first_with s (task_scopes es)) q) ∙ none)))
      (λ q. pick_false (e.0 ∷ tasks_in s (each task_of es)) (tasks_in s (each task_of es)) q ∙ none_owned s es (sym (pick_false (Some e.0) (first_with s (task_scopes es)) q) ∙ none))

  -- the first task of the scope is there
  with_there : (s t : ℕ) (es : List (ℕ × TaskRow P C Q V H T E L)) → first_with s (task_scopes es) ≡ Some t → has (numbers_of (task_scopes es)) t ≡ true
  with_there s t [] found = absurd (cc found)
  with_there s t (e ∷ es) found =
      by_test (nat_eq (e.1).scope s)
      (λ q.
      let own : e.0 ≡ t = named (sym (pick_true (Some e.0) (first_with s (task_scopes es)) q) ∙ found) in
      or_left (nat_eq e.0 t) (has (numbers_of (task_scopes es)) t) (ap (λ (n : ℕ). nat_eq e.0 n) (sym own) ∙ eq_same e.0))
      (λ q. or_right (nat_eq e.0 t) (has (numbers_of (task_scopes es)) t) (with_there s t es (sym (pick_false (Some e.0) (first_with s (task_scopes es)) q) ∙ found)))
    where
      named : {a b : ℕ} → Some a ≡ Some b → a ≡ b
      named is = cc

  -- a task that isn't there needn't go
  without_absent : (t : ℕ) (es : List (ℕ × TaskRow P C Q V H T E L)) → has (numbers_of (task_scopes es)) t ≡ false → without es t ≡ es
  without_absent t [] none = refl
  without_absent t (e ∷ es) none =
      pick_false (without es t) (e ∷ without es t) (by_test (nat_eq e.0 t) (λ q. clash (or_left (nat_eq e.0 t) (has (numbers_of (task_scopes es)) t) q) none) (λ q. q))
      ∙ ap (λ (fs : List (ℕ × TaskRow P C Q V H T E L)). e ∷ fs) (without_absent t es (by_test (has (numbers_of (task_scopes es)) t) (λ q. clash (or_right (nat_eq e.0 t) (has (numbers_of (task_scopes es)) t) q) none) (λ q. q)))

  -- it comes first, and then the others
  first_owned : (s t : ℕ) (es : List (ℕ × TaskRow P C Q V H T E L)) → EachOnce (numbers_of (task_scopes es)) → first_with s (task_scopes es) ≡ Some t
      → tasks_in s (each task_of es) ≡ t ∷ tasks_in s (each task_of (without es t))
  first_owned s t [] once found = absurd (cc found)
  first_owned s t (e ∷ es) once found =
      by_test (nat_eq (e.1).scope s)
      (λ q.
      let own : e.0 ≡ t = named (sym (pick_true (Some e.0) (first_with s (task_scopes es)) q) ∙ found) in
      let left : without (e ∷ es) t ≡ es =
      pick_true (without es t) (e ∷ without es t) (ap (λ (n : ℕ). nat_eq e.0 n) (sym own) ∙ eq_same e.0)
      ∙ without_absent t es (ap (λ (n : ℕ). has (numbers_of (task_scopes es)) n) (sym own) ∙ once.0) in
      pick_true (e.0 ∷ tasks_in s (each task_of es)) (tasks_in s (each task_of es)) q
      ∙ (λ i. own i ∷ tasks_in s (each task_of (sym left i))))
      (λ q.
      let rest : first_with s (task_scopes es) ≡ Some t = sym (pick_false (Some e.0) (first_with s (task_scopes es)) q) ∙ found in
      let other : nat_eq e.0 t ≡ false = by_test (nat_eq e.0 t) (λ r. clash (ap (λ (n : ℕ). has (numbers_of (task_scopes es)) n) (eqb-true e.0 t r) ∙ with_there s t es rest) once.0) (λ r. r) in
      pick_false (e.0 ∷ tasks_in s (each task_of es)) (tasks_in s (each task_of es)) q
      ∙ first_owned s t es once.1 rest
      ∙ ap (λ (ns : List ℕ). t ∷ ns)
      (sym (ap (λ (fs : List (ℕ × TaskRow P C Q V H T E L)). tasks_in s (each task_of fs)) (pick_false (without es t) (e ∷ without es t) other)
      ∙ pick_false (e.0 ∷ tasks_in s (each task_of (without es t))) (tasks_in s (each task_of (without es t))) q)))
    where
      named : {a b : ℕ} → Some a ≡ Some b → a ≡ b
      named is = cc

  live_task : (s t : ℕ) (es : List (ℕ × TaskRow P C Q V H T E L)) → first_with s (task_scopes es) ≡ Some t → is_some (at (each task_of es) t) ≡ true
  live_task s t es found = live-each task_of es t ∙ sym (numbers_has es t) ∙ ap (λ (ns : List ℕ). has ns t) (sym (values_numbers task_scope es)) ∙ with_there s t es found

-- a list without one of its numbers is shorter
module _ {A : Type 0} where
  no_longer : (es : List (ℕ × A)) (n : ℕ) → length (without es n) ≤ length es
  no_longer [] n = omega arith
  no_longer (e ∷ es) n =
      by_test (nat_eq e.0 n)
      (λ q. let is : length (without (e ∷ es) n) ≡ length (without es n) = ap (λ (fs : List (ℕ × A)). length fs) (pick_true (without es n) (e ∷ without es n) q) in omega (arith, is, no_longer es n))
      (λ q. let is : length (without (e ∷ es) n) ≡ suc (length (without es n)) = ap (λ (fs : List (ℕ × A)). length fs) (pick_false (without es n) (e ∷ without es n) q) in omega (arith, is, no_longer es n))

  shorter : (es : List (ℕ × A)) (n : ℕ) → is_some (at es n) ≡ true → length (without es n) < length es
  shorter [] n there = absurd (cc there)
  shorter (e ∷ es) n there =
      by_test (nat_eq e.0 n)
      (λ q. let is : length (without (e ∷ es) n) ≡ length (without es n) = ap (λ (fs : List (ℕ × A)). length fs) (pick_true (without es n) (e ∷ without es n) q) in omega (arith, is, no_longer es n))
      (λ q.
      let is : length (without (e ∷ es) n) ≡ suc (length (without es n)) = ap (λ (fs : List (ℕ × A)). length fs) (pick_false (without es n) (e ∷ without es n) q) in
      let rest = shorter es n (ap (λ (o : Option A). is_some o) (sym (at_there e.0 e.1 es n q)) ∙ there) in
      omega (arith, is, rest))

  length-each : {B : Type 0} (f : A → B) (es : List (ℕ × A)) → length (each f es) ≡ length es
  length-each f [] = refl
  length-each f (e ∷ es) = ap (λ (n : ℕ). suc n) (length-each f es)

module _ {P C Q V H T E L : Type 0} where
  -- the tasks of the state that one leaves
  tasks_left : (w v : model.State (types C Q V H T E L)) (s t : ℕ) (es : List (ℕ × TaskRow P C Q V H T E L)) → w.tasks ≡ each task_of es → v ≡ end w t → first_with s (task_scopes es) ≡ Some t
      → v.tasks ≡ without w.tasks t
  tasks_left w v s t es are ends found =
      ap (λ (x : model.State (types C Q V H T E L)). x.tasks) ends
      ∙ ap (λ (b : Bool). (if b then ended w t else w).tasks) (ap (λ (ts : List (ℕ × model.TaskRow (types C Q V H T E L))). is_some (at ts t)) are ∙ live_task s t es found)
    where
      ended : model.State (types C Q V H T E L) → ℕ → model.State (types C Q V H T E L)
      ended x n = record x { tasks = without x.tasks n; posted = drop_posted x.posted (model.Woken n) ++ holding x.scopes n; queued = drop_number x.queued n; scopes = released x.scopes n }

  pub fewer_tasks : (w v : model.State (types C Q V H T E L)) (es fs : List (ℕ × TaskRow P C Q V H T E L)) (s t : ℕ) → w.tasks ≡ each task_of es → v.tasks ≡ each task_of fs → v ≡ end w t
      → first_with s (task_scopes es) ≡ Some t → length fs < length es
  fewer_tasks w v es fs s t old new ends found =
      let less : length (without w.tasks t) < length w.tasks = shorter w.tasks t (ap (λ (ts : List (ℕ × model.TaskRow (types C Q V H T E L))). is_some (at ts t)) old ∙ live_task s t es found) in
      let before : length w.tasks ≡ length es = ap (λ (ts : List (ℕ × model.TaskRow (types C Q V H T E L))). length ts) old ∙ length-each task_of es in
      let after : length (without w.tasks t) ≡ length fs = ap (λ (ts : List (ℕ × model.TaskRow (types C Q V H T E L))). length ts) (sym (tasks_left w v s t es old ends found) ∙ new) ∙ length-each task_of fs in
      omega (arith, less, before, after)

  pub ends_first : (w v : model.State (types C Q V H T E L)) (es : List (ℕ × TaskRow P C Q V H T E L)) (s t : ℕ) → w.tasks ≡ each task_of es → v ≡ end w t → EachOnce (numbers_of (task_scopes es))
      → first_with s (task_scopes es) ≡ Some t → end_all v (tasks_in s v.tasks) ≡ end_all w (tasks_in s w.tasks)
  ends_first w v es s t are ends once found =
      let left : tasks_in s v.tasks ≡ tasks_in s (each task_of (without es t)) =
      ap (λ (ts : List (ℕ × model.TaskRow (types C Q V H T E L))). tasks_in s ts) (tasks_left w v s t es are ends found ∙ ap (λ (ts : List (ℕ × model.TaskRow (types C Q V H T E L))). without ts t) are ∙ sym (without-each task_of es t)) in
      (λ i. end_all (ends i) (left i))
      ∙ sym (ap (λ (ts : List ℕ). end_all w ts) (ap (λ (ts : List (ℕ × model.TaskRow (types C Q V H T E L))). tasks_in s ts) are ∙ first_owned s t es once found))

  pub ends_none : (w : model.State (types C Q V H T E L)) (es : List (ℕ × TaskRow P C Q V H T E L)) (s : ℕ) → w.tasks ≡ each task_of es → first_with s (task_scopes es) ≡ None → w ≡ end_all w (tasks_in s w.tasks)
  ends_none w es s are none = sym (ap (λ (ts : List ℕ). end_all w ts) (ap (λ (ts : List (ℕ × model.TaskRow (types C Q V H T E L))). tasks_in s ts) are ∙ none_owned s es none))

module _ {K : Types} where
  -- the tasks end, the marks go, the effects go
  pub stops : (w v u x : model.State K) (s : ℕ) (ts : List ℕ) → ts ≡ tasks_in s w.tasks → v ≡ end_all w ts → u ≡ unmarked v s → x ≡ change u s (λ y. record y { effects = [] }) → x ≡ stopped w s
  stops w v u x s ts owned ends marks none =
      none ∙ ap (λ y. change y s (λ z. record z { effects = [] })) (marks ∙ ap (λ y. unmarked y s) (ends ∙ ap (end_all w) owned))
