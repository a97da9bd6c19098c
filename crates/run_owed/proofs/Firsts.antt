-- What the queues answer, in the words of what is owed.
use Rattle.std.proofs.Common.{◌≡◌, ℕ, Bool, true, false, List, [], ◌∷◌, map, nat_eq, refl, ap, ◌∙◌, sym}
use Rattle.std.specs.Prelude.{Option, Some, None, option_map}
use Rattle.std.proofs.lemmas.Bool.{both_ways, or_left}
use Rattle.rt_lemmas.proofs.Numbers.{eq_same as itself}
use Rattle.rt_values.specs.declared.names.Task.{Task}
use Rattle.rt_model.specs.Lists.{has}
use Rattle.rt_model.specs.Next.{least, sorted_by}
use Rattle.run_owed.specs.Lists.{first_with, held, marks_in, numbers_of, wakes_in}
use Rattle.run_owed.specs.Orders.{first_number, scope_rank, sooner, task_rank}
use Rattle.run_owed.specs.Owing.{Owing, living}
use Rattle.run_owed.specs.Stands.{StandsFor, behind_number, entered_order, least_queued, least_seen, line, owner_order, queued_in_turn, queued_line, seen_orders, under, woken_in_turn}
use Rattle.run_owed.proofs.Line.{earlier, line_least, order_in_line, stands_in_line, waits_line}
use Rattle.run_owed.proofs.Owned.{first_entered, first_in_line, named}
use Rattle.run_owed.proofs.Entered.{tagged}
use Rattle.run_owed.proofs.Turns.{behind_numbered, first_numbered, line_sorted}
use Rattle.rt_sched.specs.Lines.{behind, first_in, first_order, order_in, orders_of}
use Rattle.rt_sched.specs.Queues.{Waiting, first_scope, first_task, first_task_of, has_order, has_scope, lesser_work, next_work, scope_order}
use Rattle.rt_sched.specs.Rosters.{stands_under}
use Rattle.rt_sched.specs.declared.order.ScopeOrder.{ScopeOrder}
use Rattle.rt_sched.proofs.Firsts.{first_scope_in, next_of_firsts, scope_order_in}
use Rattle.rt_sched.proofs.KeptLemmas.{has_scope_waits, stands_has_order}

module _ (o : Owing) (q : Waiting (Unit {0})) (next : ℕ) (k : StandsFor o q next) where
  -- the order of an entered scope is found
  pub scope_found : (s : ℕ) → has (numbers_of o.scopes) s ≡ true → scope_order s q.scopes ≡ Some (entered_order o.scopes s)
  scope_found s live =
      ap (scope_order s) k.queues.scopes
      ∙ sym (scope_order_in s (line (entered_order o.scopes) (numbers_of o.scopes)) (tagged o.scopes (numbers_of o.scopes)))
      ∙ order_in_line (entered_order o.scopes) (numbers_of o.scopes) s live

  pub scope_stands : (s : ℕ) → has (numbers_of o.scopes) s ≡ true → has_order (entered_order o.scopes s) q.scopes ≡ true
  scope_stands s live =
      ap (has_order (entered_order o.scopes s)) k.queues.scopes
      ∙ sym (stands_has_order (entered_order o.scopes s) (line (entered_order o.scopes) (numbers_of o.scopes)) (tagged o.scopes (numbers_of o.scopes)))
      ∙ stands_in_line (entered_order o.scopes) (numbers_of o.scopes) s live

  -- so is that of an entered task
  pub task_found : (t : ℕ) → has (numbers_of o.tasks) t ≡ true → order_in t q.tasks ≡ Some (owner_order o.scopes o.tasks t)
  task_found t live = ap (order_in t) k.queues.tasks ∙ order_in_line (owner_order o.scopes o.tasks) (numbers_of o.tasks) t live

  pub task_stands : (t : ℕ) → has (numbers_of o.tasks) t ≡ true → stands_under t (owner_order o.scopes o.tasks t) q.tasks ≡ true
  task_stands t live = ap (stands_under t (owner_order o.scopes o.tasks t)) k.queues.tasks ∙ stands_in_line (owner_order o.scopes o.tasks) (numbers_of o.tasks) t live

  -- a task without an order isn't entered
  pub task_fresh : (t : ℕ) → order_in t q.tasks ≡ None → has (numbers_of o.tasks) t ≡ false
  task_fresh t none = by (has (numbers_of o.tasks) t) refl
    where
      by : (b : Bool) → has (numbers_of o.tasks) t ≡ b → b ≡ false
      by true live = absurd (cc (sym none ∙ task_found t live))
      by false dead = refl

  -- who is seen
  pub seen_has : (s : ℕ) → has_scope s q.seen ≡ has o.seen s
  seen_has s =
      ap (has_scope s) k.queues.seen
      ∙ has_scope_waits s (line (entered_order o.scopes) o.seen) (tagged o.scopes o.seen)
      ∙ waits_line (entered_order o.scopes) s o.seen

  -- where nothing is seen the queues see nothing, and the other way
  pub sees_nothing : o.seen ≡ [] → q.seen ≡ []
  sees_nothing none = k.queues.seen ∙ ap (λ (ns : List ℕ). orders_of (line (entered_order o.scopes) ns)) none

  pub none_seen : ((q.seen ≡ [] → ⊥) → ⊥) → o.seen ≡ []
  none_seen h = by o.seen refl
    where
      by : (ns : List ℕ) → o.seen ≡ ns → o.seen ≡ []
      by [] is = is
      by (s ∷ ns) is = absurd (h (λ none.
          let there : has_scope s q.seen ≡ true = seen_has s ∙ ap (λ (ms : List ℕ). has ms s) is ∙ or_left (nat_eq s s) (has ns s) (itself s) in
          both_ways false refl (sym (ap (has_scope s) none) ∙ there)))

  -- what comes first
  first_ordered : first_order (line (entered_order o.scopes) o.seen) ≡ least_seen o
  first_ordered =
      first_of (line (entered_order o.scopes) o.seen)
      ∙ ap (λ (f : Option (ScopeOrder × ℕ)). option_map (λ (e : ScopeOrder × ℕ). e.0) f) (line_least (entered_order o.scopes) o.seen k.owed.seen_once)
      ∙ through (least (earlier (entered_order o.scopes)) o.seen)
    where
      first_of : (es : List (ScopeOrder × ℕ)) → first_order es ≡ option_map (λ (e : ScopeOrder × ℕ). e.0) (first_in es)
      first_of [] = refl
      first_of (e ∷ es) = refl

      through : (f : Option ℕ) → option_map (λ (e : ScopeOrder × ℕ). e.0) (option_map (under (entered_order o.scopes)) f) ≡ option_map (entered_order o.scopes) f
      through None = refl
      through (Some n) = refl

  pub seen_first : first_scope q.seen ≡ least_seen o
  seen_first = ap first_scope k.queues.seen ∙ sym (first_scope_in (line (entered_order o.scopes) o.seen)) ∙ first_ordered

  -- what comes up, of the queues and of the lists
  pub work_held : next_work q.seen q.queued ≡ next_work (seen_orders o) (queued_line o)
  work_held = λ i. next_work (k.queues.seen i) (k.queues.queued i)

  pub work_least : next_work (seen_orders o) (queued_line o) ≡ lesser_work (least_seen o) (least_queued o)
  work_least =
      sym (next_of_firsts (line (entered_order o.scopes) o.seen) (queued_line o))
      ∙ (λ i. lesser_work (first_ordered i) (line_least (owner_order o.scopes o.tasks) o.queued k.owed.queued_once i))

  -- what is seen and queued, sorted
  pub seen_sorted : seen_orders o ≡ map (entered_order o.scopes) (sorted_by (sooner (scope_rank o.scopes)) o.seen)
  seen_sorted = ap orders_of (line_sorted (entered_order o.scopes) o.seen k.owed.seen_once) ∙ through (sorted_by (sooner (scope_rank o.scopes)) o.seen)
    where
      through : (ns : List ℕ) → orders_of (map (under (entered_order o.scopes)) ns) ≡ map (entered_order o.scopes) ns
      through [] = refl
      through (n ∷ ns) = ap (λ (os : List ScopeOrder). entered_order o.scopes n ∷ os) (through ns)

  pub queued_sorted : queued_line o ≡ map (under (owner_order o.scopes o.tasks)) (sorted_by (sooner (task_rank o.scopes o.tasks)) o.queued)
  queued_sorted = line_sorted (owner_order o.scopes o.tasks) o.queued k.owed.queued_once

  -- the first task of a scope
  pub task_first_of : (s : ℕ) → first_task_of s q.tasks ≡ option_map named (first_with s o.tasks)
  task_first_of s =
      ap (first_task_of s) k.queues.tasks
      ∙ first_in_line o.scopes (held o.tasks) s (numbers_of o.tasks) k.owed.tasks_once
      ∙ ap (λ (f : Option ℕ). option_map named f) (first_entered o.tasks s k.owed.tasks_once)

  -- the queued tasks and the woken ones, in turn
  pub queued_next : first_task q.queued ≡ option_map named (first_number (queued_in_turn o))
  queued_next = ap first_task k.queues.queued ∙ first_numbered (line (owner_order o.scopes o.tasks) o.queued)

  pub queued_after : (t : ℕ) → first_task (behind t q.queued) ≡ option_map named (first_number (behind_number t (queued_in_turn o)))
  queued_after t =
      ap (λ (es : List (ScopeOrder × ℕ)). first_task (behind t es)) k.queues.queued
      ∙ first_numbered (behind t (line (owner_order o.scopes o.tasks) o.queued))
      ∙ ap (λ (ns : List ℕ). option_map named (first_number ns)) (behind_numbered t (line (owner_order o.scopes o.tasks) o.queued))

  pub woken_next : first_task q.posted_tasks ≡ option_map named (first_number (woken_in_turn o))
  woken_next = ap first_task k.queues.wakes ∙ first_numbered (line (owner_order o.scopes o.tasks) (living o.tasks (wakes_in o.posted)))

  pub woken_after : (t : ℕ) → first_task (behind t q.posted_tasks) ≡ option_map named (first_number (behind_number t (woken_in_turn o)))
  woken_after t =
      ap (λ (es : List (ScopeOrder × ℕ)). first_task (behind t es)) k.queues.wakes
      ∙ first_numbered (behind t (line (owner_order o.scopes o.tasks) (living o.tasks (wakes_in o.posted))))
      ∙ ap (λ (ns : List ℕ). option_map named (first_number ns)) (behind_numbered t (line (owner_order o.scopes o.tasks) (living o.tasks (wakes_in o.posted))))

  -- no mark is posted where none of an entered scope is, and the other way
  pub no_marks : living o.scopes (marks_in o.posted) ≡ [] → q.posted_scopes ≡ []
  no_marks none = k.queues.marks ∙ ap (λ (ns : List ℕ). orders_of (line (entered_order o.scopes) ns)) none

  pub none_marked : q.posted_scopes ≡ [] → living o.scopes (marks_in o.posted) ≡ []
  none_marked none = by (living o.scopes (marks_in o.posted)) refl
    where
      by : (ns : List ℕ) → living o.scopes (marks_in o.posted) ≡ ns → living o.scopes (marks_in o.posted) ≡ []
      by [] is = is
      by (s ∷ ns) is =
          let there : has_scope s q.posted_scopes ≡ true =
          ap (has_scope s) (k.queues.marks ∙ ap (λ (ms : List ℕ). orders_of (line (entered_order o.scopes) ms)) is)
          ∙ has_scope_waits s (line (entered_order o.scopes) (s ∷ ns)) (tagged o.scopes (s ∷ ns))
          ∙ waits_line (entered_order o.scopes) s (s ∷ ns)
          ∙ or_left (nat_eq s s) (has ns s) (itself s) in
          absurd (both_ways false refl (sym (ap (has_scope s) none) ∙ there))

-- what was found of an order or a task, as a number
pub none_first : {X : Type 0} (f : ℕ → X) (found : Option ℕ) → None ≡ option_map f found → None ≡ found
none_first f None is = refl
none_first f (Some n) is = absurd (cc is)

pub order_first : (scopes : List (ℕ × ℕ)) (p : ScopeOrder) (found : Option ℕ) → Some p ≡ option_map (entered_order scopes) found → Some p.id.0 ≡ found
order_first scopes p None is = absurd (cc is)
order_first scopes p (Some n) is = let own : p ≡ entered_order scopes n = cc in ap (λ (r : ScopeOrder). Some r.id.0) own

pub task_first : (p : Task) (found : Option ℕ) → Some p ≡ option_map (λ (n : ℕ). let t : Task = record { 0 = n } in t) found → Some p.0 ≡ found
task_first p None is = absurd (cc is)
task_first p (Some n) is = let own : p ≡ record { 0 = n } = cc in ap (λ (r : Task). Some r.0) own
