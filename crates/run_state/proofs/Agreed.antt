-- What the scheduler's queues hold and answer is what is seen and queued, and what comes up.
use Rattle.std.proofs.Common.{◌≡◌, ℕ, Bool, true, false, map, refl, ap, ◌∙◌}
use Rattle.std.specs.Prelude.{Option, None, Some, option_map, if◌then◌else◌}
use Rattle.rt_model.specs.OneLog.{types}
use Rattle.rt_model.specs.Tree.{Types}
use Rattle.rt_model.specs.Next.{RerunScope, PollTask, chosen, first_seen, first_task, found, is_before, least, scope_of_task, sorted_by}
use Rattle.rt_model.specs.State as model
use Rattle.rt_sched.specs.Order.{order_before}
use Rattle.rt_sched.specs.Queues.{lesser_work}
use Rattle.rt_sched.specs.declared.order.ScopeOrder.{ScopeOrder}
use Rattle.rt_sched.specs.declared.work.Work.{Work}
use Rattle.rt_sched.specs.declared.work.Work.TheVariants as queued
use Rattle.run_owed.specs.Orders.{scope_rank, sooner, task_rank}
use Rattle.run_owed.specs.Stands.{entered_order, least_queued, least_seen, owner_order, queued_line, seen_orders, under}
use Rattle.run_state.specs.Mirror.{Unkept, scopes_of, state_of}
use Rattle.run_state.specs.Orders.{StandFor, order_of, taken_of, waiting_task}
use Rattle.run_state.specs.declared.state.State.{State}
use Rattle.run_state.proofs.Entered.{held_task, queued_least, seen_least, state_height}

abbrev with_height : ℕ → ℕ → ScopeOrder
with_height s h = record { height = h; id = record { 0 = s } }

module _ {K : Types} where
  -- the lesser of what comes first is what is chosen
  chosen_by : (w : model.State K) (seen queued : Option ℕ)
      → option_map taken_of (lesser_work (option_map (order_of w.scopes) seen) (option_map (waiting_task w) queued)) ≡ chosen w queued seen
  chosen_by w None None = refl
  chosen_by w (Some s) None = refl
  chosen_by w None (Some t) = refl
  chosen_by w (Some s) (Some t) = by (is_before w.scopes s (scope_of_task w t))
    where
      by : (b : Bool) → option_map taken_of (if b then Some (queued.RerunScope (order_of w.scopes s)) else Some (queued.PollTask (record { 0 = t })))
          ≡ (if b then Some (RerunScope s) else Some (PollTask t))
      by true = refl
      by false = refl

module _ {P C Q V H T E L : Type 0} where
  -- the orders under which scopes and tasks are entered
  scope_ordered : (d : State P C Q V H T E L) (s : ℕ) → entered_order (d.owed).scopes s ≡ order_of (scopes_of (d.rows).table) s
  scope_ordered d s = ap (with_height s) (state_height d s)

  task_ordered : (g : Unkept (types C Q V H T E L)) (d : State P C Q V H T E L) (t : ℕ)
      → owner_order (d.owed).scopes (d.owed).tasks t ≡ order_of (scopes_of (d.rows).table) (scope_of_task (state_of g d) t)
  task_ordered g d t = ap (entered_order (d.owed).scopes) (held_task g d t) ∙ scope_ordered d (scope_of_task (state_of g d) t)

  -- what is seen and queued comes first under these
  seen_ordered : (d : State P C Q V H T E L) → least_seen d.owed ≡ option_map (order_of (scopes_of (d.rows).table)) (least (sooner (scope_rank (d.owed).scopes)) (d.owed).seen)
  seen_ordered d = λ i. option_map (λ s. scope_ordered d s i) (least (sooner (scope_rank (d.owed).scopes)) (d.owed).seen)

  queued_ordered : (g : Unkept (types C Q V H T E L)) (d : State P C Q V H T E L)
      → least_queued d.owed ≡ option_map (waiting_task (state_of g d)) (least (sooner (task_rank (d.owed).scopes (d.owed).tasks)) (d.owed).queued)
  queued_ordered g d = λ i. option_map (λ t. (task_ordered g d t i, t)) (least (sooner (task_rank (d.owed).scopes (d.owed).tasks)) (d.owed).queued)

  seen_is : (g : Unkept (types C Q V H T E L)) (d : State P C Q V H T E L) → least_seen d.owed ≡ option_map (order_of (scopes_of (d.rows).table)) (first_seen (state_of g d))
  seen_is g d = seen_ordered d ∙ ap (option_map (order_of (scopes_of (d.rows).table))) (seen_least g d)

  queued_is : (g : Unkept (types C Q V H T E L)) (d : State P C Q V H T E L) → least_queued d.owed ≡ option_map (waiting_task (state_of g d)) (first_task (state_of g d))
  queued_is g d = queued_ordered g d ∙ ap (option_map (waiting_task (state_of g d))) (queued_least g d)

  lesser_is : (g : Unkept (types C Q V H T E L)) (d : State P C Q V H T E L)
      → lesser_work (least_seen d.owed) (least_queued d.owed)
      ≡ lesser_work (option_map (order_of (scopes_of (d.rows).table)) (first_seen (state_of g d))) (option_map (waiting_task (state_of g d)) (first_task (state_of g d)))
  lesser_is g d = λ i. lesser_work (seen_is g d i) (queued_is g d i)

  -- so what the queues answer is what comes up
  pub up_found : (g : Unkept (types C Q V H T E L)) (d : State P C Q V H T E L) (work : Option Work) → work ≡ lesser_work (least_seen d.owed) (least_queued d.owed)
      → option_map taken_of work ≡ found (state_of g d)
  up_found g d work is = ap (option_map taken_of) (is ∙ lesser_is g d) ∙ chosen_by (state_of g d) (first_seen (state_of g d)) (first_task (state_of g d))

  -- and what they hold is what is seen and queued
  seen_stands : (d : State P C Q V H T E L)
      → map (entered_order (d.owed).scopes) (sorted_by (sooner (scope_rank (d.owed).scopes)) (d.owed).seen)
      ≡ map (order_of (scopes_of (d.rows).table)) (sorted_by (λ s t. is_before (scopes_of (d.rows).table) s t) (d.owed).seen)
  seen_stands d = λ i. map (λ s. scope_ordered d s i) (sorted_by (λ s t. order_before (scope_ordered d s i) (scope_ordered d t i)) (d.owed).seen)

  queued_stands : (g : Unkept (types C Q V H T E L)) (d : State P C Q V H T E L)
      → map (under (owner_order (d.owed).scopes (d.owed).tasks)) (sorted_by (sooner (task_rank (d.owed).scopes (d.owed).tasks)) (d.owed).queued)
      ≡ map (waiting_task (state_of g d))
      (sorted_by (λ t u. is_before (scopes_of (d.rows).table) (scope_of_task (state_of g d) t) (scope_of_task (state_of g d) u)) (d.owed).queued)
  queued_stands g d = λ i. map (λ t. (task_ordered g d t i, t)) (sorted_by (λ t u. order_before (task_ordered g d t i) (task_ordered g d u i)) (d.owed).queued)

  pub queues_stand : (g : Unkept (types C Q V H T E L)) (d : State P C Q V H T E L)
      → seen_orders d.owed ≡ map (entered_order (d.owed).scopes) (sorted_by (sooner (scope_rank (d.owed).scopes)) (d.owed).seen)
      → queued_line d.owed ≡ map (under (owner_order (d.owed).scopes (d.owed).tasks)) (sorted_by (sooner (task_rank (d.owed).scopes (d.owed).tasks)) (d.owed).queued)
      → StandFor (state_of g d) (seen_orders d.owed) (queued_line d.owed)
  queues_stand g d seen queued = record { seen = seen ∙ seen_stands d; queued = queued ∙ queued_stands g d }
