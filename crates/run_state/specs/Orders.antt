-- The order of the scheduler's queues is the order by which work comes, and what queues hold that stand for a state.
use Rattle.std.specs.Prelude.{ℕ, List, map, ◌≡◌}
use Rattle.rt_model.specs.Tree.{Types}
use Rattle.rt_model.specs.State.{Scope, State, height_of}
use Rattle.rt_model.specs.Next as next
use Rattle.rt_model.specs.Next.{is_before, scope_of_task, sorted_by}
use Rattle.rt_sched.specs.declared.order.ScopeOrder.{ScopeOrder}
use Rattle.rt_sched.specs.declared.work.Work.{Work}
use Rattle.rt_sched.specs.declared.work.Work.TheVariants as queued

-- what the queues answer, by its number
abbrev pub taken_of : Work → next.Work
taken_of (queued.RerunScope o) = next.RerunScope o.id.0
taken_of (queued.PollTask t) = next.PollTask t.0

module _ {K : Types} where
  -- the order of a scope: its height, and then its number
  abbrev pub order_of : List (ℕ × Scope K) → ℕ → ScopeOrder
  order_of scopes s = record { height = height_of scopes s; id = record { 0 = s } }

  -- a task under the order of its scope
  abbrev pub waiting_task : State K → ℕ → ScopeOrder × ℕ
  waiting_task w t = (order_of w.scopes (scope_of_task w t), t)

  -- queues hold what a state has seen and queued: each in order, and tasks of one order as they came
  pub record StandFor (w : State K) (os : List ScopeOrder) (es : List (ScopeOrder × ℕ)) : Type 0 where
    pub seen : os ≡ map (order_of w.scopes) (sorted_by (λ s t. is_before w.scopes s t) w.seen)
    pub queued : es ≡ map (waiting_task w) (sorted_by (λ t u. is_before w.scopes (scope_of_task w t) (scope_of_task w u)) w.queued)
