-- What comes first: the least order, a task before its scope, and the tasks of one order in turn.
use Rattle.std.specs.Prelude.{◌≡◌, ℕ, true, false, List, ◌∷◌, Some}
use Rattle.rt_values.specs.declared.names.Task.{Task}
use Rattle.rt_sched.specs.Order.{order_before}
use Rattle.rt_sched.specs.Lines.{orders_of, first_under}
use Rattle.rt_sched.specs.Queues.{Waiting, has_order}
use Rattle.rt_sched.specs.declared.order.ScopeOrder.{ScopeOrder}
use Rattle.rt_sched.specs.declared.work.Work.{Work}
use Rattle.rt_sched.specs.declared.work.Work.TheVariants.{RerunScope, PollTask}

-- none of these orders comes before o
abbrev pub NoneEarlier : ScopeOrder → List ScopeOrder → Type 0
NoneEarlier o os = (p : ScopeOrder) → has_order p os ≡ true → order_before p o ≡ false

-- each of these orders comes after o
abbrev pub AllLater : ScopeOrder → List ScopeOrder → Type 0
AllLater o os = (p : ScopeOrder) → has_order p os ≡ true → order_before o p ≡ true

-- a task is the first that was queued under an order, and no queued task's order comes before that
pub record IsFirstTask (queued : List (ScopeOrder × ℕ)) (order : ScopeOrder) (task : Task) : Type 0 where
  pub first : first_under order queued ≡ Some task.0
  pub least : NoneEarlier order (orders_of queued)

-- a scope is seen, no seen scope comes before it, and the order of each queued task comes after it
pub record IsFirstScope (seen : List ScopeOrder) (queued : List (ScopeOrder × ℕ)) (scope : ScopeOrder) : Type 0 where
  pub is_seen : has_order scope seen ≡ true
  pub least : NoneEarlier scope seen
  pub tasks_later : AllLater scope (orders_of queued)

-- work is the least of the seen scopes and the orders of the queued tasks, a task on equal order
abbrev pub IsDue : List ScopeOrder → List (ScopeOrder × ℕ) → Work → Type 0
IsDue seen queued (RerunScope scope) = IsFirstScope seen queued scope
IsDue seen queued (PollTask task) = (order : ScopeOrder) × IsFirstTask queued order task × NoneEarlier order seen

module _ {E : Type 0} where
  -- what is taken stood first among the seen scopes or the queued tasks, and all else stays
  abbrev pub Takes : Waiting E → Waiting E → Work → Type 0
  Takes old new (RerunScope scope) = old ≡ record new { seen = scope ∷ new.seen }
  Takes old new (PollTask task) = (order : ScopeOrder) × (old ≡ record new { queued = (order, task.0) ∷ new.queued })
