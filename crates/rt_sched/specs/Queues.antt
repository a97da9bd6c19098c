-- What is entered, seen, queued and posted, and the batches of effects, each by order.
use Rattle.std.specs.Prelude.{ℕ, Bool, true, false, ◌||◌, ◌==◌, not, List, [], ◌∷◌, Option, None, Some, if◌then◌else◌}
use Rattle.std.specs.List.{filter}
use Rattle.rt_values.specs.declared.names.Task.{Task}
use Rattle.rt_sched.specs.Order.{order_before, same_order}
use Rattle.rt_sched.specs.Rosters.{all_waiting}
use Rattle.rt_sched.specs.declared.order.ScopeOrder.{ScopeOrder}
use Rattle.rt_sched.specs.declared.work.Work.{Work}
use Rattle.rt_sched.specs.declared.work.Work.TheVariants.{RerunScope, PollTask}

-- The lists are in order. A task stands by its number under the order of its scope, and in one order first in, first out.
pub record Waiting (E : Type 0) : Type 0 where
  -- the entered scopes
  pub scopes : List ScopeOrder
  -- the entered tasks
  pub tasks : List (ScopeOrder × ℕ)
  -- the seen scopes, each once
  pub seen : List ScopeOrder
  -- the queued tasks, each once
  pub queued : List (ScopeOrder × ℕ)
  -- the scopes of which a mark is posted, each once
  pub posted_scopes : List ScopeOrder
  -- the tasks of which a wake is posted, each once
  pub posted_tasks : List (ScopeOrder × ℕ)
  -- the effects of each scope that has any, in order of queueing
  pub effects : List (ScopeOrder × List E)

-- whether a scope with this number is among these
abbrev pub has_scope : ℕ → List ScopeOrder → Bool
has_scope n [] = false
has_scope n (o ∷ os) = n == o.id.0 || has_scope n os

-- whether an order is among these
abbrev pub has_order : ScopeOrder → List ScopeOrder → Bool
has_order o [] = false
has_order o (p ∷ ps) = same_order o p || has_order o ps

-- an order more, in its place
abbrev pub with_order : ScopeOrder → List ScopeOrder → List ScopeOrder
with_order o [] = o ∷ []
with_order o (p ∷ ps) = if order_before o p then o ∷ p ∷ ps else p ∷ with_order o ps

-- a scope more, unless it is there
abbrev pub with_scope : ScopeOrder → List ScopeOrder → List ScopeOrder
with_scope o os = if has_scope o.id.0 os then os else with_order o os

-- the scopes without that of a number
abbrev pub without_scope : ℕ → List ScopeOrder → List ScopeOrder
without_scope n os = filter (λ o. not (n == o.id.0)) os

-- the first scopes are seen too
abbrev pub all_seen : List ScopeOrder → List ScopeOrder → List ScopeOrder
all_seen [] seen = seen
all_seen (o ∷ os) seen = all_seen os (with_scope o seen)

-- the tasks without those of a scope
abbrev pub without_tasks_of : ℕ → List (ScopeOrder × ℕ) → List (ScopeOrder × ℕ)
without_tasks_of n es = filter (λ e. not (n == e.0.id.0)) es

-- the order of the scope with this number, if it is among these
abbrev pub scope_order : ℕ → List ScopeOrder → Option ScopeOrder
scope_order n [] = None
scope_order n (o ∷ os) = if n == o.id.0 then Some o else scope_order n os

-- the first of these scopes, if there is one
abbrev pub first_scope : List ScopeOrder → Option ScopeOrder
first_scope [] = None
first_scope (o ∷ os) = Some o

-- the first task of a scope, if any is of it
abbrev pub first_task_of : ℕ → List (ScopeOrder × ℕ) → Option Task
first_task_of n [] = None
first_task_of n (e ∷ es) = if n == e.0.id.0 then Some (record { 0 = e.1 }) else first_task_of n es

-- the lesser of the first seen scope and the first queued task, the task on equal order
abbrev pub next_work : List ScopeOrder → List (ScopeOrder × ℕ) → Option Work
next_work [] [] = None
next_work (o ∷ os) [] = Some (RerunScope o)
next_work [] (e ∷ es) = Some (PollTask (record { 0 = e.1 }))
next_work (o ∷ os) (e ∷ es) = if order_before o e.0 then Some (RerunScope o) else Some (PollTask (record { 0 = e.1 }))

-- the lesser of a seen scope and a queued task, the task on equal order
abbrev pub lesser_work : Option ScopeOrder → Option (ScopeOrder × ℕ) → Option Work
lesser_work None None = None
lesser_work (Some o) None = Some (RerunScope o)
lesser_work None (Some e) = Some (PollTask (record { 0 = e.1 }))
lesser_work (Some o) (Some e) = if order_before o e.0 then Some (RerunScope o) else Some (PollTask (record { 0 = e.1 }))

-- the seen scopes once the next work is taken
abbrev pub seen_after : List ScopeOrder → List (ScopeOrder × ℕ) → List ScopeOrder
seen_after [] es = []
seen_after (o ∷ os) [] = os
seen_after (o ∷ os) (e ∷ es) = if order_before o e.0 then os else o ∷ os

-- the queued tasks once the next work is taken
abbrev pub queued_after : List ScopeOrder → List (ScopeOrder × ℕ) → List (ScopeOrder × ℕ)
queued_after os [] = []
queued_after [] (e ∷ es) = es
queued_after (o ∷ os) (e ∷ es) = if order_before o e.0 then e ∷ es else es

-- whether the first seen scope comes before the first queued task
abbrev pub scope_first : Option ScopeOrder → Option ScopeOrder → Bool
scope_first None t = false
scope_first (Some o) None = true
scope_first (Some o) (Some p) = order_before o p

-- the first queued task, if any is
abbrev pub first_task : List (ScopeOrder × ℕ) → Option Task
first_task [] = None
first_task (e ∷ es) = Some (record { 0 = e.1 })

module _ {E : Type 0} where
  -- all that is posted is seen or queued
  abbrev pub looked : Waiting E → Waiting E
  looked w = record w {
    seen = all_seen w.posted_scopes w.seen;
    queued = all_waiting w.posted_tasks w.queued;
    posted_scopes = [];
    posted_tasks = [];
  }
