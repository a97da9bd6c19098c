-- What the scheduler's queues hold of what is owed.
use Rattle.std.specs.Prelude.{◌≡◌, ℕ, ◌<◌, true, nat_eq, List, [], ◌∷◌, map, Option, option_map, if◌then◌else◌}
use Rattle.rt_model.specs.Lists.{has}
use Rattle.rt_model.specs.Next.{least}
use Rattle.rt_sched.specs.Lines.{orders_of}
use Rattle.rt_sched.specs.Queues.{Waiting}
use Rattle.rt_sched.specs.Rosters.{all_waiting}
use Rattle.rt_sched.specs.declared.order.ScopeOrder.{ScopeOrder}
use Rattle.run_owed.specs.Lists.{EachOnce, held, marks_in, numbers_of, wakes_in}
use Rattle.run_owed.specs.Orders.{scope_rank, sooner, task_rank}
use Rattle.run_owed.specs.Owing.{Owing, living}

-- the order of a scope, by what it was entered with
abbrev pub entered_order : List (ℕ × ℕ) → ℕ → ScopeOrder
entered_order scopes s = record { height = held scopes s; id = record { 0 = s } }

-- a task has the order of its scope
abbrev pub owner_order : List (ℕ × ℕ) → List (ℕ × ℕ) → ℕ → ScopeOrder
owner_order scopes tasks t = entered_order scopes (held tasks t)

-- a number under its order
abbrev pub under : (ℕ → ScopeOrder) → ℕ → ScopeOrder × ℕ
under order n = (order n, n)

-- who waits in a line to which these came one after another
abbrev pub line : (ℕ → ScopeOrder) → List ℕ → List (ScopeOrder × ℕ)
line order ns = all_waiting (map (under order) ns) []

-- the numbers of such a line, first to last
abbrev pub in_turn : (ℕ → ScopeOrder) → List ℕ → List ℕ
in_turn order ns = map (λ e. e.1) (line order ns)

-- the numbers behind one, none where it isn't there
abbrev pub behind_number : ℕ → List ℕ → List ℕ
behind_number n [] = []
behind_number n (m ∷ ms) = if nat_eq n m then ms else behind_number n ms

-- each is one of these
abbrev pub AllIn : List ℕ → List ℕ → Type 0
AllIn all [] = Unit {0}
AllIn all (n ∷ ns) = (has all n ≡ true) × AllIn all ns

-- each is below a number
abbrev pub AllBelow : ℕ → List ℕ → Type 0
AllBelow end [] = Unit {0}
AllBelow end (n ∷ ns) = (n < end) × AllBelow end ns

-- the scopes of tasks
abbrev pub owners_of : List (ℕ × ℕ) → List ℕ
owners_of [] = []
owners_of (e ∷ es) = e.1 ∷ owners_of es

-- the queued tasks in the turn in which they come up
abbrev pub queued_in_turn : Owing → List ℕ
queued_in_turn o = in_turn (owner_order o.scopes o.tasks) o.queued

-- the tasks of which a wake is posted, in the turn in which a look queues them
abbrev pub woken_in_turn : Owing → List ℕ
woken_in_turn o = in_turn (owner_order o.scopes o.tasks) (living o.tasks (wakes_in o.posted))

-- the seen scopes as orders, in the turn in which they come up
abbrev pub seen_orders : Owing → List ScopeOrder
seen_orders o = orders_of (line (entered_order o.scopes) o.seen)

-- the queued tasks under their orders, in that turn
abbrev pub queued_line : Owing → List (ScopeOrder × ℕ)
queued_line o = line (owner_order o.scopes o.tasks) o.queued

-- the seen scope of the least height, of such ones the least number
abbrev pub least_seen : Owing → Option ScopeOrder
least_seen o = option_map (entered_order o.scopes) (least (sooner (scope_rank o.scopes)) o.seen)

-- the queued task of the least such scope, of one scope's tasks the one that joined first
abbrev pub least_queued : Owing → Option (ScopeOrder × ℕ)
least_queued o = option_map (under (owner_order o.scopes o.tasks)) (least (sooner (task_rank o.scopes o.tasks)) o.queued)

-- the queues hold what is entered and owed, each under its order, first in, first out
pub record AreQueued (o : Owing) (q : Waiting (Unit {0})) : Type 0 where
  pub scopes : q.scopes ≡ orders_of (line (entered_order o.scopes) (numbers_of o.scopes))
  pub tasks : q.tasks ≡ line (owner_order o.scopes o.tasks) (numbers_of o.tasks)
  pub seen : q.seen ≡ seen_orders o
  pub queued : q.queued ≡ queued_line o
  pub marks : q.posted_scopes ≡ orders_of (line (entered_order o.scopes) (living o.scopes (marks_in o.posted)))
  pub wakes : q.posted_tasks ≡ line (owner_order o.scopes o.tasks) (living o.tasks (wakes_in o.posted))

-- what is owed is of what is entered, and numbers of scopes never come again
pub record AreOwed (o : Owing) (next : ℕ) : Type 0 where
  pub seen : AllIn (numbers_of o.scopes) o.seen
  pub queued : AllIn (numbers_of o.tasks) o.queued
  pub wakes : AllIn (numbers_of o.tasks) (wakes_in o.posted)
  pub owners : AllIn (numbers_of o.scopes) (owners_of o.tasks)
  pub tasks_once : EachOnce (numbers_of o.tasks)
  pub seen_once : EachOnce o.seen
  pub queued_once : EachOnce o.queued
  pub scopes_below : AllBelow next (numbers_of o.scopes)
  pub marks_below : AllBelow next (marks_in o.posted)

-- both
pub record StandsFor (o : Owing) (q : Waiting (Unit {0})) (next : ℕ) : Type 0 where
  pub queues : AreQueued o q
  pub owed : AreOwed o next
