-- Who is entered, who is ready and who is posted, each under an order.
use Rattle.std.specs.Prelude.{◌≡◌, ℕ, Bool, false, ◌||◌, ◌&&◌, ◌==◌, not, List, [], ◌∷◌, Some}
use Rattle.std.specs.List.{filter}
use Rattle.rt_sched.specs.Order.{same_order}
use Rattle.rt_sched.specs.Lines.{Row, has_number, waits, with_waiting, order_in}
use Rattle.rt_sched.specs.declared.order.ScopeOrder.{ScopeOrder}

-- the entered numbers with their orders, the ready ones and the posted ones, each list by order
pub record Roster : Type 0 where
  pub entered : List (ScopeOrder × ℕ)
  pub ready : List (ScopeOrder × ℕ)
  pub posted : List (ScopeOrder × ℕ)

-- whether a number stands under an order
abbrev pub stands_under : ℕ → ScopeOrder → List (ScopeOrder × ℕ) → Bool
stands_under n o [] = false
stands_under n o (e ∷ es) = (n == e.1 && same_order o e.0) || stands_under n o es

-- those of the first list join the second in turn
abbrev pub all_waiting : List (ScopeOrder × ℕ) → List (ScopeOrder × ℕ) → List (ScopeOrder × ℕ)
all_waiting [] es = es
all_waiting (p ∷ ps) es = all_waiting ps (with_waiting p.0 p.1 es)

-- those that don't stand under an order
abbrev pub without_under : ScopeOrder → List (ScopeOrder × ℕ) → List (ScopeOrder × ℕ)
without_under o es = filter (λ e. not (same_order o e.0)) es

-- the members are those that wait in es
abbrev pub HasMembers : List ℕ → List (ScopeOrder × ℕ) → Type 0
HasMembers ms es = (q : ℕ) → has_number q ms ≡ waits q es

-- the new members are the old ones
abbrev pub SameMembers : List ℕ → List ℕ → Type 0
SameMembers old new = (q : ℕ) → has_number q new ≡ has_number q old

-- each of es stands under the order under which ts has its number
abbrev pub AllUnder : List (ScopeOrder × ℕ) → List (ScopeOrder × ℕ) → Type 0
AllUnder ts [] = Unit {0}
AllUnder ts (e ∷ es) = (order_in e.1 ts ≡ Some e.0) × AllUnder ts es

-- the three lines have the entered ones as members, and nobody waits under another order than the one entered
pub record AreLines (entered ready posted : Row) : Type 0 where
  pub entered_members : HasMembers entered.members entered.waiting
  pub ready_members : HasMembers ready.members entered.waiting
  pub posted_members : HasMembers posted.members entered.waiting
  pub entered_under : AllUnder entered.waiting entered.waiting
  pub ready_under : AllUnder entered.waiting ready.waiting
  pub posted_under : AllUnder entered.waiting posted.waiting
