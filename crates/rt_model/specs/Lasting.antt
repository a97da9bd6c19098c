-- What lasts along an accepted log: numbers are new, what is gone stays gone, heights rise by one.
use Rattle.std.specs.Prelude.{ℕ, ◌+◌, ◌<◌, ◌≤◌, List, [], ◌∷◌, Some, None, ◌≡◌}
use Rattle.std.specs.List.{AllByRecursion}
use Rattle.rt_model.specs.Lists.{at}
use Rattle.rt_model.specs.Tree.{Types}
use Rattle.rt_model.specs.World.{Firsts, Application}
use Rattle.rt_model.specs.Laws.{IsLawful}
use Rattle.rt_model.specs.State.{Scope, State}
use Rattle.rt_model.specs.Replay.{Entry, Build, Taken, Heard, Rerun, Poll, Effects, Made, Fed, Kept, Removed, Input, Machine, replay_on, start}

-- no counter falls
pub record Rises (before after : Firsts) : Type 0 where
  pub tasks : before.tasks ≤ after.tasks
  pub cells : before.cells ≤ after.cells
  pub contexts : before.contexts ≤ after.contexts
  pub elements : before.elements ≤ after.elements
  pub errors : before.errors ≤ after.errors

-- an entry names this scope
abbrev pub Names : Entry → ℕ → Type 0
Names (Heard x) s = x ≡ s
Names (Rerun x) s = x ≡ s
Names (Effects x) s = x ≡ s
Names (Made x) s = x ≡ s
Names (Fed x) s = x ≡ s
Names (Kept x) s = x ≡ s
Names (Removed x) s = x ≡ s
Names Build s = ⊥
Names (Taken k) s = ⊥
Names (Poll t) s = ⊥

-- an entry polls this task
abbrev pub Polls : Entry → ℕ → Type 0
Polls (Poll t) u = t ≡ u
Polls _ u = ⊥

-- the scopes that a log makes have numbers from this one on, each greater than the one before
abbrev pub MadeFrom : ℕ → List Entry → Type 0
MadeFrom n [] = Unit {0}
MadeFrom n (Made s ∷ log) = (n ≤ s) × MadeFrom (s + 1) log
MadeFrom n (Build ∷ log) = MadeFrom n log
MadeFrom n (Taken k ∷ log) = MadeFrom n log
MadeFrom n (Heard s ∷ log) = MadeFrom n log
MadeFrom n (Rerun s ∷ log) = MadeFrom n log
MadeFrom n (Poll t ∷ log) = MadeFrom n log
MadeFrom n (Effects s ∷ log) = MadeFrom n log
MadeFrom n (Fed s ∷ log) = MadeFrom n log
MadeFrom n (Kept s ∷ log) = MadeFrom n log
MadeFrom n (Removed s ∷ log) = MadeFrom n log

module _ {K : Types} where
  -- every live scope has a number that was drawn, a parent with such a number, and its live parent's height plus one
  pub record IsRooted (w : State K) : Type 0 where
    -- no live scope has a number that is yet to be drawn
    pub drawn : (s : ℕ) → w.next_scope ≤ s → at w.scopes s ≡ None
    -- a parent's number was drawn
    pub parents : (s p : ℕ) (x : Scope K) → at w.scopes s ≡ Some x → x.parent ≡ Some p → p < w.next_scope
    -- under a live parent the height is the parent's plus one
    pub heights : (s p : ℕ) (x y : Scope K) → at w.scopes s ≡ Some x → x.parent ≡ Some p → at w.scopes p ≡ Some y → x.height ≡ y.height + 1

-- along an accepted log numbers are new, heights rise by one from parent to child, a scope that is gone is never
-- named, and a task that has ended is never polled
pub record Lasts {K : Types} (app : Application K) (props : K.Props) (inputs : List (Input K)) (log : List Entry) (m : Machine K) :
    Type 0 where
  -- the live scopes' numbers and heights are right after the log
  pub rooted : IsRooted m.state
  -- each scope that is made has a greater number than all before it
  pub made : MadeFrom 1 log
  -- no later entry names a scope that is gone
  pub gone : (s : ℕ) (rest : List Entry) (u : Machine K) → s < m.state.next_scope → at m.state.scopes s ≡ None
      → replay_on app (Some m) rest ≡ Some u → AllByRecursion (λ (e : Entry). Names e s → ⊥) rest
  -- no later entry polls a task that has ended
  pub ended : (t : ℕ) (rest : List Entry) (u : Machine K) → t < m.state.next.tasks → at m.state.tasks t ≡ None
      → replay_on app (Some m) rest ≡ Some u → AllByRecursion (λ (e : Entry). Polls e t → ⊥) rest
  -- no entry after a removal names its scope
  pub removed : (s : ℕ) (rest : List Entry) (u : Machine K) → replay_on app (Some m) (Removed s ∷ rest) ≡ Some u
      → AllByRecursion (λ (e : Entry). Names e s → ⊥) rest
  -- no counter falls
  pub rises : (rest : List Entry) (u : Machine K) → replay_on app (Some m) rest ≡ Some u → Rises m.state.next u.state.next

-- this holds of every accepted log of a lawful application
abbrev pub LawfulLogsLast : {K : Types} → Application K → Type 0
LawfulLogsLast {K = K} app =
    IsLawful K app → (props : K.Props) (inputs : List (Input K)) (log : List Entry) (m : Machine K)
    → replay_on app (Some (start app props inputs)) log ≡ Some m → Lasts app props inputs log m
