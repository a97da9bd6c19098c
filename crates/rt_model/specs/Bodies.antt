-- Which bodies run in a whole render, and how often a log calls the application.
use Rattle.std.specs.Prelude.{ℕ, ◌+◌, ◌-◌, Bool, true, false, List, [], ◌∷◌, ◌++◌, Option, Some, None, ◌≡◌}
use Rattle.rt_model.specs.Lists.{drop_number}
use Rattle.rt_model.specs.Tree.{Types}
use Rattle.rt_model.specs.World.{Application}
use Rattle.rt_model.specs.State.{State, Item, Feed, Make}
use Rattle.rt_model.specs.Next.{seen_in_order}
use Rattle.rt_model.specs.Replay.{Entry, Rerun, Poll, Made, Fed, Removed, Machine, fed_child, keeps, accepts, replay_on}
use Rattle.rt_model.specs.Told.{count_entries}
use Rattle.rt_model.specs.Sentences.{NoBodyTwice, EndsAt, events_end, render_ends, call_begun}

-- a task is polled
abbrev pub is_poll : Entry → Bool
is_poll (Poll t) = true
is_poll _ = false

-- no task is polled after the first rerun
abbrev pub NoneAfterRerun : List Entry → Type 0
NoneAfterRerun [] = Unit {0}
NoneAfterRerun (Rerun s ∷ log) = count_entries is_poll log ≡ 0
NoneAfterRerun (e ∷ log) = NoneAfterRerun log

-- the next of these scopes is this one, and the others follow
abbrev pub NextIs : ℕ → List ℕ → (List ℕ → Type 0) → Type 0
NextIs s [] rest = ⊥
NextIs s (t ∷ ts) rest = (t ≡ s) × rest ts

-- a log reruns just these scopes in order, but for those that it removes or feeds before their turn
abbrev pub RerunInTurn : List ℕ → List Entry → Type 0
RerunInTurn scopes [] = scopes ≡ []
RerunInTurn scopes (Rerun s ∷ log) = NextIs s scopes (λ rest. RerunInTurn rest log)
RerunInTurn scopes (Fed s ∷ log) = RerunInTurn (drop_number scopes s) log
RerunInTurn scopes (Removed s ∷ log) = RerunInTurn (drop_number scopes s) log
RerunInTurn scopes (e ∷ log) = RerunInTurn scopes log

module _ {K : Types} (app : Application K) where
  -- a whole render: events are processed, and then it goes on until nothing is seen or queued
  pub record RenderEnds (m : Machine K) (log : List Entry) (v : Machine K) : Type 0 where
    -- up to the first state in which a scope is seen or nothing is owed
    pub first : List Entry
    pub between : Machine K
    pub more : List Entry
    pub whole : first ++ more ≡ log
    pub events : EndsAt app (λ (w : State K). events_end w) (call_begun m) first between
    pub goes_on : EndsAt app (λ (w : State K). render_ends w) between more v

  -- the scopes that were seen when the first rerun was taken are rerun in order, but for those removed or fed before their turn
  abbrev pub RerunsTheSeen : Machine K → List Entry → Type 0
  RerunsTheSeen m [] = Unit {0}
  RerunsTheSeen m (Rerun s ∷ log) = RerunInTurn (seen_in_order m.state) (Rerun s ∷ log)
  RerunsTheSeen m (e ∷ log) = (u : Machine K) → accepts app m e ≡ Some u → RerunsTheSeen u log

  -- the open work's first item is a make
  abbrev pub MakesFirst : List (Item K) → Type 0
  MakesFirst (Make s side p c ∷ rest) = Unit {0}
  MakesFirst _ = ⊥

  -- the open work's first item feeds this scope what memoize refuses
  abbrev pub FeedsFirst : State K → ℕ → List (Item K) → Type 0
  FeedsFirst w t (Feed s side p c ∷ rest) = (fed_child w s side p ≡ Some t) × (keeps app w t c ≡ false)
  FeedsFirst w t _ = ⊥

  -- a body that runs without being rerun is made, or fed what memoize refuses
  abbrev pub MadeOrFed : Machine K → Entry → Type 0
  MadeOrFed m (Made s) = MakesFirst m.work
  MadeOrFed m (Fed s) = FeedsFirst m.state s m.work
  MadeOrFed m _ = Unit {0}

  -- so it is of each entry of a log
  abbrev pub OthersMadeOrFed : Machine K → List Entry → Type 0
  OthersMadeOrFed m [] = Unit {0}
  OthersMadeOrFed m (e ∷ log) = MadeOrFed m e × ((u : Machine K) → accepts app m e ≡ Some u → OthersMadeOrFed u log)

  -- what a whole render says of the bodies that it runs
  pub record RunsOnce (m : Machine K) (log : List Entry) : Type 0 where
    -- each scope's body at most once
    pub once : NoBodyTwice log
    -- the reruns are those of the scopes seen
    pub reruns : RerunsTheSeen (call_begun m) log
    -- every other body that ran was made or fed
    pub others : OthersMadeOrFed (call_begun m) log

  -- how often the application was called up to a machine
  abbrev pub calls_at : Option (Machine K) → ℕ
  calls_at None = 0
  calls_at (Some m) = (m.state).calls

  -- how many application calls an accepted log means: a body of the application's own, a handler or fallback, a hook of a render,
  -- a listener, a poll, an effect, a clean-up, a resolved callback each count once
  abbrev pub calls_meant : Machine K → List Entry → ℕ
  calls_meant m log = calls_at (replay_on app (Some m) log) - (m.state).calls
