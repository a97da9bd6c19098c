-- What comes next is the first of the least, and where nothing comes nothing is left.
use Rattle.std.specs.Prelude.{ℕ, Bool, true, false, List, [], ◌∷◌, ◌++◌, Some, None, ◌≡◌}
use Rattle.std.specs.List.{AllByRecursion}
use Rattle.rt_model.specs.Tree.{Types}
use Rattle.rt_model.specs.State.{State}
use Rattle.rt_model.specs.Next.{Work, RerunScope, PollTask, RunEffects, is_before, scope_of_task, is_active, at_rest, with_effects, next}

-- an item is the first of the least ones of a list: those that stand before it come later, and those behind it no earlier
pub record IsFirst (earlier : ℕ → ℕ → Bool) (x : ℕ) (xs : List ℕ) : Type 0 where
  pub front : List ℕ
  pub back : List ℕ
  pub stands : xs ≡ front ++ x ∷ back
  pub later : AllByRecursion (λ (y : ℕ). earlier x y ≡ true) front
  pub no_earlier : AllByRecursion (λ (y : ℕ). earlier y x ≡ false) back

module _ {K : Types} where
  -- a task comes before another one where its scope does
  abbrev pub task_before : State K → ℕ → ℕ → Bool
  task_before w t u = is_before w.scopes (scope_of_task w t) (scope_of_task w u)

  -- a scope is rerun: the least seen one, before every queued task's
  pub record ComesToRerun (w : State K) (s : ℕ) : Type 0 where
    pub first : IsFirst (λ a b. is_before w.scopes a b) s w.seen
    pub tasks_later : AllByRecursion (λ (t : ℕ). is_before w.scopes s (scope_of_task w t) ≡ true) w.queued

  -- a task is polled: it isn't paused, it is the first one queued of the least scope, and no seen scope comes before that
  pub record ComesToPoll (w : State K) (t : ℕ) : Type 0 where
    pub active : is_active w t ≡ true
    pub first : IsFirst (λ a b. task_before w a b) t w.queued
    pub scopes_no_earlier : AllByRecursion (λ (s : ℕ). is_before w.scopes s (scope_of_task w t) ≡ false) w.seen

  -- effects are done: nothing else is left, and the scope is the least mounted one that has any
  pub record ComesToEffects (w : State K) (s : ℕ) : Type 0 where
    pub unposted : w.posted ≡ []
    pub unseen : w.seen ≡ []
    pub unqueued : w.queued ≡ []
    pub first : IsFirst (λ a b. is_before w.scopes a b) s (with_effects w.scopes)

  -- what came up came in its turn
  abbrev pub ComesInTurn : State K → Work → Type 0
  ComesInTurn w (RerunScope s) = ComesToRerun w s
  ComesInTurn w (PollTask t) = ComesToPoll w t
  ComesInTurn w (RunEffects s) = ComesToEffects w s

  -- a state in which nothing is posted, seen or queued
  abbrev pub emptied : State K → State K
  emptied w = record w { posted = []; seen = []; queued = [] }

  -- nothing is left of what was owed, nothing else has changed, and no mounted scope has effects
  pub record NothingLeft (w : State K) : Type 0 where
    pub rest : at_rest w ≡ emptied w
    pub effects : with_effects w.scopes ≡ []

-- what comes next comes in its turn
abbrev pub NextInTurn : Types → Type 0
NextInTurn K = (w : State K) (work : Work) → next w ≡ Some work → ComesInTurn (at_rest w) work

-- where nothing comes next nothing is left
abbrev pub NoneIsLeft : Types → Type 0
NoneIsLeft K = (w : State K) → next w ≡ None → NothingLeft w
