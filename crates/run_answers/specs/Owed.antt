-- What is owed, told of a state as it is: without a drop and without a look.
use Rattle.std.specs.Prelude.{ℕ, Bool, true, false, ◌||◌, List, [], ◌∷◌, Option, Some, None, is_some}
use Rattle.rt_model.specs.Lists.{at}
use Rattle.rt_model.specs.Tree.{Types}
use Rattle.rt_model.specs.State.{Posted, Mark, Woken, TaskRow, Scope, State}
use Rattle.rt_model.specs.Next.{is_before, least, with_effects}
use Rattle.run_owed.specs.Stands.{behind_number}

-- some number is in it
abbrev pub sees_any : List ℕ → Bool
sees_any [] = false
sees_any (s ∷ ss) = true

-- of some numbers all, or those behind the last that was met
abbrev pub after_last : Option ℕ → List ℕ → List ℕ
after_last None ns = ns
after_last (Some n) ns = behind_number n ns

module _ {K : Types} where
  -- a task is live and active
  abbrev pub active_in : List (ℕ × TaskRow K) → ℕ → Bool
  active_in tasks t = elim (at tasks t) [ None ↦ false | Some x ↦ x.active ]

  -- one of these tasks is active
  abbrev pub any_active : List (ℕ × TaskRow K) → List ℕ → Bool
  any_active tasks [] = false
  any_active tasks (t ∷ ts) = active_in tasks t || any_active tasks ts

  -- one of these scopes is live
  abbrev pub any_live : List (ℕ × Scope K) → List ℕ → Bool
  any_live scopes [] = false
  any_live scopes (s ∷ ss) = is_some (at scopes s) || any_live scopes ss

  -- a look would see this scope, or queue this task, which is active
  abbrev pub comes_of : List (ℕ × Scope K) → List (ℕ × TaskRow K) → Posted → Bool
  comes_of scopes tasks (Mark s) = is_some (at scopes s)
  comes_of scopes tasks (Woken t) = active_in tasks t

  -- a look would see or queue something that comes up
  abbrev pub turns_up : List (ℕ × Scope K) → List (ℕ × TaskRow K) → List Posted → Bool
  turns_up scopes tasks [] = false
  turns_up scopes tasks (p ∷ ps) = comes_of scopes tasks p || turns_up scopes tasks ps

  -- a scope is seen, or a queued task is active
  abbrev pub comes_up : State K → Bool
  comes_up w = sees_any w.seen || any_active w.tasks w.queued

  -- the mounted scope of the least order that has effects
  abbrev pub first_effects : List (ℕ × Scope K) → Option ℕ
  first_effects scopes = least (λ s t. is_before scopes s t) (with_effects scopes)

  -- something would come up after a look, or a batch of effects is left
  abbrev pub comes_later : State K → Bool
  comes_later w = turns_up w.scopes w.tasks w.posted || is_some (first_effects w.scopes)

  -- something comes up, or would after a look, or a batch of effects is left
  abbrev pub is_owed : State K → Bool
  is_owed w = comes_up w || comes_later w
