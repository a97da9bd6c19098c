-- How a removal calls clean-ups: each once, last made first, and children before their parents.
use Rattle.std.specs.Prelude.{ℕ, true, nat_eq, List, [], ◌∷◌, ◌++◌, None, ◌≡◌, if◌then◌else◌}
use Rattle.rt_model.specs.Tree.{Types}
use Rattle.rt_model.specs.World.{clean_up_kind, Hook, HookValue, HookEffect, Command, Meaning, Nothing, Application}
use Rattle.rt_model.specs.State.{State, Item, Done, hooks_of, world_of}
use Rattle.rt_model.specs.Commands.{commands}
use Rattle.rt_model.specs.Run.{with_next, called_once}
use Rattle.rt_model.specs.Removal.{next_removed, gone, stopped, removed}
use Rattle.law_moves.specs.Removals.{children_at, Wooded}

-- a list from its end to its start
abbrev pub backwards : {A : Type 0} → List A → List A
backwards [] = []
backwards (x ∷ xs) = backwards xs ++ x ∷ []

module _ {K : Types} where
  -- the clean-ups among hooks, in the order in which they were made
  abbrev pub clean_ups_among : List (Hook K) → List K.Effect
  clean_ups_among [] = []
  clean_ups_among (HookValue k v ∷ hs) = clean_ups_among hs
  clean_ups_among (HookEffect k e ∷ hs) = if nat_eq k clean_up_kind then e ∷ clean_ups_among hs else clean_ups_among hs

module _ {K : Types} (app : Application K) where
  -- these effects are called one after another in a scope, each once, while a patch runs;
  -- what they want done is gathered, and none is refused
  abbrev pub CalledInTurn : ℕ → State K → List K.Effect → State K → List (Command K) → Type 0
  CalledInTurn s w [] v wanted = (v ≡ w) × (wanted ≡ [])
  CalledInTurn s w (e ∷ es) v wanted =
      (m : Meaning K Nothing)
      × (m ≡ app.effect e (world_of (called_once w) s None true))
      × (m.fault ≡ None)
      × ((later : List (Command K)) × (wanted ≡ m.commands ++ later) × CalledInTurn s (with_next (called_once w) m.next) es v later)

  -- how a removal that isn't cut goes: the scope's tasks, marks and effects end, its clean-ups are called in turn, last made first,
  -- then it goes with what it owns, and last what they wanted is done
  pub record CleansUp (w v : State K) (s : ℕ) : Type 0 where
    pub called : State K
    pub wanted : List (Command K)
    pub in_turn : CalledInTurn s (stopped w s) (backwards (clean_ups_among (hooks_of w s))) called wanted
    pub ends : v ≡ commands app (gone called s) s None wanted

  -- each clean-up of a scope is called once at its removal, last made first
  abbrev pub CleanUpsInTurn : Type 0
  CleanUpsInTurn = (w v : State K) (s : ℕ) (work : List (Item K)) → removed app w s ≡ Done v work → CleansUp w v s

-- the scope that a removal takes next has no child that is left, so children clean up before their parents
abbrev pub ChildrenGoFirst : Types → Type 0
ChildrenGoFirst K = (w : State K) (s : ℕ) → Wooded w → children_at w (next_removed w s) ≡ []
