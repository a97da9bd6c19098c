-- A task holds a boundary from a suspension until it ends; a run keeps what its body read.
use Rattle.std.specs.Prelude.{ℕ, Bool, true, false, nat_eq, List, [], ◌∷◌, Option, Some, None, ◌≡◌}
use Rattle.rt_model.specs.Lists.{at}
use Rattle.rt_model.specs.Tree.{Types, is_suspense_boundary}
use Rattle.rt_model.specs.World.{before_render_kind, Command, RemoveFuture, Application}
use Rattle.rt_model.specs.State.{ChildrenSide, Mark, Scope, TaskRow, State, Item, Done, is_live, location, holds, world_of}
use Rattle.rt_model.specs.Commands.{end, commands}
use Rattle.rt_model.specs.Run.{suspends_on, unmarked, body_of, hooks_called, run}
use Rattle.law_behavior.specs.Marking.{IsPosted}

module _ {K : Types} where
  -- a task is among the holders of a boundary
  abbrev pub holds_at : State K → ℕ → ℕ → Bool
  holds_at w b t = elim (at w.scopes b) [ None ↦ false | Some x ↦ holds x t ]

  -- a command doesn't end a task
  abbrev pub EndsOther : ℕ → Command K → Type 0
  EndsOther t (RemoveFuture u) = nat_eq u t ≡ false
  EndsOther t _ = Unit {0}

  -- none of these commands does
  abbrev pub NoneEnds : ℕ → List (Command K) → Type 0
  NoneEnds t [] = Unit {0}
  NoneEnds t (c ∷ cs) = EndsOther t c × NoneEnds t cs

  -- a task's end releases each boundary that it held, and marks it
  pub record Releases (w : State K) (t : ℕ) : Type 0 where
    pub released : (b : ℕ) → holds_at (end w t) b t ≡ false
    pub marked : (b : ℕ) → holds_at w b t ≡ true → IsPosted (end w t).posted (Mark b)

-- where a body below a boundary's children suspends on a live task, that task holds the boundary
abbrev pub SuspensionsHold : Types → Type 0
SuspensionsHold K =
    (w : State K) (s origin t b : ℕ) (row : TaskRow K)
    → at w.tasks t ≡ Some row
    → location w s ≡ Some (b, ChildrenSide)
    → is_live w b ≡ true
    → (v : State K) × (suspends_on w s origin t (at w.tasks t) ≡ Done v []) × (holds_at v b t ≡ true)

-- it goes on to hold it whatever commands are done, unless one ends the task
abbrev pub HoldersStay : {K : Types} → Application K → Type 0
HoldersStay {K = K} app =
    (w : State K) (s : ℕ) (polled : Option ℕ) (cs : List (Command K)) (b t : ℕ)
    → NoneEnds t cs
    → holds_at w b t ≡ true
    → holds_at (commands app w s polled cs) b t ≡ true

-- the end of a task that is there releases what it held
abbrev pub EndsRelease : Types → Type 0
EndsRelease K = (w : State K) (t : ℕ) (row : TaskRow K) → at w.tasks t ≡ Some row → Releases w t

-- after a run the sources of a scope that is no suspense boundary are those that its body read in this run, in the world
-- that the before-render hooks left, and no others
abbrev pub RunsKeepReads : {K : Types} → Application K → Type 0
RunsKeepReads {K = K} app =
    (w v : State K) (s : ℕ) (x : Scope K) (work : List (Item K))
    → at w.scopes s ≡ Some x
    → is_suspense_boundary x.component ≡ false
    → run app w s ≡ Done v work
    → (u : State K)
    × (none : List (Item K))
    × (hooks_called app before_render_kind (unmarked w s) s x.hooks ≡ Done u none)
    × (y : Scope K)
    × (at v.scopes s ≡ Some y)
    × (y.reads ≡ (body_of app x.component (world_of u s None true)).reads)
