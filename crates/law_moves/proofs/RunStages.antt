-- How far the run of a suspense boundary is, and what is so at each stage of it.
use Rattle.std.proofs.Common.{Bool, true, false, List, [], ◌∷◌}
use Rattle.std.specs.Prelude.{Option, Some, None}
use Rattle.rt_model.specs.State.{SideName, ChildrenSide, FallbackSide, RowStep, PatchChildren, MadeChildren, RunFallback, ShowFallback, ShowChildren, DropFallback, Resolve}

-- how far the run of a suspense boundary is: the side that shows, and the steps that are left
pub data Stage : Type 0 where
  Making : Stage
  Asking : Stage
  FirstCalls : Stage
  FirstTurns : Stage
  OpensFirst : Stage
  Waits : Stage
  CallsAgain : Stage
  PatchesHidden : Stage
  Frees : Stage
  TurnsBack : Stage
  Rests : Stage
  Patches : Stage
  Covers : Stage
  Hides : Stage
  Clears : Stage
  Resolves : Stage

abbrev pub shows_at : Stage → Option SideName
shows_at Making = None
shows_at Asking = None
shows_at FirstCalls = None
shows_at FirstTurns = None
shows_at OpensFirst = None
shows_at Waits = Some FallbackSide
shows_at CallsAgain = Some FallbackSide
shows_at PatchesHidden = Some FallbackSide
shows_at Frees = Some FallbackSide
shows_at TurnsBack = Some FallbackSide
shows_at Rests = Some ChildrenSide
shows_at Patches = Some ChildrenSide
shows_at Covers = Some ChildrenSide
shows_at Hides = Some ChildrenSide
shows_at Clears = Some ChildrenSide
shows_at Resolves = Some ChildrenSide

abbrev pub steps_at : Stage → List RowStep
steps_at Making = PatchChildren ∷ MadeChildren ∷ []
steps_at Asking = MadeChildren ∷ []
steps_at FirstCalls = RunFallback ∷ ShowFallback ∷ []
steps_at FirstTurns = ShowFallback ∷ []
steps_at OpensFirst = ShowChildren ∷ Resolve ∷ []
steps_at Waits = []
steps_at CallsAgain = RunFallback ∷ PatchChildren ∷ []
steps_at PatchesHidden = PatchChildren ∷ []
steps_at Frees = PatchChildren ∷ ShowChildren ∷ DropFallback ∷ Resolve ∷ []
steps_at TurnsBack = ShowChildren ∷ DropFallback ∷ Resolve ∷ []
steps_at Rests = []
steps_at Patches = PatchChildren ∷ []
steps_at Covers = RunFallback ∷ ShowFallback ∷ PatchChildren ∷ []
steps_at Hides = ShowFallback ∷ PatchChildren ∷ []
steps_at Clears = DropFallback ∷ Resolve ∷ []
steps_at Resolves = Resolve ∷ []

-- the children's output is that of the component
abbrev pub patched_at : Stage → Bool
patched_at Making = false
patched_at Asking = true
patched_at FirstCalls = true
patched_at FirstTurns = true
patched_at OpensFirst = true
patched_at Waits = true
patched_at CallsAgain = false
patched_at PatchesHidden = false
patched_at Frees = false
patched_at TurnsBack = true
patched_at Rests = true
patched_at Patches = false
patched_at Covers = false
patched_at Hides = false
patched_at Clears = true
patched_at Resolves = true

-- whether the boundary is held, where the run has found that out
abbrev pub held_at : Stage → Option Bool
held_at Making = None
held_at Asking = None
held_at FirstCalls = Some true
held_at FirstTurns = Some true
held_at OpensFirst = Some false
held_at Waits = Some true
held_at CallsAgain = Some true
held_at PatchesHidden = Some true
held_at Frees = Some false
held_at TurnsBack = Some false
held_at Rests = Some false
held_at Patches = Some false
held_at Covers = Some true
held_at Hides = Some true
held_at Clears = Some false
held_at Resolves = Some false

-- the fallback was called, and its output is its answer
abbrev pub called_at : Stage → Bool
called_at Making = false
called_at Asking = false
called_at FirstCalls = false
called_at FirstTurns = true
called_at OpensFirst = false
called_at Waits = true
called_at CallsAgain = false
called_at PatchesHidden = true
called_at Frees = false
called_at TurnsBack = false
called_at Rests = false
called_at Patches = false
called_at Covers = false
called_at Hides = true
called_at Clears = false
called_at Resolves = false

-- nothing is recorded as read
abbrev pub unread_at : Stage → Bool
unread_at Making = false
unread_at Asking = false
unread_at FirstCalls = false
unread_at FirstTurns = false
unread_at OpensFirst = false
unread_at Waits = false
unread_at CallsAgain = false
unread_at PatchesHidden = false
unread_at Frees = false
unread_at TurnsBack = false
unread_at Rests = true
unread_at Patches = true
unread_at Covers = false
unread_at Hides = false
unread_at Clears = true
unread_at Resolves = true
