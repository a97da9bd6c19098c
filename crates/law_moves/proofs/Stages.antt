-- Which stage of a boundary's run comes after a step.
use Rattle.std.proofs.Common.{false, List, [], ◌∷◌, ◌≡◌, refl, ap}
use Rattle.std.specs.Prelude.{Some}
use Rattle.rt_model.specs.State.{ChildrenSide, FallbackSide, RowStep, PatchChildren, MadeChildren, RunFallback, ShowFallback, ShowChildren, DropFallback, Resolve}
use Rattle.law_moves.proofs.RunStages.{Stage, Making, Asking, FirstCalls, FirstTurns, OpensFirst, Waits, CallsAgain, PatchesHidden, Frees, TurnsBack, Rests, Patches, Covers, Hides, Clears, Resolves, shows_at, steps_at, patched_at, held_at, called_at, unread_at}

abbrev tail : List RowStep → List RowStep
tail [] = []
tail (step ∷ steps) = steps

tail_of : (xs : List RowStep) (step : RowStep) (rest : List RowStep) → xs ≡ step ∷ rest → tail xs ≡ rest
tail_of xs step rest h = ap (λ (ys : List RowStep). tail ys) h

-- the children are patched
abbrev pub Patching : Stage → List RowStep → Type 0
Patching g rest = (h : Stage) × (steps_at h ≡ rest) × (shows_at h ≡ shows_at g) × (unread_at h ≡ unread_at g) × (held_at h ≡ held_at g) × (called_at h ≡ called_at g)

pub patching : (g : Stage) (rest : List RowStep) → steps_at g ≡ PatchChildren ∷ rest → Patching g rest
patching Making rest e = (Asking, tail_of (steps_at Making) PatchChildren rest e, refl, refl, refl, refl)
patching Asking rest e = cc
patching FirstCalls rest e = cc
patching FirstTurns rest e = cc
patching OpensFirst rest e = cc
patching Waits rest e = cc
patching CallsAgain rest e = cc
patching PatchesHidden rest e = (Waits, tail_of (steps_at PatchesHidden) PatchChildren rest e, refl, refl, refl, refl)
patching Frees rest e = (TurnsBack, tail_of (steps_at Frees) PatchChildren rest e, refl, refl, refl, refl)
patching TurnsBack rest e = cc
patching Rests rest e = cc
patching Patches rest e = (Rests, tail_of (steps_at Patches) PatchChildren rest e, refl, refl, refl, refl)
patching Covers rest e = cc
patching Hides rest e = cc
patching Clears rest e = cc
patching Resolves rest e = cc

-- the fallback is called
abbrev pub Calling : Stage → List RowStep → Type 0
Calling g rest = (h : Stage) × (steps_at h ≡ rest) × (shows_at h ≡ shows_at g) × (unread_at h ≡ false) × (held_at h ≡ held_at g) × (patched_at h ≡ patched_at g)

pub calling : (g : Stage) (rest : List RowStep) → steps_at g ≡ RunFallback ∷ rest → Calling g rest
calling Making rest e = cc
calling Asking rest e = cc
calling FirstCalls rest e = (FirstTurns, tail_of (steps_at FirstCalls) RunFallback rest e, refl, refl, refl, refl)
calling FirstTurns rest e = cc
calling OpensFirst rest e = cc
calling Waits rest e = cc
calling CallsAgain rest e = (PatchesHidden, tail_of (steps_at CallsAgain) RunFallback rest e, refl, refl, refl, refl)
calling PatchesHidden rest e = cc
calling Frees rest e = cc
calling TurnsBack rest e = cc
calling Rests rest e = cc
calling Patches rest e = cc
calling Covers rest e = (Hides, tail_of (steps_at Covers) RunFallback rest e, refl, refl, refl, refl)
calling Hides rest e = cc
calling Clears rest e = cc
calling Resolves rest e = cc

-- the fallback shows
abbrev pub Hiding : Stage → List RowStep → Type 0
Hiding g rest = (h : Stage) × (steps_at h ≡ rest) × (shows_at h ≡ Some FallbackSide) × (unread_at h ≡ false) × (held_at h ≡ held_at g) × (patched_at h ≡ patched_at g) × (called_at h ≡ called_at g)

pub hiding : (g : Stage) (rest : List RowStep) → steps_at g ≡ ShowFallback ∷ rest → Hiding g rest
hiding Making rest e = cc
hiding Asking rest e = cc
hiding FirstCalls rest e = cc
hiding FirstTurns rest e = (Waits, tail_of (steps_at FirstTurns) ShowFallback rest e, refl, refl, refl, refl, refl)
hiding OpensFirst rest e = cc
hiding Waits rest e = cc
hiding CallsAgain rest e = cc
hiding PatchesHidden rest e = cc
hiding Frees rest e = cc
hiding TurnsBack rest e = cc
hiding Rests rest e = cc
hiding Patches rest e = cc
hiding Covers rest e = cc
hiding Hides rest e = (PatchesHidden, tail_of (steps_at Hides) ShowFallback rest e, refl, refl, refl, refl, refl)
hiding Clears rest e = cc
hiding Resolves rest e = cc

-- the children show
abbrev pub Showing : Stage → List RowStep → Type 0
Showing g rest = (h : Stage) × (steps_at h ≡ rest) × (shows_at h ≡ Some ChildrenSide) × (held_at h ≡ held_at g) × (patched_at h ≡ patched_at g) × (called_at h ≡ false)

pub showing : (g : Stage) (rest : List RowStep) → steps_at g ≡ ShowChildren ∷ rest → Showing g rest
showing Making rest e = cc
showing Asking rest e = cc
showing FirstCalls rest e = cc
showing FirstTurns rest e = cc
showing OpensFirst rest e = (Resolves, tail_of (steps_at OpensFirst) ShowChildren rest e, refl, refl, refl, refl)
showing Waits rest e = cc
showing CallsAgain rest e = cc
showing PatchesHidden rest e = cc
showing Frees rest e = cc
showing TurnsBack rest e = (Clears, tail_of (steps_at TurnsBack) ShowChildren rest e, refl, refl, refl, refl)
showing Rests rest e = cc
showing Patches rest e = cc
showing Covers rest e = cc
showing Hides rest e = cc
showing Clears rest e = cc
showing Resolves rest e = cc

-- the fallback is dropped
abbrev pub Clearing : Stage → List RowStep → Type 0
Clearing g rest = (h : Stage) × (steps_at h ≡ rest) × (shows_at h ≡ shows_at g) × (unread_at h ≡ unread_at g) × (held_at h ≡ held_at g) × (patched_at h ≡ patched_at g) × (called_at h ≡ false)

pub clearing : (g : Stage) (rest : List RowStep) → steps_at g ≡ DropFallback ∷ rest → Clearing g rest
clearing Making rest e = cc
clearing Asking rest e = cc
clearing FirstCalls rest e = cc
clearing FirstTurns rest e = cc
clearing OpensFirst rest e = cc
clearing Waits rest e = cc
clearing CallsAgain rest e = cc
clearing PatchesHidden rest e = cc
clearing Frees rest e = cc
clearing TurnsBack rest e = cc
clearing Rests rest e = cc
clearing Patches rest e = cc
clearing Covers rest e = cc
clearing Hides rest e = cc
clearing Clears rest e = (Resolves, tail_of (steps_at Clears) DropFallback rest e, refl, refl, refl, refl, refl)
clearing Resolves rest e = cc

-- the callbacks are called
abbrev pub Resolving : Stage → List RowStep → Type 0
Resolving g rest = (h : Stage) × (steps_at h ≡ rest) × (shows_at h ≡ shows_at g) × (unread_at h ≡ unread_at g) × (held_at h ≡ held_at g) × (patched_at h ≡ patched_at g) × (called_at h ≡ called_at g)

pub resolving : (g : Stage) (rest : List RowStep) → steps_at g ≡ Resolve ∷ rest → Resolving g rest
resolving Making rest e = cc
resolving Asking rest e = cc
resolving FirstCalls rest e = cc
resolving FirstTurns rest e = cc
resolving OpensFirst rest e = cc
resolving Waits rest e = cc
resolving CallsAgain rest e = cc
resolving PatchesHidden rest e = cc
resolving Frees rest e = cc
resolving TurnsBack rest e = cc
resolving Rests rest e = cc
resolving Patches rest e = cc
resolving Covers rest e = cc
resolving Hides rest e = cc
resolving Clears rest e = cc
resolving Resolves rest e = (Rests, tail_of (steps_at Resolves) Resolve rest e, refl, refl, refl, refl, refl)

-- the run asks whether the boundary is held
pub asking : (g : Stage) (rest : List RowStep) → steps_at g ≡ MadeChildren ∷ rest → (g ≡ Asking) × ([] ≡ rest)
asking Making rest e = cc
asking Asking rest e = (refl, tail_of (steps_at Asking) MadeChildren rest e)
asking FirstCalls rest e = cc
asking FirstTurns rest e = cc
asking OpensFirst rest e = cc
asking Waits rest e = cc
asking CallsAgain rest e = cc
asking PatchesHidden rest e = cc
asking Frees rest e = cc
asking TurnsBack rest e = cc
asking Rests rest e = cc
asking Patches rest e = cc
asking Covers rest e = cc
asking Hides rest e = cc
asking Clears rest e = cc
asking Resolves rest e = cc
