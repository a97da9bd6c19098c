-- What writes nothing, or shows nothing new.
use Rattle.std.specs.Prelude.{Bool, false, List, [], ◌≡◌, ◌⊎◌}
use Rattle.rt_model.specs.Tree.{Types}
use Rattle.rt_model.specs.World.{Application}
use Rattle.rt_model.specs.Laws.{IsLawful}
use Rattle.rt_model.specs.State.{Fault, State}
use Rattle.rt_model.specs.Replay.{Entry, Machine}
use Rattle.rt_model.specs.Document.{Edit}
use Rattle.rt_model.specs.View.{view}
use Rattle.rt_model.specs.Causes.{Limits}
use Rattle.rt_model.specs.Asides.{Aside, Allowed, PassesNone, aside_state}
use Rattle.law_behavior.specs.Doms.{Events, LedTo, CallRan, CallStopped}

module _ {K : Types} (app : Application K) where
  -- a call that processes events polls tasks and does effects, which write nothing
  abbrev pub EventsWriteNothing : Type 0
  EventsWriteNothing =
      (limits : Limits) (w : State K) (log : List Entry) (edits : List Edit) (v : Machine K)
      → CallRan app limits Events w log edits v
      → edits ≡ []

  -- so does one that came to a fault
  abbrev pub StoppedWriteNothing : Type 0
  StoppedWriteNothing =
      (limits : Limits) (w : State K) (log : List Entry) (edits : List Edit) (fault : Fault)
      → CallStopped app limits Events w log edits fault
      → edits ≡ []

  -- a call that logs no entry shows nothing new
  abbrev pub AsidesShowNothing : Type 0
  AsidesShowNothing =
      IsLawful K app
      → (limits : Limits) (props : K.Props) (whole : Bool) (w : State K) (a : Aside K)
      → LedTo app limits props whole w
      → Allowed w a
      → PassesNone a ⊎ (whole ≡ false)
      → view (aside_state app w a) ≡ view w
