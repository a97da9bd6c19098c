-- Turns of a call that goes on until its test holds.
use Rattle.std.specs.Prelude.{◌≡◌, ◌⊎◌, ℕ, ◌+◌, true, List, [], ◌++◌, map, Option, Some, None, Result, Ok, Err}
use Rattle.rt_edits.specs.declared.edit.Edit.{Edit}
use Rattle.tree_edits.specs.Documents.{edit_of}
use Rattle.rt_model.specs.Document as doc
use Rattle.rt_model.specs.OneLog.{types}
use Rattle.rt_model.specs.World.{Application}
use Rattle.rt_model.specs.State as model
use Rattle.rt_model.specs.Next.{at_rest}
use Rattle.rt_model.specs.Replay as replay
use Rattle.rt_model.specs.Causes as causes
use Rattle.rt_model.specs.Sentences.{call_refusal}
use Rattle.run_state.specs.Mirror.{Unkept, state_of}
use Rattle.law_moves.specs.Underway.{Rests}
use Rattle.law_behavior.specs.Doms.{Until, Events, Renders, Unended, NoneOpens, ends_by}
use Rattle.run_turns.specs.Counting.{CountsAlong}
use Rattle.run_machine.specs.Machines.{noted}
use Rattle.run_outside.specs.Ends.{fault_in}
use Rattle.run_machine.specs.Stands.{Going, GoesOn, CameTo, BrokeIn}
use Rattle.run_outside.specs.declared.ended.Ended.{Ended}
use Rattle.run_machine.specs.declared.machine.Machine.{Machine}

module _ {P C Q V H T E L : Type 0} (app : Application (types C Q V H T E L)) (limits : causes.Limits) (r : Going (types C Q V H T E L))
    (until : Until) where
  -- entries were written down, and no unit among them began where the test holds
  pub record Grown (old new : Machine P C Q V H T E L) : Type 0 where
    pub more : List replay.Entry
    pub logged : noted new ≡ noted old ++ more
    pub unended :
        (m : replay.Machine (types C Q V H T E L)) → replay.replay_on app (Some r.from) (r.opened ++ noted old) ≡ Some m
        → Unended app (λ (x : model.State (types C Q V H T E L)). ends_by until x) m more

  -- turns were done, and it stands with their edits
  pub record GoneOn (edits : List doc.Edit) (before after : Option (List Edit)) (count : ℕ) (old new : Machine P C Q V H T E L) :
      Type 0 where
    pub on : GoesOn app limits r edits before after count new
    pub grown : Grown old new
    pub silent : old.hearing ≡ None → (new.hearing ≡ None) × (new.default_enabled ≡ old.default_enabled)

  -- so it is where the test holds, with nothing at work
  pub record GoneTo (edits : List doc.Edit) (before after : Option (List Edit)) (count : ℕ) (old new : Machine P C Q V H T E L) :
      Type 0 where
    pub gone : GoneOn edits before after count old new
    pub idle : new.work ≡ []
    pub over : new.first ≡ None
    pub ended : (g : Unkept (types C Q V H T E L)) → ends_by until (state_of g (new.scopes).state) ≡ true

  -- where units were spent nothing is at work, and the state is as the test for what is next left it
  pub record SpentThere (edits : List doc.Edit) (old new : Machine P C Q V H T E L) : Type 0 where
    pub last : replay.Machine (types C Q V H T E L)
    pub rests : Rests app limits r.props r.inputs r.from (r.opened ++ noted new) edits last
    pub quiet : old.hearing ≡ None → replay.is_quiet last ≡ true
    pub kept : Unkept (types C Q V H T E L)
    pub state : state_of kept (new.scopes).state ≡ at_rest last.state
    pub idle : new.work ≡ []
    pub over : new.first ≡ None
    pub along : CountsAlong r.count kept.calls

  -- a fault of the definitions came
  pub record GoneUpTo (edits : List doc.Edit) (before after : Option (List Edit)) (fault : model.Fault)
      (old new : Machine P C Q V H T E L) : Type 0 where
    pub came : CameTo app limits r edits before after fault new
    pub grown : Grown old new
    pub silent : old.hearing ≡ None → (new.hearing ≡ None) × (new.default_enabled ≡ old.default_enabled)
    pub cause :
        call_refusal limits (λ (x : model.State (types C Q V H T E L)). ends_by until x) (((came.refused).last).machine) ≡ Some fault
    pub spent : (units : ℕ) → fault ≡ model.OutOfTurns units → SpentThere (edits ++ map edit_of came.wrote) old new

  -- it broke off: these entries were written down, no unit among them began where the test holds, and no other one was begun
  pub record BrokeUntil (edits : List doc.Edit) (before after : Option (List Edit)) (ended : Ended) (old : Machine P C Q V H T E L) :
      Type 0 where
    pub more : List replay.Entry
    pub unended :
        (m : replay.Machine (types C Q V H T E L)) → replay.replay_on app (Some r.from) (r.opened ++ noted old) ≡ Some m
        → Unended app (λ (x : model.State (types C Q V H T E L)). ends_by until x) m more
    pub broke : BrokeIn app limits r ((r.opened ++ noted old) ++ more) edits before after ended

  -- by what is answered
  abbrev pub GoesUntil :
      List doc.Edit → Option (List Edit) → Option (List Edit) → Machine P C Q V H T E L → Machine P C Q V H T E L → Result ℕ Ended → Type 0
  GoesUntil edits before after old new (Ok count) = GoneTo edits before after count old new
  GoesUntil edits before after old new (Err ended) =
      (fault : model.Fault) → fault_in ended ≡ Some fault → GoneUpTo edits before after fault old new

module _ {P C Q V H T E L : Type 0} where
  -- entries were written down, and none of them begins a unit
  pub record Inside (old new : Machine P C Q V H T E L) : Type 0 where
    pub more : List replay.Entry
    pub logged : noted new ≡ noted old ++ more
    pub shut : NoneOpens more

module _ {P C Q V H T E L : Type 0} (app : Application (types C Q V H T E L)) (limits : causes.Limits) (r : Going (types C Q V H T E L))
  where
    -- the build or the unit at work has ended, and it stands with the edits so far
    pub record FinishedOn (edits : List doc.Edit) (before after : Option (List Edit)) (count : ℕ) (old new : Machine P C Q V H T E L) :
        Type 0 where
      pub on : GoesOn app limits r edits before after count new
      pub idle : new.work ≡ []
      pub over : new.first ≡ None
      pub silent : old.hearing ≡ None → (new.hearing ≡ None) × (new.default_enabled ≡ old.default_enabled)
      pub inside : Inside old new

    -- it came to a fault; no unit is begun, so that none is refused
    pub record FinishCut (edits : List doc.Edit) (before after : Option (List Edit)) (fault : model.Fault)
        (old new : Machine P C Q V H T E L) : Type 0 where
      pub came : CameTo app limits r edits before after fault new
      pub inside : Inside old new
      pub never : (units : ℕ) → fault ≡ model.OutOfTurns units → ⊥

    -- by what is answered
    abbrev pub FinishesAs :
        List doc.Edit → Option (List Edit) → Option (List Edit) → Machine P C Q V H T E L → Machine P C Q V H T E L → Result ℕ Ended
        → Type 0
    FinishesAs edits before after old new (Ok count) = FinishedOn edits before after count old new
    FinishesAs edits before after old new (Err ended) =
        (fault : model.Fault) → fault_in ended ≡ Some fault → FinishCut edits before after fault old new

    -- a whole render: events were processed up to a machine between, and it went on from there
    pub record RenderedTo (before after : Option (List Edit)) (count : ℕ) (old new : Machine P C Q V H T E L) : Type 0 where
      pub between : Machine P C Q V H T E L
      pub counted : Option ℕ
      pub middle : Option (List Edit)
      pub events : ℕ
      pub more : ℕ
      pub all : count ≡ events + more
      pub first : GoneTo app limits (record r { count = counted }) Events [] before middle events old between
      pub second : GoneTo app limits r Renders (map edit_of (((first.gone).on).wrote)) middle after more between new

    -- it came to a fault after events were processed
    pub record RenderedUpTo (before after : Option (List Edit)) (fault : model.Fault) (old new : Machine P C Q V H T E L) : Type 0 where
      pub between : Machine P C Q V H T E L
      pub counted : Option ℕ
      pub middle : Option (List Edit)
      pub events : ℕ
      pub first : GoneTo app limits (record r { count = counted }) Events [] before middle events old between
      pub second : GoneUpTo app limits r Renders (map edit_of (((first.gone).on).wrote)) middle after fault between new

    -- it broke off after events were processed
    pub record RenderedShort (before after : Option (List Edit)) (ended : Ended) (old : Machine P C Q V H T E L) : Type 0 where
      pub between : Machine P C Q V H T E L
      pub counted : Option ℕ
      pub middle : Option (List Edit)
      pub events : ℕ
      pub first : GoneTo app limits (record r { count = counted }) Events [] before middle events old between
      pub second : BrokeUntil app limits r Renders (map edit_of (((first.gone).on).wrote)) middle after ended between

    -- a call broke off, by what it goes up to
    abbrev pub BrokeBy : Until → Option (List Edit) → Option (List Edit) → Ended → Machine P C Q V H T E L → Type 0
    BrokeBy Renders before after ended old =
        BrokeUntil app limits r Events [] before after ended old ⊎ RenderedShort before after ended old
    BrokeBy until before after ended old = BrokeUntil app limits r until [] before after ended old

    -- a call's turns, by what it goes up to and by what is answered
    abbrev pub GoesBy :
        Until → Option (List Edit) → Option (List Edit) → Machine P C Q V H T E L → Machine P C Q V H T E L → Result ℕ Ended → Type 0
    GoesBy Renders before after old new (Ok count) = RenderedTo before after count old new
    GoesBy Renders before after old new (Err ended) =
        (fault : model.Fault) → fault_in ended ≡ Some fault
        → GoneUpTo app limits r Events [] before after fault old new ⊎ RenderedUpTo before after fault old new
    GoesBy until before after old new result = GoesUntil app limits r until [] before after old new result
