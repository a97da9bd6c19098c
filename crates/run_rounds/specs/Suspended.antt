-- What a render and a poll while suspended do on a machine, from one rest to the next.
use Rattle.std.specs.Prelude.{◌≡◌, ◌≤◌, ℕ, true, nat_eq, false, List, [], ◌∷◌, ◌++◌, map, Option, Some, None, Result, Ok, Err}
use Rattle.rt_edits.specs.Sinks.{grown}
use Rattle.rt_edits.specs.declared.edit.Edit.{Edit}
use Rattle.tree_edits.specs.Documents.{edit_of}
use Rattle.rt_model.specs.Document as document
use Rattle.rt_model.specs.Document.{document_after}
use Rattle.rt_model.specs.View.{view}
use Rattle.rt_model.specs.Tree.{Types}
use Rattle.rt_model.specs.OneLog.{types}
use Rattle.rt_model.specs.World.{Application}
use Rattle.rt_model.specs.State as model
use Rattle.rt_model.specs.Next.{Work, first_seen, found}
use Rattle.rt_model.specs.Replay as replay
use Rattle.rt_model.specs.Causes as causes
use Rattle.rt_model.specs.Causes.{refusal, edits_at_refusal}
use Rattle.rt_model.specs.Asides.{resting}
use Rattle.rt_model.specs.Rendering.{rendering_due, rendering_rest, rendering_refusal, renders_within, polling_due, polling_rest, polling_refusal, polls_within, resolved_by_height, nothing_resolved}
use Rattle.law_behavior.specs.Doms.{LedTo, NoneOpens}
use Rattle.law_moves.specs.Reports.{ToldSo}
use Rattle.rt_model.specs.Told.{Telling}
use Rattle.run_outside.specs.Ends.{Took, fault_in}
use Rattle.run_outside.specs.Short.{Short}
use Rattle.run_outside.specs.declared.ended.Ended.{Ended}
use Rattle.run_machine.specs.declared.machine.Machine.{Machine}
use Rattle.rt_values.specs.declared.names.ScopeId.{ScopeId}
use Rattle.run_rounds.specs.Rounds.{OpensFirst, RestsAt}
use Rattle.run_rounds.specs.Steps.{UnitFrom, Stepped}

-- a sink took some edits, and its count of failures didn't fall
abbrev pub TookSome : Option (List Edit) → Option (List Edit) → ℕ → ℕ → Type 0
TookSome old new before after = (taken : ℕ) × Took old new before after taken

module _ {K : Types} where
  -- what a poll of suspended work takes next, once the rest was passed over
  abbrev pub polled_next : model.State K → Option Work
  polled_next w = elim (first_seen w) [ None ↦ found w | Some s ↦ None ]

module _ {K : Types} (app : Application K) (limits : causes.Limits) (w : model.State K) where
  -- a render while suspended went on until it might take nothing more, and passed over the rest
  pub record RendersTo (log : List replay.Entry) (edits : List document.Edit) (v : model.State K) : Type 0 where
    pub last : replay.Machine K
    pub goes : renders_within app limits (Some (resting w)) log ≡ Some last
    pub done : rendering_due app last ≡ None
    pub rest : rendering_rest last.state ≡ v
    -- unit by unit, with their edits
    pub stepped : Stepped app limits w log edits last.state

  -- a poll of suspended work went on until a scope was seen, or no task might be polled
  pub record PollsTo (log : List replay.Entry) (v : model.State K) : Type 0 where
    pub last : replay.Machine K
    pub goes : polls_within app limits (Some (resting w)) log ≡ Some last
    pub done : polling_due app last ≡ None
    -- nothing is at work there, and no fault was come to
    pub quiet : last ≡ record (resting last.state) { units = last.units }
    pub rest : polling_rest last.state ≡ v

module _ {C Q V H T E L : Type 0} (app : Application (types C Q V H T E L)) (limits : causes.Limits)
    (w : model.State (types C Q V H T E L)) where
  -- how far such a render came: the units of this log were finished, and their edits make what showed then
  pub record CameFar (log : List replay.Entry) : Type 0 where
    pub left : model.State (types C Q V H T E L)
    pub units : ℕ
    pub goes : renders_within app limits (Some (resting w)) log ≡ Some (record (resting left) { units = units })
    pub done : List Edit
    pub stepped : Stepped app limits w log (map edit_of done) left
    pub shows : document_after (map edit_of done) (view w) ≡ Ok (view left)

  -- what a sink took of one that came to a fault: the edits of the units that were finished, and those of the one that was cut up to
  -- where it is refused
  pub record TakenUpTo (log : List replay.Entry) (wrote : List Edit) : Type 0 where
    pub earlier : List replay.Entry
    pub unit : List replay.Entry
    pub whole : log ≡ earlier ++ unit
    pub far : CameFar earlier
    pub last : Telling (types C Q V H T E L)
    pub so : ToldSo app limits (resting (rendering_rest far.left)) unit last
    pub part : List Edit
    pub edits_are : edits_at_refusal app limits last ≡ map edit_of part
    pub all : wrote ≡ far.done ++ part

  -- one broke off, for want of memory or at its sink: the sink took the edits of the units that were finished, and after them a part
  -- of the edits that are due from where the rest was passed over, of one unit more at most
  pub record RenderBroke (before after : Option (List Edit)) (Part : List document.Edit → List document.Edit → Type 0) : Type 0 where
    pub log : List replay.Entry
    pub far : CameFar log
    pub part : List Edit
    pub told : after ≡ grown before (far.done ++ part)
    pub short : Short app limits Part (resting (rendering_rest far.left)) (map edit_of part)
    -- but for the first of these last entries none begins a unit
    pub alone : OpensFirst (short.log ++ short.unit)
    -- and the render may take that one
    pub last : replay.Machine (types C Q V H T E L)
    pub within : renders_within app limits (Some (resting w)) (log ++ (short.log ++ short.unit)) ≡ Some last

module _ {P C Q V H T E L : Type 0} (app : Application (types C Q V H T E L)) (limits : causes.Limits)
    (w : model.State (types C Q V H T E L)) where
  -- such a render ended: its edits make what shows, its answer is the boundaries that turned to their children by height, and none
  -- of these is left
  pub record RenderedOn (props : Q) (before after : Option (List Edit)) (answer : List ScopeId) (m : Machine P C Q V H T E L)
      (calls : ℕ) : Type 0 where
    pub wrote : List Edit
    pub told : after ≡ grown before wrote
    pub log : List replay.Entry
    pub left : model.State (types C Q V H T E L)
    pub went : RendersTo app limits w log (map edit_of wrote) left
    pub shows : document_after (map edit_of wrote) (view w) ≡ Ok (view left)
    pub answers : map (λ scope. scope.0) answer ≡ resolved_by_height left
    pub led : LedTo app limits props false (nothing_resolved left)
    pub rests : RestsAt (nothing_resolved left) m calls

  -- it came to a fault of the definitions
  pub record RenderCutOn (props : Q) (before after : Option (List Edit)) (fault : model.Fault) (m : Machine P C Q V H T E L)
      (calls : ℕ) : Type 0 where
    pub wrote : List Edit
    pub told : after ≡ grown before wrote
    pub log : List replay.Entry
    pub last : replay.Machine (types C Q V H T E L)
    pub goes : renders_within app limits (Some (resting w)) log ≡ Some last
    pub cause : rendering_refusal app limits last ≡ Some fault
    pub taken : TakenUpTo app limits w log wrote
    -- where units were spent none was cut: unit by unit, with their edits
    pub stepped : (units : ℕ) → fault ≡ model.OutOfTurns units → Stepped app limits w log (map edit_of wrote) last.state
    -- and the machine rests, with what is owed
    pub spent : (units : ℕ) → fault ≡ model.OutOfTurns units
        → (document_after (map edit_of wrote) (view w) ≡ Ok (view (rendering_rest last.state)))
        × LedTo app limits props false (rendering_rest last.state)
        × RestsAt (rendering_rest last.state) m calls

  -- by what is answered
  abbrev pub RendersOn :
      Q → Option (List Edit) → Option (List Edit) → Result (List ScopeId) Ended → Machine P C Q V H T E L → ℕ → Type 0
  RendersOn props before after (Ok answer) m calls = RenderedOn props before after answer m calls
  RendersOn props before after (Err ended) m calls =
      (fault : model.Fault) → fault_in ended ≡ Some fault → RenderCutOn props before after fault m calls

  -- a poll of suspended work ended: nothing new shows
  pub record PolledOn (props : Q) (m : Machine P C Q V H T E L) (calls : ℕ) : Type 0 where
    pub log : List replay.Entry
    pub left : model.State (types C Q V H T E L)
    pub went : PollsTo app limits w log left
    pub shows : view left ≡ view w
    pub led : LedTo app limits props false left
    pub rests : RestsAt left m calls

  -- it came to a fault of the definitions
  pub record PollCutOn (props : Q) (fault : model.Fault) (m : Machine P C Q V H T E L) (calls : ℕ) : Type 0 where
    pub log : List replay.Entry
    pub last : replay.Machine (types C Q V H T E L)
    pub goes : polls_within app limits (Some (resting w)) log ≡ Some last
    pub cause : polling_refusal app limits last ≡ Some fault
    -- where units were spent the machine rests, with what is owed
    pub spent : (units : ℕ) → fault ≡ model.OutOfTurns units
        → (view (polling_rest last.state) ≡ view w)
        × LedTo app limits props false (polling_rest last.state)
        × RestsAt (polling_rest last.state) m calls

  -- by what is answered
  abbrev pub PollsOn : Q → Result (Unit {0}) Ended → Machine P C Q V H T E L → ℕ → Type 0
  PollsOn props (Ok u) m calls = PolledOn props m calls
  PollsOn props (Err ended) m calls = (fault : model.Fault) → fault_in ended ≡ Some fault → PollCutOn props fault m calls

module _ {C Q V H T E L : Type 0} (app : Application (types C Q V H T E L)) (limits : causes.Limits)
    (y : model.State (types C Q V H T E L)) where
  -- it came to a fault of the definitions; its units were spent only where none are allowed
  pub record UnitCutOn (before after : Option (List Edit)) (fault : model.Fault) : Type 0 where
    pub wrote : List Edit
    pub told : after ≡ grown before wrote
    pub log : List replay.Entry
    pub opened : OpensFirst log
    pub last : Telling (types C Q V H T E L)
    pub so : ToldSo app limits (resting y) log last
    pub cause : refusal limits last.machine ≡ Some fault
    pub edits_are : edits_at_refusal app limits last ≡ map edit_of wrote
    pub never : (units : ℕ) → fault ≡ model.OutOfTurns units → nat_eq 0 limits.units ≡ true

module _ {P C Q V H T E L : Type 0} (app : Application (types C Q V H T E L)) (limits : causes.Limits)
    (y : model.State (types C Q V H T E L)) where
  -- a unit was done by itself, and the machine rests
  pub record UnitOn (before after : Option (List Edit)) (m : Machine P C Q V H T E L) (calls : ℕ) : Type 0 where
    pub wrote : List Edit
    pub told : after ≡ grown before wrote
    pub entry : replay.Entry
    pub more : List replay.Entry
    pub shut : NoneOpens more
    pub left : model.State (types C Q V H T E L)
    pub units : ℕ
    pub ran : UnitFrom app limits y (entry ∷ more) (map edit_of wrote) (record (resting left) { units = units })
    pub rests : RestsAt left m calls

  -- by what is answered
  abbrev pub UnitsOn : Option (List Edit) → Option (List Edit) → Result (Unit {0}) Ended → Machine P C Q V H T E L → ℕ → Type 0
  UnitsOn before after (Ok u) m calls = UnitOn before after m calls
  UnitsOn before after (Err ended) m calls = (fault : model.Fault) → fault_in ended ≡ Some fault → UnitCutOn app limits y before after fault

module _ {P C Q V H T E L : Type 0} (app : Application (types C Q V H T E L)) (limits : causes.Limits) (props : Q)
    (w : model.State (types C Q V H T E L)) where
  -- a render while suspended so far: so many units were done
  pub record RenderingOn (before after : Option (List Edit)) (units : ℕ) (m : Machine P C Q V H T E L) (calls : ℕ) : Type 0 where
    pub wrote : List Edit
    pub told : after ≡ grown before wrote
    pub log : List replay.Entry
    pub left : model.State (types C Q V H T E L)
    pub goes : renders_within app limits (Some (resting w)) log ≡ Some (record (resting left) { units = units })
    pub below : units ≤ limits.units
    pub led : LedTo app limits props false left
    pub stepped : Stepped app limits w log (map edit_of wrote) left
    pub shows : document_after (map edit_of wrote) (view w) ≡ Ok (view left)
    pub rests : RestsAt left m calls

  -- a poll of suspended work so far: so many units were done
  pub record PollingOn (units : ℕ) (m : Machine P C Q V H T E L) (calls : ℕ) : Type 0 where
    pub log : List replay.Entry
    pub left : model.State (types C Q V H T E L)
    pub goes : polls_within app limits (Some (resting w)) log ≡ Some (record (resting left) { units = units })
    pub below : units ≤ limits.units
    pub led : LedTo app limits props false left
    pub shows : view left ≡ view w
    pub rests : RestsAt left m calls
