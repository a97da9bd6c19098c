-- Units of a render while suspended, each told by itself.
use Rattle.std.specs.Prelude.{◌≡◌, ℕ, true, List, [], ◌∷◌, map}
use Rattle.rt_model.specs.Document as document
use Rattle.rt_model.specs.Lists.{joined}
use Rattle.rt_model.specs.Tree.{Types}
use Rattle.rt_model.specs.World.{Application}
use Rattle.rt_model.specs.State as model
use Rattle.rt_model.specs.Replay as replay
use Rattle.rt_model.specs.Causes as causes
use Rattle.rt_model.specs.Told.{Telling}
use Rattle.rt_model.specs.Asides.{resting}
use Rattle.rt_model.specs.Rendering.{rendering_rest}
use Rattle.law_moves.specs.Reports.{ToldSo}
use Rattle.run_rounds.specs.Rounds.{OpensFirst}

module _ (K : Types) where
  -- a unit: its entries, its edits, and the state that it left
  pub record Step : Type 0 where
    pub log : List replay.Entry
    pub edits : List document.Edit
    pub left : model.State K

module _ {K : Types} (app : Application K) (limits : causes.Limits) (y : model.State K) where
  -- what is told of one unit of a call while suspended: from this state it goes on to where nothing is at work
  pub record UnitFrom (log : List replay.Entry) (edits : List document.Edit) (v : replay.Machine K) : Type 0 where
    pub last : Telling K
    pub so : ToldSo app limits (resting y) log last
    pub edits_are : last.edits ≡ edits
    pub machine : last.machine ≡ v
    pub quiet : replay.is_quiet v ≡ true

module _ {K : Types} (app : Application K) (limits : causes.Limits) where
  -- one unit after another, each from where the rest was passed over
  abbrev pub StepsTold : model.State K → List (Step K) → model.State K → Type 0
  StepsTold w [] v = w ≡ v
  StepsTold w (s ∷ steps) v =
      (units : ℕ)
      × UnitFrom app limits (rendering_rest w) s.log s.edits (record (resting s.left) { units = units })
      × OpensFirst s.log
      × StepsTold s.left steps v

  -- these are the entries and the edits of units from one state to another
  pub record Stepped (w : model.State K) (log : List replay.Entry) (edits : List document.Edit) (v : model.State K) : Type 0 where
    pub steps : List (Step K)
    pub told : StepsTold w steps v
    pub entries : log ≡ joined (map (λ (s : Step K). s.log) steps)
    pub edits_are : edits ≡ joined (map (λ (s : Step K). s.edits) steps)
