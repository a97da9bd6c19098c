-- The values after the last report of a session: a fold over its inputs, where cells neither come nor go.
use Rattle.std.specs.Prelude.{ℕ, List, [], ◌∷◌, Option, Some, None, ◌≡◌}
use Rattle.rt_model.specs.Lists.{at}
use Rattle.rt_model.specs.Tree.{Types}
use Rattle.rt_model.specs.State.{CellRow, State}
use Rattle.rt_model.specs.Replay.{Entry, Input}
use Rattle.rt_model.specs.Document.{Edit}
use Rattle.rt_model.specs.Causes.{Limits}
use Rattle.rt_model.specs.Told.{Told}
use Rattle.rt_model.specs.Reports.{Report}
use Rattle.rt_model.specs.Ran.{Ran}
use Rattle.law_behavior.specs.Along.{NoneRemoves}
use Rattle.author_programs.specs.Cells.{Keeping}
use Rattle.author_programs.specs.Pages.{Pages, meaning_of_pages}
use Rattle.law_pages.specs.Updates.{Model, model_of}
use Rattle.law_reduce.specs.Reduces.{reduce}

module _ {K : Types} where
  -- what inputs make of a model, one after another; who hears an event is told by the state that takes it in
  abbrev pub folded : Pages K → State K → List (Input K) → List (Told K) → Model K → Model K
  folded a w (input ∷ inputs) (told ∷ rest) m = folded a told.machine.state inputs rest (reduce a w input m)
  folded a w _ _ m = m

  -- the state after the last of these reports
  abbrev pub last_state : State K → List (Told K) → State K
  last_state w [] = w
  last_state w (told ∷ rest) = last_state told.machine.state rest

  -- in a report no owner of a cell goes, and no cell comes
  pub record KeepsCells (w : State K) (log : List Entry) (v : State K) : Type 0 where
    pub none_goes : (n : ℕ) (row : CellRow K) → at w.cells n ≡ Some row → NoneRemoves row.owner log
    pub none_comes : (n : ℕ) → at w.cells n ≡ None → at v.cells n ≡ None

  -- so it is in each of these reports, from this state on
  abbrev pub AllKeepCells : State K → List Report → List (Told K) → Type 0
  AllKeepCells w (report ∷ reports) (told ∷ rest) =
      KeepsCells w report.log told.machine.state × AllKeepCells told.machine.state reports rest
  AllKeepCells w _ _ = Unit {0}

  -- where it is so after the build, each value after the last report is that of the fold of the inputs over those after the build
  abbrev pub FoldsTo : Pages K → List (Input K) → List Report → List (Told K) → Type 0
  FoldsTo a inputs (build ∷ reports) (told ∷ rest) =
      AllKeepCells told.machine.state reports rest
      → (n : ℕ)
      → at (model_of (last_state told.machine.state rest)) n
      ≡ at (folded a told.machine.state inputs rest (model_of told.machine.state)) n
  FoldsTo a inputs _ _ = ⊥

-- so it is of every session of pages that finished
abbrev pub PagesReduce : Types → Type 0
PagesReduce K =
    (k : Keeping K.Value) (a : Pages K) (props : K.Props) (inputs : List (Input K)) (limits : Limits) (taken : Option (List Edit))
    → (reports : List Report) (ran : Ran (meaning_of_pages k a) props inputs limits taken reports)
    → FoldsTo a inputs reports ran.told
