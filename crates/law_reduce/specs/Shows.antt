-- What shows after a report: a page's function of what the input made of the values, and at the end of the fold of all inputs.
use Rattle.std.specs.Prelude.{ℕ, List, [], ◌∷◌, map, length, Option, Some, ◌≡◌}
use Rattle.std.specs.List.{AllByRecursion}
use Rattle.rt_model.specs.Lists.{at}
use Rattle.rt_model.specs.Tree.{Types, Own}
use Rattle.rt_model.specs.State.{CellRow, Scope, LastCall, State}
use Rattle.rt_model.specs.Replay.{Entry, Input}
use Rattle.rt_model.specs.Document.{Edit}
use Rattle.rt_model.specs.Causes.{Limits}
use Rattle.rt_model.specs.Told.{Told}
use Rattle.rt_model.specs.Reports.{Report}
use Rattle.rt_model.specs.Headline.{Headline}
use Rattle.law_behavior.specs.Along.{NoneRemoves}
use Rattle.author_programs.specs.Cells.{Keeping}
use Rattle.author_programs.specs.Pages.{Pages, meaning_of_pages}
use Rattle.author_programs.specs.Shows.{KeepAll}
use Rattle.law_pages.specs.Updates.{Model, model_of, read_in}
use Rattle.law_reduce.specs.Reduces.{reduced}
use Rattle.law_reduce.specs.Folds.{folded, last_state, AllKeepCells}

module _ {K : Types} where
  -- the cell is there, and the log doesn't remove its owner
  pub record Stays (w : State K) (log : List Entry) (n : ℕ) : Type 0 where
    pub row : CellRow K
    pub there : at w.cells n ≡ Some row
    pub stays : NoneRemoves row.owner log

  -- a scope of a page whose hooks kept its cells at its last call shows the page's function of what it reads of a model; of the
  -- cells that it reads this is asked
  abbrev pub ShowsOf : Keeping K.Value → Pages K → State K → (ℕ → Type 0) → Model K → Type 0
  ShowsOf k a v asked m =
      (s : ℕ) (x : Scope K) (last : LastCall K) (c : K.Component) (p : K.Props) (own : List ℕ)
      → at v.scopes s ≡ Some x
      → at v.last_calls s ≡ Some last
      → x.component ≡ Own c p
      → KeepAll k last.given.given.hooks 0 own
      → length (a.page c p).cells ≡ length own
      → AllByRecursion asked ((a.page c p).reads own)
      → x.main_side.output
      ≡ Some ((a.page c p).shows last.given.given.scope own (map (read_in m last.given.given.next.cells) ((a.page c p).reads own)))

  -- from each report to the next such a scope shows what the input makes of the values, where the cells that it reads stay
  abbrev pub AllShow : Keeping K.Value → Pages K → State K → List (Input K) → List Report → List (Told K) → Type 0
  AllShow k a w [] [] [] = Unit {0}
  AllShow k a w (input ∷ inputs) (report ∷ reports) (told ∷ rest) =
      ShowsOf k a told.machine.state (λ n. Stays w report.log n) (reduced a w input)
      ×
      AllShow k a told.machine.state inputs reports rest
  AllShow k a w _ _ _ = ⊥

  -- after the build's
  abbrev pub EachShows : Keeping K.Value → Pages K → List (Input K) → List Report → List (Told K) → Type 0
  EachShows k a inputs (build ∷ reports) (told ∷ rest) = AllShow k a told.machine.state inputs reports rest
  EachShows k a inputs _ _ = ⊥

  -- where after the build no cell comes and none goes, such a scope shows at the end what the inputs make of the values after the build
  abbrev pub ShowsFold : Keeping K.Value → Pages K → List (Input K) → List Report → List (Told K) → Type 0
  ShowsFold k a inputs (build ∷ reports) (told ∷ rest) =
      AllKeepCells told.machine.state reports rest
      → ShowsOf k a (last_state told.machine.state rest) (λ n. Unit {0})
      (folded a told.machine.state inputs rest (model_of told.machine.state))
  ShowsFold k a inputs _ _ = ⊥

-- so it is of every session of pages whose headline holds
abbrev pub ReportsShowReduced : Types → Type 0
ReportsShowReduced K =
    (k : Keeping K.Value) (a : Pages K) (props : K.Props) (inputs : List (Input K)) (limits : Limits) (taken : Option (List Edit))
    → (reports : List Report) (h : Headline (meaning_of_pages k a) props inputs limits taken reports)
    → EachShows k a inputs reports h.told

-- and at its end
abbrev pub FoldsShow : Types → Type 0
FoldsShow K =
    (k : Keeping K.Value) (a : Pages K) (props : K.Props) (inputs : List (Input K)) (limits : Limits) (taken : Option (List Edit))
    → (reports : List Report) (h : Headline (meaning_of_pages k a) props inputs limits taken reports)
    → ShowsFold k a inputs reports h.told
