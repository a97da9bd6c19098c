-- Elm's equation for Elm programs: all cells are the root's, so after the last report they have what the fold of all inputs makes of them,
-- and the root shows its function of that, whoever hears the inputs and whatever the logs are.
use Rattle.std.specs.Prelude.{ℕ, true, List, ◌∷◌, length, Option, Some, ◌≡◌}
use Rattle.std.specs.List.{AllByRecursion}
use Rattle.rt_model.specs.Lists.{at, has}
use Rattle.rt_model.specs.Tree.{Types}
use Rattle.rt_model.specs.Laws.{IsLawful}
use Rattle.rt_model.specs.State.{CellRow, Scope, State}
use Rattle.rt_model.specs.Replay.{Input}
use Rattle.rt_model.specs.Document.{Edit}
use Rattle.rt_model.specs.Causes.{Limits}
use Rattle.rt_model.specs.Told.{Told}
use Rattle.rt_model.specs.Reports.{Report}
use Rattle.rt_model.specs.Headline.{Headline}
use Rattle.author_programs.specs.Cells.{Keeping}
use Rattle.author_programs.specs.First.{GivesBack}
use Rattle.author_programs.specs.Pages.{Pages, meaning_of_pages}
use Rattle.author_programs.specs.Shows.{KeepAll}
use Rattle.law_pages.specs.Updates.{model_of}
use Rattle.law_reduce.specs.Elm.{Owned, ShowsModel}
use Rattle.law_reduce.specs.Folds.{folded, last_state, AllKeepCells}
use Rattle.law_reduce.specs.Values.{own_of, HasRun}
use Rattle.law_elm.specs.Safe.{IsElm}
use Rattle.law_elm.specs.Roots.{RootStands}

module _ {K : Types} (k : Keeping K.Value) (a : Pages K) where
  -- the scope is there, and its hooks keep as many cells as the root's page has
  pub record HasCells (w : State K) (root : ℕ) : Type 0 where
    pub row : Scope K
    pub there : at w.scopes root ≡ Some row
    pub own : List ℕ
    pub keeps : KeepAll k row.hooks 0 own
    pub props : K.Props
    pub many : length (a.page a.root props).cells ≡ length own

module _ {K : Types} (w : State K) (root : ℕ) where
  -- each cell is owned by the scope
  abbrev pub AllOwned : Type 0
  AllOwned = (n : ℕ) (row : CellRow K) → at w.cells n ≡ Some row → row.owner ≡ root

module _ {K : Types} (k : Keeping K.Value) (a : Pages K) (props : K.Props) where
  -- where the root's scope has its cells when the build is reported, these are all that are there, in no later report a cell comes or an
  -- owner of one goes, and each cell has after the last report what the fold of the inputs makes of the values then
  abbrev pub ProgramFolds : List (Input K) → List Report → List (Told K) → Type 0
  ProgramFolds inputs (build ∷ reports) (told ∷ rest) =
      (root : ℕ)
      → RootStands a.root props told.machine.state root
      → HasCells k a told.machine.state root
      → AllOwned told.machine.state root
      × AllKeepCells told.machine.state reports rest
      × ((n : ℕ)
      → at (model_of (last_state told.machine.state rest)) n
      ≡ at (folded a told.machine.state inputs rest (model_of told.machine.state)) n)
  ProgramFolds inputs _ _ = ⊥

  -- once it has run when the build is reported, and its page reads no cells but its own, it shows after the last report the function of
  -- its page of the fold
  abbrev pub ProgramShows : List (Input K) → List Report → List (Told K) → Type 0
  ProgramShows inputs (build ∷ reports) (told ∷ rest) =
      (root : ℕ) (p : K.Props)
      → RootStands a.root props told.machine.state root
      → (run : HasRun k a root a.root p told.machine.state)
      → ((q : K.Props)
      → AllByRecursion
      (λ (n : ℕ). has (own_of k a root a.root p run.first) n ≡ true)
      ((a.page a.root q).reads (own_of k a root a.root p run.first)))
      → ((n : ℕ) → has (own_of k a root a.root p run.first) n ≡ true → Owned told.machine.state n root)
      → ShowsModel a root a.root (own_of k a root a.root p run.first) (last_state told.machine.state rest)
      (folded a told.machine.state inputs rest (model_of told.machine.state))
  ProgramShows inputs _ _ = ⊥

-- so it is of every session of a lawful Elm program, if its headline holds
abbrev pub ElmProgramsFold : Types → Type 0
ElmProgramsFold K =
    (k : Keeping K.Value) (a : Pages K)
    → IsElm a
    → IsLawful K (meaning_of_pages k a)
    → (props : K.Props) (inputs : List (Input K)) (limits : Limits) (taken : Option (List Edit)) (reports : List Report)
    → (h : Headline (meaning_of_pages k a) props inputs limits taken reports)
    → ProgramFolds k a props inputs reports h.told

-- so it is of every session of a lawful Elm program, if its headline holds, where a hook gives back the number that it was made to keep
abbrev pub ElmProgramsShow : Types → Type 0
ElmProgramsShow K =
    (k : Keeping K.Value) (a : Pages K)
    → GivesBack k
    → IsElm a
    → IsLawful K (meaning_of_pages k a)
    → (props : K.Props) (inputs : List (Input K)) (limits : Limits) (taken : Option (List Edit)) (reports : List Report)
    → (h : Headline (meaning_of_pages k a) props inputs limits taken reports)
    → ProgramShows k a props inputs reports h.told
