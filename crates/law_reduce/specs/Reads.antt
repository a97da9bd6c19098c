-- What a scope has read: it stays as it was as long as the scope isn't run.
use Rattle.std.specs.Prelude.{ℕ, true, false, List, [], ◌∷◌, Option, Some, ◌≡◌}
use Rattle.std.specs.List.{AllByRecursion}
use Rattle.rt_model.specs.Lists.{at}
use Rattle.rt_model.specs.Tree.{Types}
use Rattle.rt_model.specs.World.{Cell}
use Rattle.rt_model.specs.State.{CellRow, Scope, State, is_live}
use Rattle.rt_model.specs.Commands.{names_source}
use Rattle.rt_model.specs.Replay.{Entry, Input}
use Rattle.rt_model.specs.Document.{Edit}
use Rattle.rt_model.specs.Causes.{Limits}
use Rattle.rt_model.specs.Told.{Told}
use Rattle.rt_model.specs.Reports.{Report}
use Rattle.rt_model.specs.Ran.{Ran}
use Rattle.law_behavior.specs.Along.{NoneRemoves}
use Rattle.law_behavior.specs.Owed.{runs_in}
use Rattle.author_programs.specs.Cells.{Keeping}
use Rattle.author_programs.specs.Pages.{Pages, meaning_of_pages}

-- none of these entries runs the scope
abbrev pub NoneRuns : ℕ → List Entry → Type 0
NoneRuns s log = AllByRecursion (λ (e : Entry). runs_in s e ≡ false) log

module _ {K : Types} where
  -- a scope that lives before and after a log, which doesn't run it: of what it had read each cell whose owner stays is as it was
  abbrev pub ReadsStay : State K → List Entry → State K → Type 0
  ReadsStay w log v =
      (s : ℕ) (x : Scope K) (n : ℕ) (row : CellRow K)
      → at w.scopes s ≡ Some x
      → is_live v s ≡ true
      → NoneRuns s log
      → names_source x.reads (Cell n) ≡ true
      → at w.cells n ≡ Some row
      → NoneRemoves row.owner log
      → at v.cells n ≡ Some row

  -- so it is in each of these reports, from this state on
  abbrev pub AllReadsStay : State K → List Report → List (Told K) → Type 0
  AllReadsStay w [] [] = Unit {0}
  AllReadsStay w (report ∷ reports) (told ∷ rest) =
      ReadsStay w report.log told.machine.state × AllReadsStay told.machine.state reports rest
  AllReadsStay w _ _ = ⊥

  -- and after the build's
  abbrev pub EachReadsStay : List Report → List (Told K) → Type 0
  EachReadsStay (build ∷ reports) (told ∷ rest) = AllReadsStay told.machine.state reports rest
  EachReadsStay _ _ = ⊥

-- so it is of every session of pages that finished
abbrev pub UnrunReadsStay : Types → Type 0
UnrunReadsStay K =
    (k : Keeping K.Value) (a : Pages K) (props : K.Props) (inputs : List (Input K)) (limits : Limits) (taken : Option (List Edit))
    → (reports : List Report) (ran : Ran (meaning_of_pages k a) props inputs limits taken reports)
    → EachReadsStay reports ran.told
