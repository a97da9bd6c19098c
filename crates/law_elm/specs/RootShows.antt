-- Elm's equation for an application of pages in which nothing fails: after the last report the root shows its function of the fold of all
-- inputs, whatever the logs are.
use Rattle.std.specs.Prelude.{ℕ, true, List, ◌∷◌, length, Option, ◌≡◌}
use Rattle.std.specs.List.{AllByRecursion}
use Rattle.rt_model.specs.Lists.{at, has}
use Rattle.rt_model.specs.Tree.{Types}
use Rattle.rt_model.specs.World.{Event}
use Rattle.rt_model.specs.Laws.{IsLawful}
use Rattle.rt_model.specs.State.{State}
use Rattle.rt_model.specs.Replay.{Input}
use Rattle.rt_model.specs.Document.{Edit}
use Rattle.rt_model.specs.Causes.{Limits}
use Rattle.rt_model.specs.Told.{Told}
use Rattle.rt_model.specs.Reports.{Report}
use Rattle.rt_model.specs.Headline.{Headline}
use Rattle.author_programs.specs.Cells.{Keeping}
use Rattle.author_programs.specs.First.{GivesBack}
use Rattle.author_programs.specs.Pages.{Pages, meaning_of_pages}
use Rattle.law_pages.specs.Updates.{model_of}
use Rattle.law_reduce.specs.Elm.{AllRead, Owned, ShowsModel}
use Rattle.law_reduce.specs.Folds.{folded, last_state}
use Rattle.law_reduce.specs.Values.{own_of, HasRun}
use Rattle.law_elm.specs.Safe.{NoneFails}
use Rattle.law_elm.specs.Roots.{RootStands}

module _ {K : Types} (k : Keeping K.Value) (a : Pages K) (props : K.Props) where
  -- of the root's scope, once it has run when the build is reported: where its page and all who hear read no cells but its own, and how
  -- many these are doesn't depend on its props, it shows after the last report the function of its page of the fold
  abbrev pub RootShowsFold : List (Input K) → List Report → List (Told K) → Type 0
  RootShowsFold inputs (build ∷ reports) (told ∷ rest) =
      (root : ℕ) (p : K.Props)
      → RootStands a.root props told.machine.state root
      → (run : HasRun k a root a.root p told.machine.state)
      → AllRead a (own_of k a root a.root p run.first) told.machine.state inputs rest
      → ((q : K.Props)
      → AllByRecursion
      (λ (n : ℕ). has (own_of k a root a.root p run.first) n ≡ true)
      ((a.page a.root q).reads (own_of k a root a.root p run.first)))
      → ((q : K.Props) → length (a.page a.root q).cells ≡ length (a.page a.root p).cells)
      → ((n : ℕ) → has (own_of k a root a.root p run.first) n ≡ true → Owned told.machine.state n root)
      → ShowsModel a root a.root (own_of k a root a.root p run.first) (last_state told.machine.state rest)
      (folded a told.machine.state inputs rest (model_of told.machine.state))
  RootShowsFold inputs _ _ = ⊥

module _ {K : Types} (a : Pages K) (props : K.Props) where
  -- each of the cells that the root's scope owns when the build is reported has after the last report what the fold of the inputs makes of
  -- the values then, where whoever hears an input reads no others; cells of other scopes may come and go
  abbrev pub RootFolds : List (Input K) → List Report → List (Told K) → Type 0
  RootFolds inputs (build ∷ reports) (told ∷ rest) =
      (root : ℕ) (own : List ℕ)
      → RootStands a.root props told.machine.state root
      → AllRead a own told.machine.state inputs rest
      → ((n : ℕ) → has own n ≡ true → Owned told.machine.state n root)
      → (n : ℕ)
      → has own n ≡ true
      → at (model_of (last_state told.machine.state rest)) n
      ≡ at (folded a told.machine.state inputs rest (model_of told.machine.state)) n
  RootFolds inputs _ _ = ⊥

-- so it is of every session of lawful pages in which nothing fails, if its headline holds
abbrev pub ElmFolds : Types → Type 0
ElmFolds K =
    (k : Keeping K.Value) (a : Pages K)
    → NoneFails a
    → IsLawful K (meaning_of_pages k a)
    → (props : K.Props) (inputs : List (Input K)) (limits : Limits) (taken : Option (List Edit)) (reports : List Report)
    → (h : Headline (meaning_of_pages k a) props inputs limits taken reports)
    → RootFolds a props inputs reports h.told

-- so it is of every session of lawful pages in which nothing fails, if its headline holds, where a hook gives back the number that it was
-- made to keep
abbrev pub ElmShows : Types → Type 0
ElmShows K =
    (k : Keeping K.Value) (a : Pages K)
    → GivesBack k
    → NoneFails a
    → IsLawful K (meaning_of_pages k a)
    → (props : K.Props) (inputs : List (Input K)) (limits : Limits) (taken : Option (List Edit)) (reports : List Report)
    → (h : Headline (meaning_of_pages k a) props inputs limits taken reports)
    → RootShowsFold k a props inputs reports h.told

-- no listener of the application reads any other cell than these, whatever event it hears: so no one who hears an input does
abbrev pub RepliesRead : Types → Type 0
RepliesRead K =
    (a : Pages K) (own : List ℕ)
    → ((h : K.Handler) (e : Event K) → AllByRecursion (λ (n : ℕ). has own n ≡ true) (a.reply h e).reads)
    → (w : State K) (inputs : List (Input K)) (told : List (Told K))
    → AllRead a own w inputs told
