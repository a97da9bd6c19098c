-- What a scope of a page shows from its first run on: its page's function of the values that its cells have then.
use Rattle.std.specs.Prelude.{ℕ, ◌+◌, ◌≤◌, ◌<◌, true, List, [], ◌∷◌, map, length, Option, Some, ◌≡◌}
use Rattle.std.specs.List.{AllByRecursion}
use Rattle.rt_model.specs.Lists.{at, has}
use Rattle.rt_model.specs.Tree.{Types, Own}
use Rattle.rt_model.specs.World.{Cell, last_number}
use Rattle.rt_model.specs.State.{Scope, LastCall, State}
use Rattle.rt_model.specs.Laws.{IsLawful}
use Rattle.rt_model.specs.Commands.{names_source}
use Rattle.rt_model.specs.Replay.{Input}
use Rattle.rt_model.specs.Document.{Edit}
use Rattle.rt_model.specs.Causes.{Limits}
use Rattle.rt_model.specs.Told.{Told}
use Rattle.rt_model.specs.Reports.{Report}
use Rattle.rt_model.specs.Headline.{Headline}
use Rattle.law_behavior.specs.Along.{NoneRemoves}
use Rattle.author_programs.specs.Cells.{Keeping}
use Rattle.author_programs.specs.First.{GivesBack, numbers_from, made_from}
use Rattle.author_programs.specs.Pages.{Pages, meaning_of_pages}
use Rattle.author_programs.specs.Shows.{KeepAll}
use Rattle.law_pages.specs.Updates.{model_of, read_in}

module _ {K : Types} (k : Keeping K.Value) (a : Pages K) (s : ℕ) (c : K.Component) (p : K.Props) where
  -- the numbers of the cells that a first call made
  abbrev pub own_of : LastCall K → List ℕ
  own_of first = numbers_from first.given.given.next.cells (a.page c p).cells

  -- a cell that the scope reads: if its first call made it, it recorded that, and the cell has its first value still
  abbrev pub HasFirst : State K → Scope K → LastCall K → ℕ → Type 0
  HasFirst w x first n =
      (v : K.Value)
      → at (made_from [] first.given.given.next.cells (a.page c p).cells) n ≡ Some v
      → (names_source x.reads (Cell n) ≡ true) × (at w.cells n ≡ Some (record { owner = s; value = v }))

  -- the scope has run once, and made the cells of its page
  pub record HasRun (w : State K) : Type 0 where
    pub row : Scope K
    pub there : at w.scopes s ≡ Some row
    pub page : row.component ≡ Own c p
    pub first : LastCall K
    pub call : at w.last_calls s ≡ Some first
    pub bare : first.given.given.hooks ≡ []
    pub fits : first.given.given.next.cells + length (a.page c p).cells ≤ last_number
    -- its hooks keep them
    pub keeps : KeepAll k row.hooks 0 (own_of first)
    pub reads : AllByRecursion (λ (n : ℕ). HasFirst w row first n) ((a.page c p).reads (own_of first))

  -- it shows the function of its page, with the props that it has now, of present values; none of a number that wasn't drawn once its
  -- last call had made its cells, but each of its own that was drawn in an earlier state
  pub record ShowsNow (w : State K) (own : List ℕ) (v : State K) : Type 0 where
    pub row : Scope K
    pub there : at v.scopes s ≡ Some row
    pub props : K.Props
    pub page : row.component ≡ Own c props
    pub last : LastCall K
    pub call : at v.last_calls s ≡ Some last
    pub drawn : ℕ
    pub below : (n : ℕ) → has own n ≡ true → n < w.next.cells → n < drawn
    pub output :
        row.main_side.output
        ≡ Some ((a.page c props).shows last.given.given.scope own (map (read_in (model_of v) drawn) ((a.page c props).reads own)))

  -- after each of these reports it does, as long as no log removes it
  abbrev pub AllShowNow : State K → List ℕ → List Report → List (Told K) → Type 0
  AllShowNow w own (report ∷ reports) (told ∷ rest) =
      NoneRemoves s report.log → ShowsNow w own told.machine.state × AllShowNow w own reports rest
  AllShowNow w own _ _ = Unit {0}

-- of a scope that has run once when the build is reported, where how many cells its page has doesn't depend on its props
module _ {K : Types} (k : Keeping K.Value) (a : Pages K) where
  abbrev pub EachShowsNow : List Report → List (Told K) → Type 0
  EachShowsNow (build ∷ reports) (told ∷ rest) =
      (s : ℕ) (c : K.Component) (p : K.Props) (run : HasRun k a s c p told.machine.state)
      → ((q : K.Props) → length (a.page c q).cells ≡ length (a.page c p).cells)
      → AllShowNow k a s c p told.machine.state (own_of k a s c p run.first) reports rest
  EachShowsNow _ _ = ⊥

-- so it is of every session of lawful pages whose headline holds, where a hook gives back the number that it was made to keep
abbrev pub PagesShowValues : Types → Type 0
PagesShowValues K =
    (k : Keeping K.Value) (a : Pages K)
    → GivesBack k
    → IsLawful K (meaning_of_pages k a)
    → (props : K.Props) (inputs : List (Input K)) (limits : Limits) (taken : Option (List Edit)) (reports : List Report)
    → (h : Headline (meaning_of_pages k a) props inputs limits taken reports)
    → EachShowsNow k a reports h.told
