-- Elm's equation for the cells of one scope: where listeners read no others, these have at the end what the fold of all inputs makes of
-- them, and the scope shows its page's function of that.
use Rattle.std.specs.Prelude.{ℕ, true, List, ◌∷◌, map, length, Option, Some, ◌≡◌}
use Rattle.std.specs.List.{AllByRecursion}
use Rattle.rt_model.specs.Lists.{at, has}
use Rattle.rt_model.specs.Tree.{Types, Own}
use Rattle.rt_model.specs.Laws.{IsLawful}
use Rattle.rt_model.specs.World.{Event}
use Rattle.rt_model.specs.State.{CellRow, Scope, LastCall, State}
use Rattle.rt_model.specs.Heard.{Listener}
use Rattle.rt_model.specs.Replay.{Entry, Input, EventAt, WakeOf, WriteOf, MarkOf, Drain}
use Rattle.rt_model.specs.Document.{Edit}
use Rattle.rt_model.specs.Causes.{Limits}
use Rattle.rt_model.specs.Told.{Told}
use Rattle.rt_model.specs.Reports.{Report}
use Rattle.rt_model.specs.Ran.{Ran}
use Rattle.rt_model.specs.Headline.{Headline}
use Rattle.law_behavior.specs.Along.{NoneRemoves}
use Rattle.author_programs.specs.Cells.{Keeping}
use Rattle.author_programs.specs.First.{GivesBack}
use Rattle.author_programs.specs.Pages.{Pages, meaning_of_pages}
use Rattle.law_pages.specs.Updates.{Model, model_of}
use Rattle.law_reduce.specs.Reduces.{hearers}
use Rattle.law_reduce.specs.Folds.{folded, last_state}
use Rattle.law_reduce.specs.Values.{own_of, HasRun}

-- a cell of that owner stands there
pub record Owned {K : Types} (w : State K) (n owner : ℕ) : Type 0 where
  pub row : CellRow K
  pub there : at w.cells n ≡ Some row
  pub owner_is : row.owner ≡ owner

-- a cell of a state whose owner the log doesn't remove is there in the other state, with the same owner
abbrev pub OwnersStay : {K : Types} → State K → List Entry → State K → Type 0
OwnersStay {K = K} w log v =
    (n : ℕ) (row : CellRow K)
    → at w.cells n ≡ Some row
    → NoneRemoves row.owner log
    → Owned v n row.owner

-- no log of these reports removes the scope
abbrev pub NeverRemoved : ℕ → List Report → Type 0
NeverRemoved s reports = AllByRecursion (λ (r : Report). NoneRemoves s r.log) reports

module _ {K : Types} (a : Pages K) where
  -- a listener reads cells among these alone, whatever event it hears
  abbrev pub ReadsAmong : List ℕ → Listener K → Type 0
  ReadsAmong own l = (e : Event K) → AllByRecursion (λ (n : ℕ). has own n ≡ true) (a.reply l.handler e).reads

  -- so do all who hear an input
  abbrev pub HearersRead : List ℕ → State K → Input K → Type 0
  HearersRead own w (EventAt name payload element bubbles) =
      AllByRecursion (λ (l : Listener K). ReadsAmong own l) (hearers w name element bubbles)
  HearersRead own w (WakeOf t) = Unit {0}
  HearersRead own w (WriteOf n v) = Unit {0}
  HearersRead own w (MarkOf s) = Unit {0}
  HearersRead own w (Drain messages) = Unit {0}

  -- and all who hear one of these inputs, the first of them at this state
  abbrev pub AllRead : List ℕ → State K → List (Input K) → List (Told K) → Type 0
  AllRead own w (input ∷ inputs) (told ∷ rest) = HearersRead own w input × AllRead own told.machine.state inputs rest
  AllRead own w _ _ = Unit {0}

  -- where so it is with cells that a scope owns after the build, and no log removes the scope, each of them has after the last report
  -- what the fold of the inputs makes of the values after the build; cells of other scopes may come and go
  abbrev pub OwnFolds : List (Input K) → List Report → List (Told K) → Type 0
  OwnFolds inputs (build ∷ reports) (told ∷ rest) =
      (s : ℕ) (own : List ℕ)
      → AllRead own told.machine.state inputs rest
      → ((n : ℕ) → has own n ≡ true → Owned told.machine.state n s)
      → NeverRemoved s reports
      → (n : ℕ)
      → has own n ≡ true
      → at (model_of (last_state told.machine.state rest)) n
      ≡ at (folded a told.machine.state inputs rest (model_of told.machine.state)) n
  OwnFolds inputs _ _ = ⊥

-- so it is of every session of pages that finished
abbrev pub OwnCellsFold : Types → Type 0
OwnCellsFold K =
    (k : Keeping K.Value) (a : Pages K) (props : K.Props) (inputs : List (Input K)) (limits : Limits) (taken : Option (List Edit))
    → (reports : List Report) (ran : Ran (meaning_of_pages k a) props inputs limits taken reports)
    → OwnFolds a inputs reports ran.told

module _ {K : Types} (a : Pages K) (s : ℕ) (c : K.Component) where
  -- a scope shows the function of its page, with the props that it has now, of what a model has of the cells that it reads
  pub record ShowsModel (own : List ℕ) (v : State K) (m : Model K) : Type 0 where
    pub row : Scope K
    pub there : at v.scopes s ≡ Some row
    pub props : K.Props
    pub page : row.component ≡ Own c props
    pub last : LastCall K
    pub call : at v.last_calls s ≡ Some last
    pub output :
        row.main_side.output
        ≡ Some ((a.page c props).shows last.given.given.scope own (map (λ n. at m n) ((a.page c props).reads own)))

module _ {K : Types} (k : Keeping K.Value) (a : Pages K) where
  -- of a scope that has run once when the build is reported: where its page and all who hear read no cells but those that its run
  -- made, how many these are doesn't depend on its props, and no log removes it, it shows after the last report the function of its
  -- page of the fold
  abbrev pub OwnShows : List (Input K) → List Report → List (Told K) → Type 0
  OwnShows inputs (build ∷ reports) (told ∷ rest) =
      (s : ℕ) (c : K.Component) (p : K.Props) (run : HasRun k a s c p told.machine.state)
      → AllRead a (own_of k a s c p run.first) told.machine.state inputs rest
      → ((q : K.Props)
      → AllByRecursion (λ (n : ℕ). has (own_of k a s c p run.first) n ≡ true) ((a.page c q).reads (own_of k a s c p run.first)))
      → ((q : K.Props) → length (a.page c q).cells ≡ length (a.page c p).cells)
      → ((n : ℕ) → has (own_of k a s c p run.first) n ≡ true → Owned told.machine.state n s)
      → NeverRemoved s reports
      → ShowsModel a s c (own_of k a s c p run.first) (last_state told.machine.state rest)
      (folded a told.machine.state inputs rest (model_of told.machine.state))
  OwnShows inputs _ _ = ⊥

-- so it is of every session of lawful pages whose headline holds, where a hook gives back the number that it was made to keep
abbrev pub OwnPagesShow : Types → Type 0
OwnPagesShow K =
    (k : Keeping K.Value) (a : Pages K)
    → GivesBack k
    → IsLawful K (meaning_of_pages k a)
    → (props : K.Props) (inputs : List (Input K)) (limits : Limits) (taken : Option (List Edit)) (reports : List Report)
    → (h : Headline (meaning_of_pages k a) props inputs limits taken reports)
    → OwnShows k a inputs reports h.told
