-- The scope of the application's root: it stands in the error boundary round it as long as nothing fails.
use Rattle.std.specs.Prelude.{ℕ, true, List, [], ◌∷◌, ◌++◌, Option, Some, ◌≡◌}
use Rattle.std.specs.List.{AllByRecursion}
use Rattle.rt_model.specs.Tree.{Types, Place, place_in, item, slot_template}
use Rattle.rt_model.specs.Laws.{IsLawful}
use Rattle.rt_model.specs.State.{MainSide, State, is_live}
use Rattle.rt_model.specs.Replay.{Input}
use Rattle.rt_model.specs.Document.{Edit}
use Rattle.rt_model.specs.Causes.{Limits}
use Rattle.rt_model.specs.Told.{Told}
use Rattle.rt_model.specs.Reports.{Report}
use Rattle.rt_model.specs.Headline.{Headline}
use Rattle.author_programs.specs.Cells.{Keeping}
use Rattle.author_programs.specs.Pages.{Pages, meaning_of_pages}
use Rattle.law_lasting.specs.ChildrenLast.{child_on}
use Rattle.law_reduce.specs.Elm.{NeverRemoved}
use Rattle.law_reduce.specs.RootStays.{only_place, Wrapped}
use Rattle.law_elm.specs.Safe.{NoneFails}

-- the place of the application's root in the tree of its error boundary
abbrev pub root_place : Place
root_place = place_in slot_template (only_place ++ item 0 ∷ []) [] 0

module _ {K : Types} (component : K.Component) (props : K.Props) where
  -- a scope is the application's root: it stands in the error boundary that stands in the suspense boundary of the root wrapper
  pub record RootStands (w : State K) (root : ℕ) : Type 0 where
    pub boundary : ℕ
    pub error : ℕ
    pub wrapped : Wrapped component props w boundary error
    pub child : child_on w error MainSide root_place ≡ Some root
    pub live : is_live w root ≡ true

  -- there is such a scope when the build is reported, and what is it then is it after each report, and no log removes it
  abbrev pub RootGoesOn : List Report → List (Told K) → Type 0
  RootGoesOn (build ∷ reports) (told ∷ rest) =
      ((root : ℕ) × RootStands told.machine.state root)
      × ((root : ℕ)
      → RootStands told.machine.state root
      → NeverRemoved root reports × AllByRecursion (λ (r : Told K). RootStands r.machine.state root) rest)
  RootGoesOn _ _ = ⊥

-- so it is of every session of lawful pages in which nothing fails, if its headline holds
abbrev pub RootsLast : Types → Type 0
RootsLast K =
    (k : Keeping K.Value) (a : Pages K)
    → NoneFails a
    → IsLawful K (meaning_of_pages k a)
    → (props : K.Props) (inputs : List (Input K)) (limits : Limits) (taken : Option (List Edit)) (reports : List Report)
    → (h : Headline (meaning_of_pages k a) props inputs limits taken reports)
    → RootGoesOn a.root props reports h.told
