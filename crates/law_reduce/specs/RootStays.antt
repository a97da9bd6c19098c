-- What stands round the application's root: the root wrapper, a suspense boundary and an error boundary.
use Rattle.std.specs.Prelude.{ℕ, true, List, [], Option, Some, None, ◌≡◌}
use Rattle.std.specs.List.{AllByRecursion}
use Rattle.rt_model.specs.Lists.{at}
use Rattle.rt_model.specs.Tree.{Types, Tree, VComponent, Own, Root, ErrorBoundary, SuspenseBoundary, rendered, component_slot, one_slot, slot_template, Place, place_in}
use Rattle.rt_model.specs.World.{Application}
use Rattle.rt_model.specs.Laws.{IsLawful}
use Rattle.rt_model.specs.State.{MainSide, Scope, State, is_live}
use Rattle.rt_model.specs.Run.{child_at, root_tree}
use Rattle.rt_model.specs.Replay.{Input, Machine}
use Rattle.rt_model.specs.Causes.{Limits}
use Rattle.rt_model.specs.Current.{AllCurrent}
use Rattle.rt_model.specs.Document.{Edit}
use Rattle.rt_model.specs.Told.{Told}
use Rattle.rt_model.specs.Reports.{Report}
use Rattle.rt_model.specs.Headline.{Headline}
use Rattle.law_moves.specs.Moves.{Move, Leads}
use Rattle.law_moves.specs.Reached.{Reached}
use Rattle.law_moves.specs.Sorts.{ComponentSort}
use Rattle.law_lasting.specs.ChildrenLast.{child_on, sort_on, SortStays}

-- the place of the slot of a tree that is one slot
abbrev pub only_place : Place
only_place = place_in slot_template [] [] 0

module _ {K : Types} (component : K.Component) (props : K.Props) where
  -- the error boundary round the application's root
  abbrev pub error_boundary : VComponent K
  error_boundary = ErrorBoundary (rendered (one_slot (component_slot (Own component props)))) None

  -- the tree that stands in the suspense boundary
  abbrev pub boundary_tree : Tree K
  boundary_tree = one_slot (component_slot error_boundary)

  -- the suspense boundary round that
  abbrev pub suspense_boundary : VComponent K
  suspense_boundary = SuspenseBoundary (rendered boundary_tree) None

  -- scope 0 is the root wrapper and shows the first of these scopes, the suspense boundary; that has the second one, which is live
  pub record Wrapped (w : State K) (boundary error : ℕ) : Type 0 where
    pub root : Scope K
    pub stands : at w.scopes 0 ≡ Some root
    pub is_root : root.component ≡ Root component props
    pub on_top : root.parent ≡ None
    pub shows : root.main_side.output ≡ Some (root_tree component props)
    pub kid : child_at root.main_side.children only_place ≡ Some boundary
    pub around : Scope K
    pub below : at w.scopes boundary ≡ Some around
    pub is_boundary : around.component ≡ suspense_boundary
    pub holds : around.children_side.output ≡ Some boundary_tree
    pub held : child_at around.children_side.children only_place ≡ Some error
    pub live : is_live w error ≡ true

module _ {K : Types} (app : Application K) where
  -- of a lawful application these stay so, whatever moves lead to, until a fault ends the run
  abbrev pub WrappersStay : Type 0
  WrappersStay =
      IsLawful K app
      → (limits : Limits) (props : K.Props) (inputs : List (Input K)) (m v : Machine K) (moves : List Move) (boundary error : ℕ)
      → Reached app limits props inputs m
      → Leads app limits m moves v
      → v.dead ≡ None
      → m.work ≡ []
      → Wrapped app.root props m.state boundary error
      → Wrapped app.root props v.state boundary error

  -- so the root's own scope stays as long as the error boundary has it in its tree, that is as long as it keeps no error when it runs;
  -- where no work is open it is live
  abbrev pub RootStays : Type 0
  RootStays =
      IsLawful K app
      → (limits : Limits) (props : K.Props) (inputs : List (Input K)) (m v : Machine K) (moves : List Move)
      → (boundary error : ℕ) (place : Place) (sort : ComponentSort K) (root : ℕ)
      → Reached app limits props inputs m
      → (leads : Leads app limits m moves v)
      → v.dead ≡ None
      → m.work ≡ []
      → v.work ≡ []
      → Wrapped app.root props m.state boundary error
      → sort_on m.state error MainSide place ≡ Some sort
      → SortStays app limits error MainSide place sort m v moves leads
      → child_on m.state error MainSide place ≡ Some root
      → (child_on v.state error MainSide place ≡ Some root) × (is_live v.state root ≡ true)

  -- where no work is open and all is current, so once the build is done, they are there
  abbrev pub CurrentWrapped : Type 0
  CurrentWrapped =
      IsLawful K app
      → (limits : Limits) (props : K.Props) (inputs : List (Input K)) (m : Machine K)
      → Reached app limits props inputs m
      → m.dead ≡ None
      → m.work ≡ []
      → AllCurrent app m.state
      → (boundary : ℕ) × (error : ℕ) × Wrapped app.root props m.state boundary error

  -- so of a session whose headline holds they are there, the same ones, after each report
  abbrev pub ReportsWrapped : Type 0
  ReportsWrapped =
      IsLawful K app
      → (props : K.Props) (inputs : List (Input K)) (limits : Limits) (taken : Option (List Edit)) (reports : List Report)
      → (h : Headline app props inputs limits taken reports)
      → (boundary : ℕ) × (error : ℕ) × AllByRecursion (λ (r : Told K). Wrapped app.root props r.machine.state boundary error) h.told
