-- What a scope keeps is what its body gives now.
use Rattle.std.specs.Prelude.{ℕ, Bool, true, false, ◌&&◌, not, List, [], ◌∷◌, Option, Some, None, if◌then◌else◌, ◌≡◌}
use Rattle.std.specs.List.{AllByRecursion}
use Rattle.rt_model.specs.Lists.{at, or_else, same_option, same_list}
use Rattle.rt_model.specs.Tree.{Types, Tree, placeholder_tree, VComponent, Own, Root, Fragment, ErrorBoundary, SuspenseBoundary, Element, rendered, failed, suspended}
use Rattle.rt_model.specs.World.{Source, Cell, Error, Context, same_source, Values, World, Meaning, Application}
use Rattle.rt_model.specs.Values.{same_tree, same_element}
use Rattle.rt_model.specs.State.{FallbackSide, Scope, LastCall, State, is_side, is_held, values_of}
use Rattle.rt_model.specs.Commands.{names_source}
use Rattle.rt_model.specs.Run.{body_of}
use Rattle.rt_model.specs.Boundary.{tree_or_placeholder, children_of}

-- a source was read aside and isn't among the recorded reads
abbrev pub is_aside : List Source → List Source → Source → Bool
is_aside aside reads x = names_source aside x && not (names_source reads x)

module _ {K : Types} where
  -- what the last call read aside alone has the value that it had then, all else its present value
  abbrev pub values_again : (Source → Bool) → Values K → Values K → Values K
  values_again then_kept kept now =
      record {
        cell = λ n. if then_kept (Cell n) then kept.cell n else now.cell n;
        error = λ s. if then_kept (Error s) then kept.error s else now.error s;
        context = λ k s. if then_kept (Context k s) then kept.context k s else now.context k s;
      }

  -- the world of the last call with the present values
  abbrev pub world_again : State K → Scope K → LastCall K → World K
  world_again w x last =
      record { given = last.given.given; values = values_again (λ y. is_aside last.aside x.reads y) last.given.values (values_of w) }

  -- the body gives the last answer and the last reads
  abbrev pub Repeats : Scope K → LastCall K → Meaning K (Element K) → Type 0
  Repeats x last m = (last.answer ≡ m.answer) × (x.reads ≡ m.reads)

  -- the output that stays after an error or a suspension: the one before, or one placeholder
  abbrev pub stayed : LastCall K → Tree K
  stayed last = or_else placeholder_tree last.before

  -- the kept output is the answered tree; after an error or a suspension it is the one before, or one placeholder
  abbrev pub KeepsAnswer : LastCall K → Element K → Option (Tree K) → Type 0
  KeepsAnswer last (rendered tree) output = output ≡ Some tree
  KeepsAnswer last (failed e) output = output ≡ Some (stayed last)
  KeepsAnswer last (suspended origin task) output = output ≡ Some (stayed last)

module _ {K : Types} (app : Application K) where
  -- the call of the body again, with what was given then and the present values
  abbrev pub again : State K → Scope K → LastCall K → Meaning K (Element K)
  again w x last = body_of app x.component (world_again w x last)

  -- the body would answer the same again, and its output is that answer
  abbrev pub BodyIsCurrent : State K → Scope K → Option (LastCall K) → Type 0
  BodyIsCurrent w x None = ⊥
  BodyIsCurrent w x (Some last) = Repeats x last (again w x last) × KeepsAnswer last (again w x last).answer x.main_side.output

  -- the fallback's body would answer the same again, and its output is that answer
  abbrev pub FallbackIsCurrent : State K → Scope K → Option (LastCall K) → Type 0
  FallbackIsCurrent w x None = ⊥
  FallbackIsCurrent w x (Some last) =
      Repeats x last (again w x last) × (x.fallback_side.output ≡ Some (tree_or_placeholder (again w x last).answer))

  -- a boundary that isn't held reads nothing
  abbrev pub ShownSideIsCurrent : State K → Scope K → Option (LastCall K) → Bool → Type 0
  ShownSideIsCurrent w x last true = FallbackIsCurrent w x last
  ShownSideIsCurrent w x last false = x.reads ≡ []

  -- a suspense boundary keeps its children's tree, and shows its fallback exactly where it is held
  abbrev pub BoundaryIsCurrent : State K → Scope K → Option (LastCall K) → Type 0
  BoundaryIsCurrent w x last =
      (x.children_side.output ≡ Some (children_of x.component))
      ×
      (is_side x.shows FallbackSide ≡ is_held x)
      ×
      ShownSideIsCurrent w x last (is_held x)

  -- a scope is current, by the kind of its component
  abbrev pub CurrentAs : State K → Scope K → Option (LastCall K) → VComponent K → Type 0
  CurrentAs w x last (SuspenseBoundary children fallback) = BoundaryIsCurrent w x last
  CurrentAs w x last (Own component props) = BodyIsCurrent w x last
  CurrentAs w x last (Root component props) = BodyIsCurrent w x last
  CurrentAs w x last (Fragment children) = BodyIsCurrent w x last
  CurrentAs w x last (ErrorBoundary children handler) = BodyIsCurrent w x last

  -- scope s, whose record is x, is current
  abbrev pub IsCurrent : State K → ℕ → Scope K → Type 0
  IsCurrent w s x = CurrentAs w x (at w.last_calls s) x.component

  -- every live scope is current, hidden ones too
  abbrev pub AllCurrent : State K → Type 0
  AllCurrent w = AllByRecursion (λ (e : ℕ × Scope K). IsCurrent w e.0 e.1) w.scopes

  -- the same as tests that compute

  -- the test that the body gives the last answer and the last reads
  abbrev pub repeats : Scope K → LastCall K → Meaning K (Element K) → Bool
  repeats x last m = same_element app last.answer m.answer && same_list same_source x.reads m.reads

  -- the test that an output is this tree
  abbrev pub keeps_tree : Option (Tree K) → Tree K → Bool
  keeps_tree output tree = same_option (λ a b. same_tree app a b) output (Some tree)

  -- the test that an output is what the body answered, or what stays after an error or a suspension
  abbrev pub keeps_answer : LastCall K → Element K → Option (Tree K) → Bool
  keeps_answer last (rendered tree) output = keeps_tree output tree
  keeps_answer last (failed e) output = keeps_tree output (stayed last)
  keeps_answer last (suspended origin task) output = keeps_tree output (stayed last)

  -- the test of a body's call and output
  abbrev pub body_is_current : Scope K → LastCall K → Meaning K (Element K) → Bool
  body_is_current x last m = repeats x last m && keeps_answer last m.answer x.main_side.output

  -- the test of a fallback's call and output
  abbrev pub fallback_is_current : Scope K → LastCall K → Meaning K (Element K) → Bool
  fallback_is_current x last m = repeats x last m && keeps_tree x.fallback_side.output (tree_or_placeholder m.answer)

  -- a test of the call that is made again; a scope that never ran fails it
  abbrev pub tested_again : State K → Scope K → (Scope K → LastCall K → Meaning K (Element K) → Bool) → Option (LastCall K) → Bool
  tested_again w x test None = false
  tested_again w x test (Some last) = test x last (again w x last)

  -- the test that nothing was read
  abbrev pub no_reads : List Source → Bool
  no_reads [] = true
  no_reads (x ∷ xs) = false

  -- the test that the fallback shows just where the boundary is held, and what it read
  abbrev pub shown_side_is_current : State K → Scope K → Option (LastCall K) → Bool → Bool → Bool
  shown_side_is_current w x last true true = tested_again w x (λ y l m. fallback_is_current y l m) last
  shown_side_is_current w x last false false = no_reads x.reads
  shown_side_is_current w x last _ _ = false

  -- the test of a scope, by the kind of its component
  abbrev pub current_as : State K → Scope K → Option (LastCall K) → VComponent K → Bool
  current_as w x last (SuspenseBoundary children fallback) =
      keeps_tree x.children_side.output (children_of x.component)
      && shown_side_is_current w x last (is_side x.shows FallbackSide) (is_held x)
  current_as w x last (Own component props) = tested_again w x (λ y l m. body_is_current y l m) last
  current_as w x last (Root component props) = tested_again w x (λ y l m. body_is_current y l m) last
  current_as w x last (Fragment children) = tested_again w x (λ y l m. body_is_current y l m) last
  current_as w x last (ErrorBoundary children handler) = tested_again w x (λ y l m. body_is_current y l m) last

  -- the test that scope s, whose record is x, is current
  abbrev pub is_current : State K → ℕ → Scope K → Bool
  is_current w s x = current_as w x (at w.last_calls s) x.component

  -- the test that these scopes are current
  abbrev pub all_among : State K → List (ℕ × Scope K) → Bool
  all_among w [] = true
  all_among w (e ∷ es) = is_current w e.0 e.1 && all_among w es

  -- the test that every live scope is current
  abbrev pub all_current : State K → Bool
  all_current w = all_among w w.scopes
