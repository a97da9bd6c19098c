-- The test of current outputs and the statement that every scope is current say the same.
use Rattle.std.proofs.Common.{ℕ, Bool, true, false, ◌&&◌, List, [], ◌∷◌, ◌≡◌, refl, sym, ap, ◌∙◌}
use Rattle.std.specs.Prelude.{Option, Some, None}
use Rattle.std.specs.List.{AllByRecursion}
use Rattle.rt_lemmas.proofs.Bools.{never}
use Rattle.rt_model.specs.Lists.{at, same_list}
use Rattle.rt_model.specs.Tree.{Types, Tree, VComponent, Own, Root, Fragment, ErrorBoundary, SuspenseBoundary, Element, rendered, failed, suspended}
use Rattle.rt_model.specs.World.{Source, same_source, Meaning, Application}
use Rattle.rt_model.specs.Laws.{Tests}
use Rattle.rt_model.specs.Values.{same_tree, same_element}
use Rattle.rt_model.specs.State.{FallbackSide, Scope, LastCall, State, is_side, is_held}
use Rattle.rt_model.specs.Boundary.{tree_or_placeholder, children_of}
use Rattle.rt_model.specs.Current.{stayed, Repeats, KeepsAnswer, again, BodyIsCurrent, FallbackIsCurrent, ShownSideIsCurrent, BoundaryIsCurrent, CurrentAs, IsCurrent, repeats, keeps_tree, keeps_answer, body_is_current, fallback_is_current, tested_again, no_reads, shown_side_is_current, current_as, is_current, all_among}
use Rattle.rt_model.specs.CurrentTest.{TestDecidesCurrent}
use Rattle.rt_model.proofs.Conjunctions.{and-left, and-right}
use Rattle.rt_model.proofs.SameTrees.{both, option_tests, list_tests, source_tests, tree_tests, element_tests}

-- a test that says what a statement says
abbrev Decides : Bool → Type 0 → Type 0
Decides b P = (b ≡ true → P) × (P → b ≡ true)

two : (a b : Bool) {P Q : Type 0} → Decides a P → Decides b Q → Decides (a && b) (P × Q)
two a b d e = (λ h. (d.0 (and-left a b h), e.0 (and-right a b h)), λ h. both (d.1 h.0) (e.1 h.1))

itself : (b : Bool) → Decides b (b ≡ true)
itself b = (λ h. h, λ h. h)

module _ {K : Types} (app : Application K) (components : Tests K.Component app.same_component) (props : Tests K.Props app.same_props) (handlers : Tests K.Handler app.same_handler) where
  repeats-decides : (x : Scope K) (last : LastCall K) (m : Meaning K (Element K)) → Decides (repeats app x last m) (Repeats x last m)
  repeats-decides x last m =
      let answers = element_tests app components props handlers in
      let reads = list_tests same_source source_tests in
      two (same_element app last.answer m.answer) (same_list same_source x.reads m.reads)
      (answers.0 last.answer m.answer, λ e. ap (λ (o : Element K). same_element app o m.answer) e ∙ answers.1 m.answer)
      (reads.0 x.reads m.reads, λ e. ap (λ (r : List Source). same_list same_source r m.reads) e ∙ reads.1 m.reads)

  tree-decides : (output : Option (Tree K)) (tree : Tree K) → Decides (keeps_tree app output tree) (output ≡ Some tree)
  tree-decides output tree =
      let trees = option_tests (λ a b. same_tree app a b) (tree_tests app components props handlers) in
      (trees.0 output (Some tree), λ e. ap (λ (o : Option (Tree K)). keeps_tree app o tree) e ∙ trees.1 (Some tree))

  answer-decides : (last : LastCall K) (answer : Element K) (output : Option (Tree K)) → Decides (keeps_answer app last answer output) (KeepsAnswer last answer output)
  answer-decides last (rendered tree) output = tree-decides output tree
  answer-decides last (failed e) output = tree-decides output (stayed last)
  answer-decides last (suspended origin task) output = tree-decides output (stayed last)

  body-decides : (w : State K) (x : Scope K) (o : Option (LastCall K)) → Decides (tested_again app w x (λ y l m. body_is_current app y l m) o) (BodyIsCurrent app w x o)
  body-decides w x None = (never, λ h. absurd h)
  body-decides w x (Some last) =
      let m = again app w x last in
      two (repeats app x last m) (keeps_answer app last m.answer x.main_side.output) (repeats-decides x last m) (answer-decides last m.answer x.main_side.output)

  fallback-decides : (w : State K) (x : Scope K) (o : Option (LastCall K)) → Decides (tested_again app w x (λ y l m. fallback_is_current app y l m) o) (FallbackIsCurrent app w x o)
  fallback-decides w x None = (never, λ h. absurd h)
  fallback-decides w x (Some last) =
      let m = again app w x last in
      two (repeats app x last m) (keeps_tree app x.fallback_side.output (tree_or_placeholder m.answer)) (repeats-decides x last m) (tree-decides x.fallback_side.output (tree_or_placeholder m.answer))

  reads-decides : (reads : List Source) → Decides (no_reads app reads) (reads ≡ [])
  reads-decides [] = (λ h. refl, λ h. refl)
  reads-decides (x ∷ xs) = (never, λ h. cc)

  shown-decides : (w : State K) (x : Scope K) (o : Option (LastCall K)) (shows held : Bool) → Decides (shown_side_is_current app w x o shows held) ((shows ≡ held) × ShownSideIsCurrent app w x o held)
  shown-decides w x o true true = let d = fallback-decides w x o in (λ h. (refl, d.0 h), λ h. d.1 h.1)
  shown-decides w x o false false = let d = reads-decides x.reads in (λ h. (refl, d.0 h), λ h. d.1 h.1)
  shown-decides w x o true false = (never, λ h. sym h.0)
  shown-decides w x o false true = (never, λ h. h.0)

  boundary-decides : (w : State K) (x : Scope K) (o : Option (LastCall K)) → Decides (keeps_tree app x.children_side.output (children_of x.component) && shown_side_is_current app w x o (is_side x.shows FallbackSide) (is_held x)) (BoundaryIsCurrent app w x o)
  boundary-decides w x o =
      let d = two (keeps_tree app x.children_side.output (children_of x.component)) (shown_side_is_current app w x o (is_side x.shows FallbackSide) (is_held x))
      (tree-decides x.children_side.output (children_of x.component)) (shown-decides w x o (is_side x.shows FallbackSide) (is_held x)) in
      (λ h. let p = d.0 h in (p.0, p.1.0, p.1.1), λ h. d.1 (h.0, (h.1, h.2)))

  current-decides : (w : State K) (x : Scope K) (o : Option (LastCall K)) (c : VComponent K) → Decides (current_as app w x o c) (CurrentAs app w x o c)
  current-decides w x o (SuspenseBoundary children fallback) = boundary-decides w x o
  current-decides w x o (Own component given) = body-decides w x o
  current-decides w x o (Root component given) = body-decides w x o
  current-decides w x o (Fragment children) = body-decides w x o
  current-decides w x o (ErrorBoundary children handler) = body-decides w x o

  among-decides : (w : State K) (es : List (ℕ × Scope K)) → Decides (all_among app w es) (AllByRecursion (λ (e : ℕ × Scope K). IsCurrent app w e.0 e.1) es)
  among-decides w [] = (λ h. tt, λ h. refl)
  among-decides w (e ∷ es) = two (is_current app w e.0 e.1) (all_among app w es) (current-decides w e.1 (at w.last_calls e.0) (e.1).component) (among-decides w es)

-- the test decides that all is current
pub test_decides_current : {K : Types} (app : Application K) → TestDecidesCurrent app
test_decides_current app components props handlers w = among-decides app components props handlers w w.scopes
