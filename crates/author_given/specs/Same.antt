-- A test of props with children, of tests of components and of what is a component's own.
use Rattle.std.specs.Prelude.{Bool, true, false, ◌&&◌, List, [], ◌∷◌}
use Rattle.rt_model.specs.Laws.{Tests}
use Rattle.author_given.specs.declared.props.Given.{Given}
use Rattle.author_given.specs.declared.props.Given.TheFolds.{fold-Given, fold-Inside}
use Rattle.author_given.specs.declared.props.Given.TheOpen.{Given-F, Inside-F}
use Rattle.author_given.specs.declared.props.Given.TheViews.{out-Given, out-Inside}
use Rattle.author_given.specs.declared.props.Inside.{Inside}

-- each test says so of its item, in order
abbrev pub all_pass : {A : Type 0} → List (A → Bool) → List A → Bool
all_pass [] [] = true
all_pass [] (x ∷ xs) = false
all_pass (test ∷ tests) [] = false
all_pass (test ∷ tests) (x ∷ xs) = test x && all_pass tests xs

module _ {C Q : Type 0} (same_component : C → C → Bool) (same_own : Q → Q → Bool) where
  -- what is a component's own is the same, and what stands in it
  abbrev pub given_step : Given-F C Q (Given C Q → Bool) (Inside C Q → Bool) → Given C Q → Bool
  given_step layer other = same_own layer.own (out-Given C Q other).own && all_pass layer.inside (out-Given C Q other).inside

  -- the same component, given the same
  abbrev pub inside_step : Inside-F C Q (Given C Q → Bool) (Inside C Q → Bool) → Inside C Q → Bool
  inside_step layer other = same_component layer.component (out-Inside C Q other).component && layer.given (out-Inside C Q other).given

  -- props are the same, through all that stands inside
  abbrev pub same_given : Given C Q → Given C Q → Bool
  same_given = fold-Given C Q (Given C Q → Bool) (Inside C Q → Bool) given_step inside_step

  -- so are components that stand in one
  abbrev pub same_inside : Inside C Q → Inside C Q → Bool
  same_inside = fold-Inside C Q (Given C Q → Bool) (Inside C Q → Bool) given_step inside_step

-- the test of props with children decides, where those of components and of what is their own do
abbrev pub GivenTests : Type 0 → Type 0 → Type 0
GivenTests C Q =
    (same_component : C → C → Bool) (same_own : Q → Q → Bool)
    → Tests C same_component
    → Tests Q same_own
    → Tests (Given C Q) (same_given same_component same_own)
