-- Trees in which nothing fails: no fragment in them, however deep, has an error in the place of its children, and neither a root wrapper
-- nor an error boundary stands there. Of the application's components they have such as may stand there.
use Rattle.std.specs.Prelude.{ℕ, List, [], length, Option, Some, None, ◌≡◌}
use Rattle.rt_model.specs.Tree.{Types, Tree, block, Slots, no_slots, more_slots, Slot, text_slot, placeholder_slot, component_slot, fragment_slot, Trees, no_trees, more_trees, VComponent, Own, Root, Fragment, ErrorBoundary, SuspenseBoundary, Element, rendered, failed, suspended}
use Rattle.author_programs.specs.Pages.{Pages}

-- the component of a fallback may stand there
abbrev pub MayFall : {C P : Type 0} → (C → Type 0) → Option (C × P) → Type 0
MayFall may None = Unit {0}
MayFall may (Some f) = may f.0

module _ {K : Types} (May : K.Component → Type 0) where
  abbrev mutual
    -- a tree with all that stands in its slots
    pub SafeTree : Tree K → Type 0
    SafeTree (block template attributes slots) = SafeSlots slots

    -- its slots
    pub SafeSlots : Slots K → Type 0
    SafeSlots no_slots = Unit {0}
    SafeSlots (more_slots v rest) = SafeSlot v × SafeSlots rest

    -- what stands in a slot
    pub SafeSlot : Slot K → Type 0
    SafeSlot (text_slot text) = Unit {0}
    SafeSlot placeholder_slot = Unit {0}
    SafeSlot (component_slot component) = SafeComponent component
    SafeSlot (fragment_slot items) = SafeTrees items

    -- the items of a row
    pub SafeTrees : Trees K → Type 0
    SafeTrees no_trees = Unit {0}
    SafeTrees (more_trees t ts) = SafeTree t × SafeTrees ts

    -- a component with what it is given as children
    pub SafeComponent : VComponent K → Type 0
    SafeComponent (Own component props) = May component
    SafeComponent (Root component props) = ⊥
    SafeComponent (Fragment children) = SafeAnswer children
    SafeComponent (ErrorBoundary children handler) = ⊥
    SafeComponent (SuspenseBoundary children fallback) = SafeChildren children × MayFall May fallback

    -- an answer: no error
    pub SafeAnswer : Element K → Type 0
    SafeAnswer (rendered tree) = SafeTree tree
    SafeAnswer (failed error) = ⊥
    SafeAnswer (suspended origin task) = Unit {0}

    -- the children of a suspense boundary; an error in their place counts as a placeholder
    pub SafeChildren : Element K → Type 0
    SafeChildren (rendered tree) = SafeTree tree
    SafeChildren (failed error) = Unit {0}
    SafeChildren (suspended origin task) = Unit {0}

module _ {K : Types} where
  -- whatever a page of the application is given, nothing fails in what it shows, and its components may stand there
  abbrev pub PagesSafe : (K.Component → Type 0) → Pages K → Type 0
  PagesSafe may a =
      (c : K.Component) (p : K.Props) (s : ℕ) (own : List ℕ) (values : List (Option K.Value))
      → SafeTree may ((a.page c p).shows s own values)

  -- any component may stand there
  abbrev pub NoneFails : Pages K → Type 0
  NoneFails a = PagesSafe (λ c. Unit {0}) a

-- an Elm program: all cells are the root's
pub record IsElm {K : Types} (a : Pages K) : Type 0 where
  -- nothing fails in what a page shows, and the root's component doesn't stand there
  pub safe : PagesSafe (λ c. c ≡ a.root → ⊥) a
  -- pages of other components have no cells
  pub bare : (c : K.Component) (p : K.Props) → (c ≡ a.root → ⊥) → (a.page c p).cells ≡ []
  -- how many cells the root has doesn't depend on its props
  pub many : (p q : K.Props) → length (a.page a.root q).cells ≡ length (a.page a.root p).cells
