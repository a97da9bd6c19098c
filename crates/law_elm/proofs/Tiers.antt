-- What a scope is, told by where it stands: one of those round the application's root, the root's own, or one of a page's. So it is told
-- what stands below it, and what is made or handed on there.
use Rattle.std.proofs.Common.{ℕ, zero, suc, ◌<◌, Bool, true, false, ◌+◌, List, [], ◌∷◌, ◌++◌, ◌≡◌, refl, sym, subst}
use Rattle.std.specs.Prelude.{Option, Some, None, if◌then◌else◌}
use Rattle.rt_model.specs.Tree.{Types, TemplateNodes, no_nodes, element_node, text_node, slot_node, Template, Tree, block, Slots, no_slots, more_slots, Slot, text_slot, placeholder_slot, component_slot, fragment_slot, Trees, no_trees, more_trees, VComponent, Own, Root, Fragment, ErrorBoundary, SuspenseBoundary, Element, rendered, failed, suspended, one_slot, item, Place, place_in, Spot, node_at, component_at, node_spots, spots, slots_spots, slot_spots, item_spots}
use Rattle.rt_model.specs.World.{Application}
use Rattle.rt_model.specs.State.{SideName, MainSide, ChildrenSide, FallbackSide, RowStep, Item, Draw, Row, Feed, Make, Drop}
use Rattle.rt_model.specs.Run.{child_at, has_node, component_in, row_items, is_fed, serves, drop_at, drops_of}
use Rattle.rt_model.specs.Boundary.{tree_or_placeholder, children_of, drop_items}
use Rattle.law_reduce.specs.RootStays.{error_boundary, suspense_boundary}
use Rattle.law_elm.specs.Safe.{SafeTree, SafeSlots, SafeSlot, SafeTrees, SafeComponent, SafeAnswer, SafeChildren}

-- the root wrapper, the suspense boundary and the error boundary in it, the root's own scope, and all below that
pub data Tier : Type 0 where
  WrapperTier : Tier
  SuspenseTier : Tier
  CatcherTier : Tier
  RootTier : Tier
  PlainTier : Tier

-- what stands on a side of it
abbrev pub next_tier : Tier → SideName → Tier
next_tier WrapperTier MainSide = SuspenseTier
next_tier WrapperTier ChildrenSide = PlainTier
next_tier WrapperTier FallbackSide = PlainTier
next_tier SuspenseTier MainSide = PlainTier
next_tier SuspenseTier ChildrenSide = CatcherTier
next_tier SuspenseTier FallbackSide = PlainTier
next_tier CatcherTier MainSide = RootTier
next_tier CatcherTier ChildrenSide = PlainTier
next_tier CatcherTier FallbackSide = PlainTier
next_tier RootTier a = PlainTier
next_tier PlainTier a = PlainTier

-- it may be a suspense boundary
abbrev pub MayStep : Tier → Type 0
MayStep WrapperTier = ⊥
MayStep SuspenseTier = Unit {0}
MayStep CatcherTier = ⊥
MayStep RootTier = ⊥
MayStep PlainTier = Unit {0}

module _ {K : Types} (may : K.Component → Type 0) (c : K.Component) (p : K.Props) where
  -- the component of such a scope
  abbrev pub IsTier : Tier → VComponent K → Type 0
  IsTier WrapperTier d = d ≡ Root c p
  IsTier SuspenseTier d = d ≡ suspense_boundary c p
  IsTier CatcherTier d = d ≡ error_boundary c p
  IsTier RootTier d = (q : K.Props) × (d ≡ Own c q)
  IsTier PlainTier d = SafeComponent may d

  -- the components among these spots are such
  abbrev pub AllOf : Tier → List (Spot K) → Type 0
  AllOf t [] = Unit {0}
  AllOf t (node_at q k ∷ ss) = AllOf t ss
  AllOf t (component_at q d ∷ ss) = IsTier t d × AllOf t ss

  -- an answer of such a scope
  abbrev pub Answers : Tier → Element K → Type 0
  Answers t (rendered tree) = AllOf (next_tier t MainSide) (spots [] tree)
  Answers t (failed error) = ⊥
  Answers t (suspended origin task) = Unit {0}

  -- trees of pages

  spots_both : (xs ys : List (Spot K)) → AllOf PlainTier xs → AllOf PlainTier ys → AllOf PlainTier (xs ++ ys)
  spots_both [] ys h g = g
  spots_both (node_at q k ∷ xs) ys h g = spots_both xs ys h g
  spots_both (component_at q d ∷ xs) ys h g = (h.0, spots_both xs ys h.1 g)

  nodes_safe : (slot : ℕ → Place → List (Spot K)) → ((k : ℕ) (place : Place) → AllOf PlainTier (slot k place)) → (whole : Template) (above : Place) (up : List ℕ) (i : ℕ) (nodes : TemplateNodes)
      → AllOf PlainTier (node_spots whole above slot up i nodes)
  nodes_safe slot f whole above up i no_nodes = tt
  nodes_safe slot f whole above up i (element_node tag namespace given children rest) =
      spots_both (node_spots whole above slot (up ++ i ∷ []) 0 children) (node_spots whole above slot up (i + 1) rest)
      (nodes_safe slot f whole above (up ++ i ∷ []) 0 children)
      (nodes_safe slot f whole above up (i + 1) rest)
  nodes_safe slot f whole above up i (text_node text rest) = nodes_safe slot f whole above up (i + 1) rest
  nodes_safe slot f whole above up i (slot_node k rest) =
      spots_both (slot k (place_in whole above up i)) (node_spots whole above slot up (i + 1) rest) (f k (place_in whole above up i)) (nodes_safe slot f whole above up (i + 1) rest)

  mutual
    pub tree_safe : (tree : Tree K) (above : Place) → SafeTree may tree → AllOf PlainTier (spots above tree)
    tree_safe (block template attributes slots) above h =
        nodes_safe (λ k place. slots_spots slots k place) (λ k place. slots_safe slots k place h) template above [] 0 template.roots

    slots_safe : (slots : Slots K) (k : ℕ) (place : Place) → SafeSlots may slots → AllOf PlainTier (slots_spots slots k place)
    slots_safe no_slots k place h = tt
    slots_safe (more_slots v rest) zero place h = slot_safe v place h.0
    slots_safe (more_slots v rest) (suc k) place h = slots_safe rest k place h.1

    slot_safe : (v : Slot K) (place : Place) → SafeSlot may v → AllOf PlainTier (slot_spots v place)
    slot_safe (text_slot text) place h = tt
    slot_safe placeholder_slot place h = tt
    slot_safe (component_slot d) place h = (h, tt)
    slot_safe (fragment_slot no_trees) place h = tt
    slot_safe (fragment_slot (more_trees t ts)) place h = items_safe (more_trees t ts) 0 place h

    items_safe : (items : Trees K) (i : ℕ) (place : Place) → SafeTrees may items → AllOf PlainTier (item_spots i place items)
    items_safe no_trees i place h = tt
    items_safe (more_trees t ts) i place h =
        spots_both (spots (place ++ item i ∷ []) t) (item_spots (i + 1) place ts) (tree_safe t (place ++ item i ∷ []) h.0) (items_safe ts (i + 1) place h.1)

  -- an answer of a page, or of a fragment
  pub plain_answers : (answer : Element K) → SafeAnswer may answer → Answers PlainTier answer
  plain_answers (rendered tree) h = tree_safe tree [] h
  plain_answers (failed error) h = absurd h
  plain_answers (suspended origin task) h = tt

  -- the tree of a fallback
  pub fallback_all : (t : Tier) → MayStep t → (answer : Element K) → Answers t answer → AllOf (next_tier t FallbackSide) (spots [] (tree_or_placeholder answer))
  fallback_all WrapperTier step answer h = absurd step
  fallback_all SuspenseTier step (rendered tree) h = h
  fallback_all SuspenseTier step (failed error) h = absurd h
  fallback_all SuspenseTier step (suspended origin task) h = tt
  fallback_all CatcherTier step answer h = absurd step
  fallback_all RootTier step answer h = absurd step
  fallback_all PlainTier step (rendered tree) h = h
  fallback_all PlainTier step (failed error) h = absurd h
  fallback_all PlainTier step (suspended origin task) h = tt

  -- the tree that a suspense boundary holds

  within_all : (children : Element K) → SafeChildren may children → AllOf PlainTier (spots [] (tree_or_placeholder children))
  within_all (rendered tree) h = tree_safe tree [] h
  within_all (failed error) h = tt
  within_all (suspended origin task) h = tt

  plain_held : (d : VComponent K) → SafeComponent may d → AllOf PlainTier (spots [] (children_of d))
  plain_held (SuspenseBoundary children fallback) h = within_all children h.0
  plain_held (Own component props) h = tt
  plain_held (Root component props) h = tt
  plain_held (Fragment children) h = tt
  plain_held (ErrorBoundary children handler) h = tt

  pub held_all : (t : Tier) → MayStep t → (d : VComponent K) → IsTier t d → AllOf (next_tier t ChildrenSide) (spots [] (children_of d))
  held_all WrapperTier step d h = absurd step
  held_all SuspenseTier step d h =
      subst (λ (e : VComponent K). AllOf CatcherTier (spots [] (children_of e))) (sym h) (refl, tt)
  held_all CatcherTier step d h = absurd step
  held_all RootTier step d h = absurd step
  held_all PlainTier step d h = plain_held d h

  -- a suspense boundary may step
  pub boundary_steps : (t : Tier) (children : Element K) (fallback : Option (K.Component × K.Props)) → IsTier t (SuspenseBoundary children fallback) → MayStep t
  boundary_steps WrapperTier children fallback h = cc
  boundary_steps SuspenseTier children fallback h = tt
  boundary_steps CatcherTier children fallback h =
      let same : SuspenseBoundary children fallback ≡ ErrorBoundary (rendered (one_slot (component_slot (Own c p)))) None = h in cc
  boundary_steps RootTier children fallback h = let same : SuspenseBoundary children fallback ≡ Own c h.0 = h.1 in cc
  boundary_steps PlainTier children fallback h = tt

  module _ (tiers : ℕ → Tier) (bound : ℕ) where
    -- what is made or handed on is what has to stand there
    abbrev pub Works : List (Item K) → Type 0
    Works [] = Unit {0}
    Works (Draw s side q k ∷ rest) = Works rest
    Works (Row b step ∷ rest) = (MayStep (tiers b) × (b < bound)) × Works rest
    Works (Feed s side q d ∷ rest) = (IsTier (next_tier (tiers s) side) d × (s < bound)) × Works rest
    Works (Make s side q d ∷ rest) = (IsTier (next_tier (tiers s) side) d × (s < bound)) × Works rest
    Works (Drop t s side ∷ rest) = Works rest

    pub works_both : (xs ys : List (Item K)) → Works xs → Works ys → Works (xs ++ ys)
    works_both [] ys h g = g
    works_both (Draw s side q k ∷ xs) ys h g = works_both xs ys h g
    works_both (Row b step ∷ xs) ys h g = (h.0, works_both xs ys h.1 g)
    works_both (Feed s side q d ∷ xs) ys h g = (h.0, works_both xs ys h.1 g)
    works_both (Make s side q d ∷ xs) ys h g = (h.0, works_both xs ys h.1 g)
    works_both (Drop t s side ∷ xs) ys h g = works_both xs ys h g

    works_either : (b : Bool) (xs ys : List (Item K)) → Works xs → Works ys → Works (if b then xs else ys)
    works_either true xs ys h g = h
    works_either false xs ys h g = g

-- the steps of a boundary, and what is dropped
module _ (K : Types) (may : K.Component → Type 0) (c : K.Component) (p : K.Props) (tiers : ℕ → Tier) (bound : ℕ) where
  pub rows_work : (b : ℕ) (steps : List RowStep) → MayStep (tiers b) → b < bound → Works may c p tiers bound (row_items {K = K} b steps)
  rows_work b [] step low = tt
  rows_work b (first ∷ steps) step low = ((step, low), rows_work b steps step low)

  drop_works : (s : ℕ) (side : SideName) (o : Option ℕ) → Works may c p tiers bound (drop_at {K = K} s side o)
  drop_works s side None = tt
  drop_works s side (Some t) = tt

  pub drops_work : (b : ℕ) (side : SideName) (ts : List ℕ) → Works may c p tiers bound (drop_items {K = K} b side ts)
  drops_work b side [] = tt
  drops_work b side (t ∷ ts) = drops_work b side ts

module _ {K : Types} (may : K.Component → Type 0) (c : K.Component) (p : K.Props) (tiers : ℕ → Tier) (bound : ℕ) (app : Application K) where
  serves_work : (s : ℕ) (side : SideName) (old new : List (Spot K)) → s < bound → AllOf may c p (next_tier (tiers s) side) new → Works may c p tiers bound (serves app s side old new)
  serves_work s side old [] low h = tt
  serves_work s side old (node_at q k ∷ new) low h =
      works_either may c p tiers bound (has_node old q k) (serves app s side old new) (Draw s side q k ∷ serves app s side old new) (serves_work s side old new low h) (serves_work s side old new low h)
  serves_work s side old (component_at q d ∷ new) low h =
      works_either may c p tiers bound (is_fed app (component_in old q) (Some d)) (Feed s side q d ∷ serves app s side old new) (Make s side q d ∷ serves app s side old new)
      ((h.0, low), serves_work s side old new low h.1)
      ((h.0, low), serves_work s side old new low h.1)

  gone_works : (s : ℕ) (side : SideName) (new : List (Spot K)) (children : List (Place × ℕ)) (old : List (Spot K)) → Works may c p tiers bound (drops_of app s side new children old)
  gone_works s side new children [] = tt
  gone_works s side new children (node_at q k ∷ old) = gone_works s side new children old
  gone_works s side new children (component_at q d ∷ old) =
      works_either may c p tiers bound (is_fed app (Some d) (component_in new q)) (drops_of app s side new children old) (drop_at s side (child_at children q) ++ drops_of app s side new children old)
      (gone_works s side new children old)
      (works_both may c p tiers bound (drop_at s side (child_at children q)) (drops_of app s side new children old) (drop_works K may c p tiers bound s side (child_at children q)) (gone_works s side new children old))

  -- the work of a patch
  pub patch_works : (s : ℕ) (side : SideName) (old : List (Spot K)) (tree : Tree K) (children : List (Place × ℕ)) → s < bound → AllOf may c p (next_tier (tiers s) side) (spots [] tree)
      → Works may c p tiers bound (serves app s side old (spots [] tree) ++ drops_of app s side (spots [] tree) children old)
  patch_works s side old tree children low h =
      works_both may c p tiers bound (serves app s side old (spots [] tree)) (drops_of app s side (spots [] tree) children old) (serves_work s side old (spots [] tree) low h) (gone_works s side (spots [] tree) children old)
