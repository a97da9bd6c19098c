-- The trees that built-in components answer, at the mirror.
use Rattle.std.proofs.Common.{◌≡◌, ℕ, List, [], ◌∷◌, map, Err, None, refl, ap, ◌∙◌}
use Rattle.tree_nodes.specs.declared.error.RenderError.{RenderError}
use Rattle.tree_nodes.specs.declared.error.RenderError.TheVariants as errors
use Rattle.tree_nodes.specs.declared.template.TemplateAttribute.{TemplateAttribute}
use Rattle.tree_nodes.specs.declared.template.TemplateNode.{TemplateNode}
use Rattle.tree_nodes.specs.declared.template.TemplateNode.TheVariants as nodes
use Rattle.tree_nodes.specs.Shown as shown
use Rattle.tree_nodes.specs.declared.vnode.VNode.{VNode}
use Rattle.tree_nodes.specs.declared.vnode.DynamicNode.{DynamicNode}
use Rattle.tree_nodes.specs.declared.vnode.DynamicNode.TheVariants as s
use Rattle.rt_model.specs.OneLog.{types}
use Rattle.rt_model.specs.Tree as model
use Rattle.rt_model.specs.Tree.{Types, TemplateNodes, no_nodes, element_node, slot_node, Tree, block, Slot, Slots, more_slots, no_slots, placeholder_slot, Element, failed, suspended, one_slot}
use Rattle.rt_model.specs.World.{Application}
use Rattle.rt_model.specs.State.{State, Done, MainSide}
use Rattle.rt_model.specs.Boundary.{tree_or_placeholder}
use Rattle.rt_model.specs.Run.{children_tree, has_output, new_output, start_agenda}
use Rattle.tree_mirror.specs.Mirror.{attribute_in}
use Rattle.tree_mirror.specs.Sealed.{element_of, nodes_of, slot_of, tree_of}
use Rattle.tree_mirror.proofs.SealedNodes.{before_Dynamic, before_Element}
use Rattle.tree_mirror.proofs.SealedTrees.{slot_Placeholder, tree_out}
use Rattle.std.specs.Prelude.{if◌then◌else◌}
use Rattle.rt_scopes.specs.Bodies.{unanswered}

module _ {P C Q V H T E L : Type 0} where
  -- a tree of one template whose one slot has a value
  pub block_is : (t : VNode P C Q V H T E L) (root : TemplateNode) (path : List ℕ) (value : DynamicNode P C Q V H T E L) (m : TemplateNodes) (v : Slot (types C Q V H T E L))
      → t ≡ record { template = record { roots = root ∷ []; node_paths = path ∷ []; attr_paths = [] }; dynamic_nodes = value ∷ []; dynamic_attrs = [] }
      → nodes_of (root ∷ []) ≡ m
      → slot_of value ≡ v
      → tree_of t ≡ block (record { roots = m; node_paths = path ∷ []; attribute_paths = [] }) [] (more_slots v no_slots)
  block_is t root path value m v is roots standing =
      ap tree_of is
      ∙ tree_out (record { template = record { roots = root ∷ []; node_paths = path ∷ []; attr_paths = [] }; dynamic_nodes = value ∷ []; dynamic_attrs = [] })
      ∙ (λ i. block (record { roots = roots i; node_paths = path ∷ []; attribute_paths = [] }) [] (more_slots (standing i) no_slots))

  -- the tree that is one slot
  pub one_slot_is : (t : VNode P C Q V H T E L) (value : DynamicNode P C Q V H T E L)
      → t ≡ record { template = record { roots = nodes.Dynamic 0 ∷ []; node_paths = (0 ∷ []) ∷ []; attr_paths = [] }; dynamic_nodes = value ∷ []; dynamic_attrs = [] }
      → tree_of t ≡ one_slot (slot_of value)
  one_slot_is t value is = block_is t (nodes.Dynamic 0) (0 ∷ []) value (slot_node 0 no_nodes) (slot_of value) is (before_Dynamic 0 no_nodes) refl

  -- the tree that is one placeholder
  pub placeholder_is : (t : VNode P C Q V H T E L) → t ≡ shown.placeholder_tree → tree_of t ≡ model.placeholder_tree
  placeholder_is t is = one_slot_is t s.Placeholder is ∙ ap one_slot (slot_Placeholder P)

-- an element whose one child is a slot
pub round_slot : (node : TemplateNode) (tag : List ℕ) (attrs : List TemplateAttribute) → node ≡ nodes.Element tag None attrs (nodes.Dynamic 0 ∷ [])
    → nodes_of (node ∷ []) ≡ element_node tag None (map attribute_in attrs) (slot_node 0 no_nodes) no_nodes
round_slot node tag attrs is =
    ap (λ n. nodes_of (n ∷ [])) is
    ∙ before_Element tag None attrs (nodes.Dynamic 0 ∷ []) no_nodes
    ∙ ap (λ m. element_node tag None (map attribute_in attrs) m no_nodes) (before_Dynamic 0 no_nodes)

module _ (P C Q V H T E L : Type 0) where
  -- an answer without a tree
  pub no_tree : (app : Application (types C Q V H T E L)) (w : State (types C Q V H T E L)) (s : ℕ) (error : RenderError)
      → new_output app w s (element_of {P = P} (Err error)) ≡ (if has_output w s then Done w [] else start_agenda app w s MainSide model.placeholder_tree)
  no_tree app w s (errors.Error e) = refl
  no_tree app w s (errors.Suspended f) = refl

  -- one placeholder stands in its place
  pub no_tree_shown : (error : RenderError) → tree_or_placeholder (element_of {P = P} {C = C} {Q = Q} {V = V} {H = H} {T = T} {E = E} {L = L} (Err error)) ≡ model.placeholder_tree
  no_tree_shown (errors.Error e) = refl
  no_tree_shown (errors.Suspended f) = refl

  -- and in that of children
  pub no_children : (error : RenderError) → children_tree (element_of {P = P} {C = C} {Q = Q} {V = V} {H = H} {T = T} {E = E} {L = L} (Err error)) ≡ model.placeholder_tree
  no_children (errors.Error e) = refl
  no_children (errors.Suspended f) = refl

  -- what it is instead
  pub no_tree_is : (error : RenderError) → element_of {P = P} {C = C} {Q = Q} {V = V} {H = H} {T = T} {E = E} {L = L} (Err error) ≡ unanswered error
  no_tree_is (errors.Error e) = refl
  no_tree_is (errors.Suspended f) = refl
