-- No two nodes of a tree stand at one place, and no two of its component slots.
use Rattle.std.proofs.Common.{◌≡◌, ℕ, zero, suc, ◌+◌, List, [], ◌∷◌, ◌++◌, map, refl, sym, ◌∙◌, ap, subst}
use Rattle.std.specs.List.{All}
use Rattle.std.proofs.lemmas.List.Elements.{All-nil, All-cons, All-head, All-tail}
use Rattle.tree_nodes.specs.Met.{Met, AtElement, AtAttribute, AtText, AtSlot, met_in}
use Rattle.tree_nodes.specs.Places.{Step, InTemplate, InFragment, Kind, AnElement, AText, ATextSlot, APlaceholder, AnEmptyFragment, NodePlace, Below, in_items, in_value, nodes_met, slots_met, fragment_nodes, value_nodes, tree_nodes, node_places, SlotPlace, held_in, value_slots, tree_slots, slot_places, HasPlacesApart}
use Rattle.tree_nodes.specs.declared.template.TemplateParts.{TemplateParts as Template}
use Rattle.tree_nodes.specs.declared.vnode.VNode.{VNode}
use Rattle.tree_nodes.specs.declared.vnode.VComponent.{VComponent}
use Rattle.tree_nodes.specs.declared.vnode.DynamicNode.{DynamicNode}
use Rattle.tree_nodes.specs.declared.vnode.ErrorBoundaryProps.{ErrorBoundaryProps}
use Rattle.tree_nodes.specs.declared.vnode.FragmentProps.{FragmentProps}
use Rattle.tree_nodes.specs.declared.vnode.SuspenseBoundaryProps.{SuspenseBoundaryProps}
use Rattle.tree_nodes.specs.declared.vnode.DynamicNode.TheVariants.{Placeholder, rolls-Placeholder}
use Rattle.tree_nodes.specs.declared.vnode.DynamicNode.TheOpen.{DynamicNode-F, VNode-F}
use Rattle.tree_nodes.specs.declared.vnode.DynamicNode.TheViews.{roll-VNode, roll-DynamicNode}
use Rattle.tree_nodes.specs.declared.vnode.DynamicNode.TheFolds.{fold-VNode, fold-DynamicNode, fold-VComponent, fold-ErrorBoundaryProps, fold-FragmentProps, fold-SuspenseBoundaryProps, fold-roll-VNode, fold-roll-DynamicNode, para-VNode, para-DynamicNode, para-VComponent, para-ErrorBoundaryProps, para-FragmentProps, para-SuspenseBoundaryProps, para-roll-VNode, para-roll-DynamicNode, ind-VNode, map-VNode, map-DynamicNode}
use Rattle.tree_nodes.proofs.Spread.{Row, IsSpread, are_apart, numbered, numbered-apart, numbered-spread, placed, placed-spread, one-spread, none-spread, spread-same}
use Rattle.tree_nodes.proofs.TemplatePlaces.{tagged, tagged-all, met_in-apart}

module _ {A : Type 0} where
  items-placed : (rows : List (Row Step A)) (k : ℕ) (steps : List Step) → in_items rows k steps ≡ placed InFragment (numbered k rows) steps
  items-placed [] k steps = refl
  items-placed (row ∷ rows) k steps = ap (λ r. row (steps ++ InFragment k ∷ []) ++ r) (items-placed rows (k + 1) steps)

  -- a fragment of items that go out by different places
  items-spread : (rows : List (Row Step A)) → All IsSpread rows → IsSpread (in_items rows 0)
  items-spread rows spread = spread-same (in_items rows 0) (placed InFragment (numbered 0 rows)) (items-placed rows 0)
      (placed-spread InFragment (λ j k same. cc same) (numbered 0 rows) (numbered-apart 0 rows) (numbered-spread 0 rows spread))

  value-spread : (rows : List (Row Step A)) (slot : ℕ) → All IsSpread rows → IsSpread (in_value rows slot)
  value-spread [] slot spread = none-spread
  value-spread (row ∷ rows) zero spread = λ at. (All-head IsSpread row rows spread) at
  value-spread (row ∷ rows) (suc slot) spread = λ at. (value-spread rows slot (All-tail IsSpread row rows spread)) at

-- what is met as the nodes at it
node_row : List (Row Step Kind) → Met → Row Step Kind
node_row values (AtElement path attrs children) steps = (steps, AnElement) ∷ []
node_row values (AtAttribute path id) steps = []
node_row values (AtText path) steps = (steps, AText) ∷ []
node_row values (AtSlot path id) steps = in_value values id steps

nodes-placed : (template : Template) (values : List (Row Step Kind)) (ms : List Met) (steps : List Step)
    → nodes_met template values ms steps ≡ placed (InTemplate template) (tagged (node_row values) ms) steps
unfolding node_row
nodes-placed template values [] steps = refl
nodes-placed template values (AtElement path attrs children ∷ ms) steps = ap (λ r. (steps ++ InTemplate template path ∷ [], AnElement) ∷ r) (nodes-placed template values ms steps)
nodes-placed template values (AtAttribute path id ∷ ms) steps = nodes-placed template values ms steps
nodes-placed template values (AtText path ∷ ms) steps = ap (λ r. (steps ++ InTemplate template path ∷ [], AText) ∷ r) (nodes-placed template values ms steps)
nodes-placed template values (AtSlot path id ∷ ms) steps = ap (λ r. in_value values id (steps ++ InTemplate template path ∷ []) ++ r) (nodes-placed template values ms steps)

node_row-spread : (values : List (Row Step Kind)) → All IsSpread values → (m : Met) → IsSpread (node_row values m)
unfolding node_row
node_row-spread values spread (AtElement path attrs children) = λ at. (one-spread AnElement) at
node_row-spread values spread (AtAttribute path id) = none-spread
node_row-spread values spread (AtText path) = λ at. (one-spread AText) at
node_row-spread values spread (AtSlot path id) = λ at. (value-spread values id spread) at

nodes-spread : (template : Template) (values : List (Row Step Kind)) → All IsSpread values → IsSpread (nodes_met template values (met_in template.roots))
nodes-spread template values spread =
    spread-same (nodes_met template values (met_in template.roots)) (placed (InTemplate template) (tagged (node_row values) (met_in template.roots))) (nodes-placed template values (met_in template.roots))
    (placed-spread (InTemplate template) (λ p q same. cc same) (tagged (node_row values) (met_in template.roots)) (met_in-apart (node_row values) template.roots)
    (tagged-all (IsSpread {S = Step} {A = Kind}) (node_row values) (node_row-spread values spread) (met_in template.roots)))

module _ {A : Type 0} where
  -- what is met as the component slots at it
  slot_row : List (Row Step A) → Met → Row Step A
  slot_row values (AtElement path attrs children) steps = []
  slot_row values (AtAttribute path id) steps = []
  slot_row values (AtText path) steps = []
  slot_row values (AtSlot path id) steps = in_value values id steps

  slots-placed : (template : Template) (values : List (Row Step A)) (ms : List Met) (steps : List Step)
      → slots_met template values ms steps ≡ placed (InTemplate template) (tagged (slot_row values) ms) steps
  unfolding slot_row
  slots-placed template values [] steps = refl
  slots-placed template values (AtElement path attrs children ∷ ms) steps = slots-placed template values ms steps
  slots-placed template values (AtAttribute path id ∷ ms) steps = slots-placed template values ms steps
  slots-placed template values (AtText path ∷ ms) steps = slots-placed template values ms steps
  slots-placed template values (AtSlot path id ∷ ms) steps = ap (λ r. in_value values id (steps ++ InTemplate template path ∷ []) ++ r) (slots-placed template values ms steps)

  slot_row-spread : (values : List (Row Step A)) → All IsSpread values → (m : Met) → IsSpread (slot_row values m)
  unfolding slot_row
  slot_row-spread values spread (AtElement path attrs children) = none-spread
  slot_row-spread values spread (AtAttribute path id) = none-spread
  slot_row-spread values spread (AtText path) = none-spread
  slot_row-spread values spread (AtSlot path id) = λ at. (value-spread values id spread) at

  slots-spread : (template : Template) (values : List (Row Step A)) → All IsSpread values → IsSpread (slots_met template values (met_in template.roots))
  slots-spread template values spread =
      spread-same (slots_met template values (met_in template.roots)) (placed (InTemplate template) (tagged (slot_row values) (met_in template.roots))) (slots-placed template values (met_in template.roots))
      (placed-spread (InTemplate template) (λ p q same. cc same) (tagged (slot_row values) (met_in template.roots)) (met_in-apart (slot_row values) template.roots)
      (tagged-all (IsSpread {S = Step} {A = A}) (slot_row values) (slot_row-spread values spread) (met_in template.roots)))

  slots_met-none : (template : Template) (values : List (Row Step A)) → ((slot : ℕ) (steps : List Step) → in_value values slot steps ≡ []) → (ms : List Met) (steps : List Step) → slots_met template values ms steps ≡ []
  slots_met-none template values none [] steps = refl
  slots_met-none template values none (AtElement path attrs children ∷ ms) steps = slots_met-none template values none ms steps
  slots_met-none template values none (AtAttribute path id ∷ ms) steps = slots_met-none template values none ms steps
  slots_met-none template values none (AtText path ∷ ms) steps = slots_met-none template values none ms steps
  slots_met-none template values none (AtSlot path id ∷ ms) steps =
      ap (λ r. r ++ slots_met template values ms steps) (none id (steps ++ InTemplate template path ∷ [])) ∙ slots_met-none template values none ms steps

  one_row-none : (row : Row Step A) → ((steps : List Step) → row steps ≡ []) → (slot : ℕ) (steps : List Step) → in_value (row ∷ []) slot steps ≡ []
  one_row-none row none zero steps = none steps
  one_row-none row none (suc slot) steps = refl

module _ {P Component Props Value Handler TaskState Effect Payload : Type 0} where
  -- the nodes of a tree, and of a slot's value, below the steps to it
  abbrev nodes_of_tree : VNode P Component Props Value Handler TaskState Effect Payload → Row Step Kind
  nodes_of_tree = fold-VNode P Component Props Value Handler TaskState Effect Payload (Below NodePlace) (Below NodePlace) (Below NodePlace) (Below NodePlace) (Below NodePlace) (Below NodePlace) value_nodes (λ component steps. []) (λ props steps. []) (λ props steps. []) (λ props steps. []) tree_nodes

  abbrev nodes_of_value : DynamicNode P Component Props Value Handler TaskState Effect Payload → Row Step Kind
  nodes_of_value = fold-DynamicNode P Component Props Value Handler TaskState Effect Payload (Below NodePlace) (Below NodePlace) (Below NodePlace) (Below NodePlace) (Below NodePlace) (Below NodePlace) value_nodes (λ component steps. []) (λ props steps. []) (λ props steps. []) (λ props steps. []) tree_nodes

  nodes_of_trees-spread : (trees : List ((tree : VNode P Component Props Value Handler TaskState Effect Payload) × IsSpread (nodes_of_tree tree))) → All IsSpread (map nodes_of_tree (map (λ known. known.0) trees))
  nodes_of_trees-spread [] = All-nil (IsSpread {S = Step} {A = Kind})
  nodes_of_trees-spread (tree ∷ trees) = All-cons (IsSpread {S = Step} {A = Kind}) (nodes_of_tree tree.0) (map nodes_of_tree (map (λ known. known.0) trees)) tree.1 (nodes_of_trees-spread trees)

  nodes_of_values-spread : (values : List ((value : DynamicNode P Component Props Value Handler TaskState Effect Payload) × IsSpread (nodes_of_value value))) → All IsSpread (map nodes_of_value (map (λ known. known.0) values))
  nodes_of_values-spread [] = All-nil (IsSpread {S = Step} {A = Kind})
  nodes_of_values-spread (value ∷ values) = All-cons (IsSpread {S = Step} {A = Kind}) (nodes_of_value value.0) (map nodes_of_value (map (λ known. known.0) values)) value.1 (nodes_of_values-spread values)

  -- one level of a slot's value, and of a tree, by its nodes
  abbrev nodes_of_layer : DynamicNode-F P Component Props Value Handler TaskState Effect Payload (DynamicNode P Component Props Value Handler TaskState Effect Payload) (VComponent P Component Props Value Handler TaskState Effect Payload) (ErrorBoundaryProps P Component Props Value Handler TaskState Effect Payload) (FragmentProps P Component Props Value Handler TaskState Effect Payload) (SuspenseBoundaryProps P Component Props Value Handler TaskState Effect Payload) (VNode P Component Props Value Handler TaskState Effect Payload) → Row Step Kind
  nodes_of_layer layer = value_nodes (map-DynamicNode P Component Props Value Handler TaskState Effect Payload (DynamicNode P Component Props Value Handler TaskState Effect Payload) (VComponent P Component Props Value Handler TaskState Effect Payload) (ErrorBoundaryProps P Component Props Value Handler TaskState Effect Payload) (FragmentProps P Component Props Value Handler TaskState Effect Payload) (SuspenseBoundaryProps P Component Props Value Handler TaskState Effect Payload) (VNode P Component Props Value Handler TaskState Effect Payload) (Below NodePlace) (Below NodePlace) (Below NodePlace) (Below NodePlace) (Below NodePlace) (Below NodePlace) (fold-DynamicNode P Component Props Value Handler TaskState Effect Payload (Below NodePlace) (Below NodePlace) (Below NodePlace) (Below NodePlace) (Below NodePlace) (Below NodePlace) value_nodes (λ component steps. []) (λ props steps. []) (λ props steps. []) (λ props steps. []) tree_nodes) (fold-VComponent P Component Props Value Handler TaskState Effect Payload (Below NodePlace) (Below NodePlace) (Below NodePlace) (Below NodePlace) (Below NodePlace) (Below NodePlace) value_nodes (λ component steps. []) (λ props steps. []) (λ props steps. []) (λ props steps. []) tree_nodes) (fold-ErrorBoundaryProps P Component Props Value Handler TaskState Effect Payload (Below NodePlace) (Below NodePlace) (Below NodePlace) (Below NodePlace) (Below NodePlace) (Below NodePlace) value_nodes (λ component steps. []) (λ props steps. []) (λ props steps. []) (λ props steps. []) tree_nodes) (fold-FragmentProps P Component Props Value Handler TaskState Effect Payload (Below NodePlace) (Below NodePlace) (Below NodePlace) (Below NodePlace) (Below NodePlace) (Below NodePlace) value_nodes (λ component steps. []) (λ props steps. []) (λ props steps. []) (λ props steps. []) tree_nodes) (fold-SuspenseBoundaryProps P Component Props Value Handler TaskState Effect Payload (Below NodePlace) (Below NodePlace) (Below NodePlace) (Below NodePlace) (Below NodePlace) (Below NodePlace) value_nodes (λ component steps. []) (λ props steps. []) (λ props steps. []) (λ props steps. []) tree_nodes) (fold-VNode P Component Props Value Handler TaskState Effect Payload (Below NodePlace) (Below NodePlace) (Below NodePlace) (Below NodePlace) (Below NodePlace) (Below NodePlace) value_nodes (λ component steps. []) (λ props steps. []) (λ props steps. []) (λ props steps. []) tree_nodes) layer)

  abbrev nodes_of_block : VNode-F P Component Props Value Handler TaskState Effect Payload (DynamicNode P Component Props Value Handler TaskState Effect Payload) (VComponent P Component Props Value Handler TaskState Effect Payload) (ErrorBoundaryProps P Component Props Value Handler TaskState Effect Payload) (FragmentProps P Component Props Value Handler TaskState Effect Payload) (SuspenseBoundaryProps P Component Props Value Handler TaskState Effect Payload) (VNode P Component Props Value Handler TaskState Effect Payload) → Row Step Kind
  nodes_of_block layer = tree_nodes (map-VNode P Component Props Value Handler TaskState Effect Payload (DynamicNode P Component Props Value Handler TaskState Effect Payload) (VComponent P Component Props Value Handler TaskState Effect Payload) (ErrorBoundaryProps P Component Props Value Handler TaskState Effect Payload) (FragmentProps P Component Props Value Handler TaskState Effect Payload) (SuspenseBoundaryProps P Component Props Value Handler TaskState Effect Payload) (VNode P Component Props Value Handler TaskState Effect Payload) (Below NodePlace) (Below NodePlace) (Below NodePlace) (Below NodePlace) (Below NodePlace) (Below NodePlace) (fold-DynamicNode P Component Props Value Handler TaskState Effect Payload (Below NodePlace) (Below NodePlace) (Below NodePlace) (Below NodePlace) (Below NodePlace) (Below NodePlace) value_nodes (λ component steps. []) (λ props steps. []) (λ props steps. []) (λ props steps. []) tree_nodes) (fold-VComponent P Component Props Value Handler TaskState Effect Payload (Below NodePlace) (Below NodePlace) (Below NodePlace) (Below NodePlace) (Below NodePlace) (Below NodePlace) value_nodes (λ component steps. []) (λ props steps. []) (λ props steps. []) (λ props steps. []) tree_nodes) (fold-ErrorBoundaryProps P Component Props Value Handler TaskState Effect Payload (Below NodePlace) (Below NodePlace) (Below NodePlace) (Below NodePlace) (Below NodePlace) (Below NodePlace) value_nodes (λ component steps. []) (λ props steps. []) (λ props steps. []) (λ props steps. []) tree_nodes) (fold-FragmentProps P Component Props Value Handler TaskState Effect Payload (Below NodePlace) (Below NodePlace) (Below NodePlace) (Below NodePlace) (Below NodePlace) (Below NodePlace) value_nodes (λ component steps. []) (λ props steps. []) (λ props steps. []) (λ props steps. []) tree_nodes) (fold-SuspenseBoundaryProps P Component Props Value Handler TaskState Effect Payload (Below NodePlace) (Below NodePlace) (Below NodePlace) (Below NodePlace) (Below NodePlace) (Below NodePlace) value_nodes (λ component steps. []) (λ props steps. []) (λ props steps. []) (λ props steps. []) tree_nodes) (fold-VNode P Component Props Value Handler TaskState Effect Payload (Below NodePlace) (Below NodePlace) (Below NodePlace) (Below NodePlace) (Below NodePlace) (Below NodePlace) value_nodes (λ component steps. []) (λ props steps. []) (λ props steps. []) (λ props steps. []) tree_nodes) layer)

  nodes_of_fragment-spread : (trees : List ((tree : VNode P Component Props Value Handler TaskState Effect Payload) × IsSpread (nodes_of_tree tree))) → IsSpread (fragment_nodes (map nodes_of_tree (map (λ known. known.0) trees)))
  nodes_of_fragment-spread [] = λ at. (one-spread AnEmptyFragment) at
  nodes_of_fragment-spread (tree ∷ trees) = λ at. (items-spread (map nodes_of_tree (map (λ known. known.0) (tree ∷ trees))) (nodes_of_trees-spread (tree ∷ trees))) at

  nodes_of_layer-spread : {V E F S : Type 0} (v : V → VComponent P Component Props Value Handler TaskState Effect Payload) (e : E → ErrorBoundaryProps P Component Props Value Handler TaskState Effect Payload) (f : F → FragmentProps P Component Props Value Handler TaskState Effect Payload) (s : S → SuspenseBoundaryProps P Component Props Value Handler TaskState Effect Payload)
      (layer : DynamicNode-F P Component Props Value Handler TaskState Effect Payload ((value : DynamicNode P Component Props Value Handler TaskState Effect Payload) × IsSpread (nodes_of_value value)) V E F S ((tree : VNode P Component Props Value Handler TaskState Effect Payload) × IsSpread (nodes_of_tree tree)))
      → IsSpread (nodes_of_layer (map-DynamicNode P Component Props Value Handler TaskState Effect Payload ((value : DynamicNode P Component Props Value Handler TaskState Effect Payload) × IsSpread (nodes_of_value value)) V E F S ((tree : VNode P Component Props Value Handler TaskState Effect Payload) × IsSpread (nodes_of_tree tree)) (DynamicNode P Component Props Value Handler TaskState Effect Payload) (VComponent P Component Props Value Handler TaskState Effect Payload) (ErrorBoundaryProps P Component Props Value Handler TaskState Effect Payload) (FragmentProps P Component Props Value Handler TaskState Effect Payload) (SuspenseBoundaryProps P Component Props Value Handler TaskState Effect Payload) (VNode P Component Props Value Handler TaskState Effect Payload) (λ known. known.0) v e f s (λ known. known.0) layer))
  nodes_of_layer-spread v e f s (DynamicNode-F.Text text) = λ at. (one-spread ATextSlot) at
  nodes_of_layer-spread v e f s DynamicNode-F.Placeholder = λ at. (one-spread APlaceholder) at
  nodes_of_layer-spread v e f s (DynamicNode-F.Component component) = none-spread
  nodes_of_layer-spread v e f s (DynamicNode-F.DynamicNode::Fragment trees) = λ at. (nodes_of_fragment-spread trees) at

  nodes_of_tree-spread : (tree : VNode P Component Props Value Handler TaskState Effect Payload) → IsSpread (nodes_of_tree tree)
  nodes_of_tree-spread = ind-VNode P Component Props Value Handler TaskState Effect Payload
      (λ value. IsSpread (nodes_of_value value)) (λ component. Unit {0}) (λ props. Unit {0}) (λ props. Unit {0}) (λ props. Unit {0}) (λ tree. IsSpread (nodes_of_tree tree))
      (λ layer known is.
      let rolled : nodes_of_value (roll-DynamicNode P Component Props Value Handler TaskState Effect Payload layer) ≡ nodes_of_layer layer = fold-roll-DynamicNode P Component Props Value Handler TaskState Effect Payload (Below NodePlace) (Below NodePlace) (Below NodePlace) (Below NodePlace) (Below NodePlace) (Below NodePlace) value_nodes (λ component steps. []) (λ props steps. []) (λ props steps. []) (λ props steps. []) tree_nodes layer in
      subst (λ (row : Row Step Kind). IsSpread row) (sym rolled)
      (subst (λ (l : DynamicNode-F P Component Props Value Handler TaskState Effect Payload (DynamicNode P Component Props Value Handler TaskState Effect Payload) (VComponent P Component Props Value Handler TaskState Effect Payload) (ErrorBoundaryProps P Component Props Value Handler TaskState Effect Payload) (FragmentProps P Component Props Value Handler TaskState Effect Payload) (SuspenseBoundaryProps P Component Props Value Handler TaskState Effect Payload) (VNode P Component Props Value Handler TaskState Effect Payload)). IsSpread (nodes_of_layer l)) is (nodes_of_layer-spread (λ e. e.0) (λ e. e.0) (λ e. e.0) (λ e. e.0) known)))
      (λ layer known is. tt) (λ layer known is. tt) (λ layer known is. tt) (λ layer known is. tt)
      (λ layer known is.
      let rolled : nodes_of_tree (roll-VNode P Component Props Value Handler TaskState Effect Payload layer) ≡ nodes_of_block layer = fold-roll-VNode P Component Props Value Handler TaskState Effect Payload (Below NodePlace) (Below NodePlace) (Below NodePlace) (Below NodePlace) (Below NodePlace) (Below NodePlace) value_nodes (λ component steps. []) (λ props steps. []) (λ props steps. []) (λ props steps. []) tree_nodes layer in
      subst (λ (row : Row Step Kind). IsSpread row) (sym rolled)
      (subst (λ (l : VNode-F P Component Props Value Handler TaskState Effect Payload (DynamicNode P Component Props Value Handler TaskState Effect Payload) (VComponent P Component Props Value Handler TaskState Effect Payload) (ErrorBoundaryProps P Component Props Value Handler TaskState Effect Payload) (FragmentProps P Component Props Value Handler TaskState Effect Payload) (SuspenseBoundaryProps P Component Props Value Handler TaskState Effect Payload) (VNode P Component Props Value Handler TaskState Effect Payload)). IsSpread (nodes_of_block l)) is
      (λ at. (nodes-spread known.template (map nodes_of_value (map (λ known. known.0) known.dynamic_nodes)) (nodes_of_values-spread known.dynamic_nodes)) at)))

  -- the component slots of a tree, and of a slot's value, below the steps to it
  abbrev slots_of_tree : VNode P Component Props Value Handler TaskState Effect Payload → Row Step (VComponent P Component Props Value Handler TaskState Effect Payload)
  slots_of_tree = para-VNode P Component Props Value Handler TaskState Effect Payload (Below (SlotPlace (VComponent P Component Props Value Handler TaskState Effect Payload))) (Below (SlotPlace (VComponent P Component Props Value Handler TaskState Effect Payload))) (Below (SlotPlace (VComponent P Component Props Value Handler TaskState Effect Payload))) (Below (SlotPlace (VComponent P Component Props Value Handler TaskState Effect Payload))) (Below (SlotPlace (VComponent P Component Props Value Handler TaskState Effect Payload))) (Below (SlotPlace (VComponent P Component Props Value Handler TaskState Effect Payload))) value_slots (λ component steps. []) (λ props steps. []) (λ props steps. []) (λ props steps. []) tree_slots

  abbrev slots_of_value : DynamicNode P Component Props Value Handler TaskState Effect Payload → Row Step (VComponent P Component Props Value Handler TaskState Effect Payload)
  slots_of_value = para-DynamicNode P Component Props Value Handler TaskState Effect Payload (Below (SlotPlace (VComponent P Component Props Value Handler TaskState Effect Payload))) (Below (SlotPlace (VComponent P Component Props Value Handler TaskState Effect Payload))) (Below (SlotPlace (VComponent P Component Props Value Handler TaskState Effect Payload))) (Below (SlotPlace (VComponent P Component Props Value Handler TaskState Effect Payload))) (Below (SlotPlace (VComponent P Component Props Value Handler TaskState Effect Payload))) (Below (SlotPlace (VComponent P Component Props Value Handler TaskState Effect Payload))) value_slots (λ component steps. []) (λ props steps. []) (λ props steps. []) (λ props steps. []) tree_slots

  slots_of_trees-spread : (trees : List ((tree : VNode P Component Props Value Handler TaskState Effect Payload) × IsSpread (slots_of_tree tree))) → All IsSpread (map slots_of_tree (map (λ known. known.0) trees))
  slots_of_trees-spread [] = All-nil (IsSpread {S = Step} {A = (VComponent P Component Props Value Handler TaskState Effect Payload)})
  slots_of_trees-spread (tree ∷ trees) = All-cons (IsSpread {S = Step} {A = (VComponent P Component Props Value Handler TaskState Effect Payload)}) (slots_of_tree tree.0) (map slots_of_tree (map (λ known. known.0) trees)) tree.1 (slots_of_trees-spread trees)

  slots_of_values-spread : (values : List ((value : DynamicNode P Component Props Value Handler TaskState Effect Payload) × IsSpread (slots_of_value value))) → All IsSpread (map slots_of_value (map (λ known. known.0) values))
  slots_of_values-spread [] = All-nil (IsSpread {S = Step} {A = (VComponent P Component Props Value Handler TaskState Effect Payload)})
  slots_of_values-spread (value ∷ values) = All-cons (IsSpread {S = Step} {A = (VComponent P Component Props Value Handler TaskState Effect Payload)}) (slots_of_value value.0) (map slots_of_value (map (λ known. known.0) values)) value.1 (slots_of_values-spread values)

  -- one level of a slot's value, and of a tree, by its component slots
  abbrev slots_of_layer : DynamicNode-F P Component Props Value Handler TaskState Effect Payload (DynamicNode P Component Props Value Handler TaskState Effect Payload) (VComponent P Component Props Value Handler TaskState Effect Payload) (ErrorBoundaryProps P Component Props Value Handler TaskState Effect Payload) (FragmentProps P Component Props Value Handler TaskState Effect Payload) (SuspenseBoundaryProps P Component Props Value Handler TaskState Effect Payload) (VNode P Component Props Value Handler TaskState Effect Payload) → Row Step (VComponent P Component Props Value Handler TaskState Effect Payload)
  slots_of_layer layer = value_slots (map-DynamicNode P Component Props Value Handler TaskState Effect Payload (DynamicNode P Component Props Value Handler TaskState Effect Payload) (VComponent P Component Props Value Handler TaskState Effect Payload) (ErrorBoundaryProps P Component Props Value Handler TaskState Effect Payload) (FragmentProps P Component Props Value Handler TaskState Effect Payload) (SuspenseBoundaryProps P Component Props Value Handler TaskState Effect Payload) (VNode P Component Props Value Handler TaskState Effect Payload) (DynamicNode P Component Props Value Handler TaskState Effect Payload × Below (SlotPlace (VComponent P Component Props Value Handler TaskState Effect Payload))) (VComponent P Component Props Value Handler TaskState Effect Payload × Below (SlotPlace (VComponent P Component Props Value Handler TaskState Effect Payload))) (ErrorBoundaryProps P Component Props Value Handler TaskState Effect Payload × Below (SlotPlace (VComponent P Component Props Value Handler TaskState Effect Payload))) (FragmentProps P Component Props Value Handler TaskState Effect Payload × Below (SlotPlace (VComponent P Component Props Value Handler TaskState Effect Payload))) (SuspenseBoundaryProps P Component Props Value Handler TaskState Effect Payload × Below (SlotPlace (VComponent P Component Props Value Handler TaskState Effect Payload))) (VNode P Component Props Value Handler TaskState Effect Payload × Below (SlotPlace (VComponent P Component Props Value Handler TaskState Effect Payload))) (λ x. (x, para-DynamicNode P Component Props Value Handler TaskState Effect Payload (Below (SlotPlace (VComponent P Component Props Value Handler TaskState Effect Payload))) (Below (SlotPlace (VComponent P Component Props Value Handler TaskState Effect Payload))) (Below (SlotPlace (VComponent P Component Props Value Handler TaskState Effect Payload))) (Below (SlotPlace (VComponent P Component Props Value Handler TaskState Effect Payload))) (Below (SlotPlace (VComponent P Component Props Value Handler TaskState Effect Payload))) (Below (SlotPlace (VComponent P Component Props Value Handler TaskState Effect Payload))) value_slots (λ component steps. []) (λ props steps. []) (λ props steps. []) (λ props steps. []) tree_slots x)) (λ x. (x, para-VComponent P Component Props Value Handler TaskState Effect Payload (Below (SlotPlace (VComponent P Component Props Value Handler TaskState Effect Payload))) (Below (SlotPlace (VComponent P Component Props Value Handler TaskState Effect Payload))) (Below (SlotPlace (VComponent P Component Props Value Handler TaskState Effect Payload))) (Below (SlotPlace (VComponent P Component Props Value Handler TaskState Effect Payload))) (Below (SlotPlace (VComponent P Component Props Value Handler TaskState Effect Payload))) (Below (SlotPlace (VComponent P Component Props Value Handler TaskState Effect Payload))) value_slots (λ component steps. []) (λ props steps. []) (λ props steps. []) (λ props steps. []) tree_slots x)) (λ x. (x, para-ErrorBoundaryProps P Component Props Value Handler TaskState Effect Payload (Below (SlotPlace (VComponent P Component Props Value Handler TaskState Effect Payload))) (Below (SlotPlace (VComponent P Component Props Value Handler TaskState Effect Payload))) (Below (SlotPlace (VComponent P Component Props Value Handler TaskState Effect Payload))) (Below (SlotPlace (VComponent P Component Props Value Handler TaskState Effect Payload))) (Below (SlotPlace (VComponent P Component Props Value Handler TaskState Effect Payload))) (Below (SlotPlace (VComponent P Component Props Value Handler TaskState Effect Payload))) value_slots (λ component steps. []) (λ props steps. []) (λ props steps. []) (λ props steps. []) tree_slots x)) (λ x. (x, para-FragmentProps P Component Props Value Handler TaskState Effect Payload (Below (SlotPlace (VComponent P Component Props Value Handler TaskState Effect Payload))) (Below (SlotPlace (VComponent P Component Props Value Handler TaskState Effect Payload))) (Below (SlotPlace (VComponent P Component Props Value Handler TaskState Effect Payload))) (Below (SlotPlace (VComponent P Component Props Value Handler TaskState Effect Payload))) (Below (SlotPlace (VComponent P Component Props Value Handler TaskState Effect Payload))) (Below (SlotPlace (VComponent P Component Props Value Handler TaskState Effect Payload))) value_slots (λ component steps. []) (λ props steps. []) (λ props steps. []) (λ props steps. []) tree_slots x)) (λ x. (x, para-SuspenseBoundaryProps P Component Props Value Handler TaskState Effect Payload (Below (SlotPlace (VComponent P Component Props Value Handler TaskState Effect Payload))) (Below (SlotPlace (VComponent P Component Props Value Handler TaskState Effect Payload))) (Below (SlotPlace (VComponent P Component Props Value Handler TaskState Effect Payload))) (Below (SlotPlace (VComponent P Component Props Value Handler TaskState Effect Payload))) (Below (SlotPlace (VComponent P Component Props Value Handler TaskState Effect Payload))) (Below (SlotPlace (VComponent P Component Props Value Handler TaskState Effect Payload))) value_slots (λ component steps. []) (λ props steps. []) (λ props steps. []) (λ props steps. []) tree_slots x)) (λ x. (x, para-VNode P Component Props Value Handler TaskState Effect Payload (Below (SlotPlace (VComponent P Component Props Value Handler TaskState Effect Payload))) (Below (SlotPlace (VComponent P Component Props Value Handler TaskState Effect Payload))) (Below (SlotPlace (VComponent P Component Props Value Handler TaskState Effect Payload))) (Below (SlotPlace (VComponent P Component Props Value Handler TaskState Effect Payload))) (Below (SlotPlace (VComponent P Component Props Value Handler TaskState Effect Payload))) (Below (SlotPlace (VComponent P Component Props Value Handler TaskState Effect Payload))) value_slots (λ component steps. []) (λ props steps. []) (λ props steps. []) (λ props steps. []) tree_slots x)) layer)

  abbrev slots_of_block : VNode-F P Component Props Value Handler TaskState Effect Payload (DynamicNode P Component Props Value Handler TaskState Effect Payload) (VComponent P Component Props Value Handler TaskState Effect Payload) (ErrorBoundaryProps P Component Props Value Handler TaskState Effect Payload) (FragmentProps P Component Props Value Handler TaskState Effect Payload) (SuspenseBoundaryProps P Component Props Value Handler TaskState Effect Payload) (VNode P Component Props Value Handler TaskState Effect Payload) → Row Step (VComponent P Component Props Value Handler TaskState Effect Payload)
  slots_of_block layer = tree_slots (map-VNode P Component Props Value Handler TaskState Effect Payload (DynamicNode P Component Props Value Handler TaskState Effect Payload) (VComponent P Component Props Value Handler TaskState Effect Payload) (ErrorBoundaryProps P Component Props Value Handler TaskState Effect Payload) (FragmentProps P Component Props Value Handler TaskState Effect Payload) (SuspenseBoundaryProps P Component Props Value Handler TaskState Effect Payload) (VNode P Component Props Value Handler TaskState Effect Payload) (DynamicNode P Component Props Value Handler TaskState Effect Payload × Below (SlotPlace (VComponent P Component Props Value Handler TaskState Effect Payload))) (VComponent P Component Props Value Handler TaskState Effect Payload × Below (SlotPlace (VComponent P Component Props Value Handler TaskState Effect Payload))) (ErrorBoundaryProps P Component Props Value Handler TaskState Effect Payload × Below (SlotPlace (VComponent P Component Props Value Handler TaskState Effect Payload))) (FragmentProps P Component Props Value Handler TaskState Effect Payload × Below (SlotPlace (VComponent P Component Props Value Handler TaskState Effect Payload))) (SuspenseBoundaryProps P Component Props Value Handler TaskState Effect Payload × Below (SlotPlace (VComponent P Component Props Value Handler TaskState Effect Payload))) (VNode P Component Props Value Handler TaskState Effect Payload × Below (SlotPlace (VComponent P Component Props Value Handler TaskState Effect Payload))) (λ x. (x, para-DynamicNode P Component Props Value Handler TaskState Effect Payload (Below (SlotPlace (VComponent P Component Props Value Handler TaskState Effect Payload))) (Below (SlotPlace (VComponent P Component Props Value Handler TaskState Effect Payload))) (Below (SlotPlace (VComponent P Component Props Value Handler TaskState Effect Payload))) (Below (SlotPlace (VComponent P Component Props Value Handler TaskState Effect Payload))) (Below (SlotPlace (VComponent P Component Props Value Handler TaskState Effect Payload))) (Below (SlotPlace (VComponent P Component Props Value Handler TaskState Effect Payload))) value_slots (λ component steps. []) (λ props steps. []) (λ props steps. []) (λ props steps. []) tree_slots x)) (λ x. (x, para-VComponent P Component Props Value Handler TaskState Effect Payload (Below (SlotPlace (VComponent P Component Props Value Handler TaskState Effect Payload))) (Below (SlotPlace (VComponent P Component Props Value Handler TaskState Effect Payload))) (Below (SlotPlace (VComponent P Component Props Value Handler TaskState Effect Payload))) (Below (SlotPlace (VComponent P Component Props Value Handler TaskState Effect Payload))) (Below (SlotPlace (VComponent P Component Props Value Handler TaskState Effect Payload))) (Below (SlotPlace (VComponent P Component Props Value Handler TaskState Effect Payload))) value_slots (λ component steps. []) (λ props steps. []) (λ props steps. []) (λ props steps. []) tree_slots x)) (λ x. (x, para-ErrorBoundaryProps P Component Props Value Handler TaskState Effect Payload (Below (SlotPlace (VComponent P Component Props Value Handler TaskState Effect Payload))) (Below (SlotPlace (VComponent P Component Props Value Handler TaskState Effect Payload))) (Below (SlotPlace (VComponent P Component Props Value Handler TaskState Effect Payload))) (Below (SlotPlace (VComponent P Component Props Value Handler TaskState Effect Payload))) (Below (SlotPlace (VComponent P Component Props Value Handler TaskState Effect Payload))) (Below (SlotPlace (VComponent P Component Props Value Handler TaskState Effect Payload))) value_slots (λ component steps. []) (λ props steps. []) (λ props steps. []) (λ props steps. []) tree_slots x)) (λ x. (x, para-FragmentProps P Component Props Value Handler TaskState Effect Payload (Below (SlotPlace (VComponent P Component Props Value Handler TaskState Effect Payload))) (Below (SlotPlace (VComponent P Component Props Value Handler TaskState Effect Payload))) (Below (SlotPlace (VComponent P Component Props Value Handler TaskState Effect Payload))) (Below (SlotPlace (VComponent P Component Props Value Handler TaskState Effect Payload))) (Below (SlotPlace (VComponent P Component Props Value Handler TaskState Effect Payload))) (Below (SlotPlace (VComponent P Component Props Value Handler TaskState Effect Payload))) value_slots (λ component steps. []) (λ props steps. []) (λ props steps. []) (λ props steps. []) tree_slots x)) (λ x. (x, para-SuspenseBoundaryProps P Component Props Value Handler TaskState Effect Payload (Below (SlotPlace (VComponent P Component Props Value Handler TaskState Effect Payload))) (Below (SlotPlace (VComponent P Component Props Value Handler TaskState Effect Payload))) (Below (SlotPlace (VComponent P Component Props Value Handler TaskState Effect Payload))) (Below (SlotPlace (VComponent P Component Props Value Handler TaskState Effect Payload))) (Below (SlotPlace (VComponent P Component Props Value Handler TaskState Effect Payload))) (Below (SlotPlace (VComponent P Component Props Value Handler TaskState Effect Payload))) value_slots (λ component steps. []) (λ props steps. []) (λ props steps. []) (λ props steps. []) tree_slots x)) (λ x. (x, para-VNode P Component Props Value Handler TaskState Effect Payload (Below (SlotPlace (VComponent P Component Props Value Handler TaskState Effect Payload))) (Below (SlotPlace (VComponent P Component Props Value Handler TaskState Effect Payload))) (Below (SlotPlace (VComponent P Component Props Value Handler TaskState Effect Payload))) (Below (SlotPlace (VComponent P Component Props Value Handler TaskState Effect Payload))) (Below (SlotPlace (VComponent P Component Props Value Handler TaskState Effect Payload))) (Below (SlotPlace (VComponent P Component Props Value Handler TaskState Effect Payload))) value_slots (λ component steps. []) (λ props steps. []) (λ props steps. []) (λ props steps. []) tree_slots x)) layer)

  held_trees : (trees : List (VNode P Component Props Value Handler TaskState Effect Payload)) → held_in (map (λ x. (x, slots_of_tree x)) trees) ≡ map slots_of_tree trees
  held_trees [] = refl
  held_trees (tree ∷ trees) = ap (λ rows. slots_of_tree tree ∷ rows) (held_trees trees)

  held_values : (values : List (DynamicNode P Component Props Value Handler TaskState Effect Payload)) → held_in (map (λ x. (x, slots_of_value x)) values) ≡ map slots_of_value values
  held_values [] = refl
  held_values (value ∷ values) = ap (λ rows. slots_of_value value ∷ rows) (held_values values)

  slots_of_layer-spread : {V E F S : Type 0} (v : V → VComponent P Component Props Value Handler TaskState Effect Payload) (e : E → ErrorBoundaryProps P Component Props Value Handler TaskState Effect Payload) (f : F → FragmentProps P Component Props Value Handler TaskState Effect Payload) (s : S → SuspenseBoundaryProps P Component Props Value Handler TaskState Effect Payload)
      (layer : DynamicNode-F P Component Props Value Handler TaskState Effect Payload ((value : DynamicNode P Component Props Value Handler TaskState Effect Payload) × IsSpread (slots_of_value value)) V E F S ((tree : VNode P Component Props Value Handler TaskState Effect Payload) × IsSpread (slots_of_tree tree)))
      → IsSpread (slots_of_layer (map-DynamicNode P Component Props Value Handler TaskState Effect Payload ((value : DynamicNode P Component Props Value Handler TaskState Effect Payload) × IsSpread (slots_of_value value)) V E F S ((tree : VNode P Component Props Value Handler TaskState Effect Payload) × IsSpread (slots_of_tree tree)) (DynamicNode P Component Props Value Handler TaskState Effect Payload) (VComponent P Component Props Value Handler TaskState Effect Payload) (ErrorBoundaryProps P Component Props Value Handler TaskState Effect Payload) (FragmentProps P Component Props Value Handler TaskState Effect Payload) (SuspenseBoundaryProps P Component Props Value Handler TaskState Effect Payload) (VNode P Component Props Value Handler TaskState Effect Payload) (λ known. known.0) v e f s (λ known. known.0) layer))
  slots_of_layer-spread v e f s (DynamicNode-F.Text text) = none-spread
  slots_of_layer-spread v e f s DynamicNode-F.Placeholder = none-spread
  slots_of_layer-spread v e f s (DynamicNode-F.Component component) = λ at. (one-spread (v component)) at
  slots_of_layer-spread v e f s (DynamicNode-F.DynamicNode::Fragment trees) =
      let found : List (VNode P Component Props Value Handler TaskState Effect Payload) = map (λ known. known.0) trees in
      subst (λ (rows : List (Row Step (VComponent P Component Props Value Handler TaskState Effect Payload))). IsSpread (in_items rows 0)) (sym (held_trees found)) (items-spread (map slots_of_tree found) (slots_of_trees-spread trees))

  slots_of_tree-spread : (tree : VNode P Component Props Value Handler TaskState Effect Payload) → IsSpread (slots_of_tree tree)
  slots_of_tree-spread = ind-VNode P Component Props Value Handler TaskState Effect Payload
      (λ value. IsSpread (slots_of_value value)) (λ component. Unit {0}) (λ props. Unit {0}) (λ props. Unit {0}) (λ props. Unit {0}) (λ tree. IsSpread (slots_of_tree tree))
      (λ layer known is.
      let rolled : slots_of_value (roll-DynamicNode P Component Props Value Handler TaskState Effect Payload layer) ≡ slots_of_layer layer = para-roll-DynamicNode P Component Props Value Handler TaskState Effect Payload (Below (SlotPlace (VComponent P Component Props Value Handler TaskState Effect Payload))) (Below (SlotPlace (VComponent P Component Props Value Handler TaskState Effect Payload))) (Below (SlotPlace (VComponent P Component Props Value Handler TaskState Effect Payload))) (Below (SlotPlace (VComponent P Component Props Value Handler TaskState Effect Payload))) (Below (SlotPlace (VComponent P Component Props Value Handler TaskState Effect Payload))) (Below (SlotPlace (VComponent P Component Props Value Handler TaskState Effect Payload))) value_slots (λ component steps. []) (λ props steps. []) (λ props steps. []) (λ props steps. []) tree_slots layer in
      subst (λ (row : Row Step (VComponent P Component Props Value Handler TaskState Effect Payload)). IsSpread row) (sym rolled)
      (subst (λ (l : DynamicNode-F P Component Props Value Handler TaskState Effect Payload (DynamicNode P Component Props Value Handler TaskState Effect Payload) (VComponent P Component Props Value Handler TaskState Effect Payload) (ErrorBoundaryProps P Component Props Value Handler TaskState Effect Payload) (FragmentProps P Component Props Value Handler TaskState Effect Payload) (SuspenseBoundaryProps P Component Props Value Handler TaskState Effect Payload) (VNode P Component Props Value Handler TaskState Effect Payload)). IsSpread (slots_of_layer l)) is (slots_of_layer-spread (λ e. e.0) (λ e. e.0) (λ e. e.0) (λ e. e.0) known)))
      (λ layer known is. tt) (λ layer known is. tt) (λ layer known is. tt) (λ layer known is. tt)
      (λ layer known is.
      let rolled : slots_of_tree (roll-VNode P Component Props Value Handler TaskState Effect Payload layer) ≡ slots_of_block layer = para-roll-VNode P Component Props Value Handler TaskState Effect Payload (Below (SlotPlace (VComponent P Component Props Value Handler TaskState Effect Payload))) (Below (SlotPlace (VComponent P Component Props Value Handler TaskState Effect Payload))) (Below (SlotPlace (VComponent P Component Props Value Handler TaskState Effect Payload))) (Below (SlotPlace (VComponent P Component Props Value Handler TaskState Effect Payload))) (Below (SlotPlace (VComponent P Component Props Value Handler TaskState Effect Payload))) (Below (SlotPlace (VComponent P Component Props Value Handler TaskState Effect Payload))) value_slots (λ component steps. []) (λ props steps. []) (λ props steps. []) (λ props steps. []) tree_slots layer in
      let found : List (DynamicNode P Component Props Value Handler TaskState Effect Payload) = map (λ known. known.0) known.dynamic_nodes in
      subst (λ (row : Row Step (VComponent P Component Props Value Handler TaskState Effect Payload)). IsSpread row) (sym rolled)
      (subst (λ (l : VNode-F P Component Props Value Handler TaskState Effect Payload (DynamicNode P Component Props Value Handler TaskState Effect Payload) (VComponent P Component Props Value Handler TaskState Effect Payload) (ErrorBoundaryProps P Component Props Value Handler TaskState Effect Payload) (FragmentProps P Component Props Value Handler TaskState Effect Payload) (SuspenseBoundaryProps P Component Props Value Handler TaskState Effect Payload) (VNode P Component Props Value Handler TaskState Effect Payload)). IsSpread (slots_of_block l)) is
      (subst (λ (rows : List (Row Step (VComponent P Component Props Value Handler TaskState Effect Payload))). IsSpread (slots_met known.template rows (met_in known.template.roots))) (sym (held_values found))
      (slots-spread known.template (map slots_of_value found) (slots_of_values-spread known.dynamic_nodes)))))

  -- no place of a tree stands twice
  pub places_apart : (tree : VNode P Component Props Value Handler TaskState Effect Payload) → HasPlacesApart tree
  places_apart tree = (are_apart (node_places tree) ((nodes_of_tree-spread tree) []).1, are_apart (slot_places tree) ((slots_of_tree-spread tree) []).1)

  placeholder-none : (steps : List Step) → slots_of_value Placeholder steps ≡ []
  placeholder-none steps =
      let rolled : slots_of_value Placeholder ≡ slots_of_layer DynamicNode-F.Placeholder = ap slots_of_value (sym rolls-Placeholder) ∙ para-roll-DynamicNode P Component Props Value Handler TaskState Effect Payload (Below (SlotPlace (VComponent P Component Props Value Handler TaskState Effect Payload))) (Below (SlotPlace (VComponent P Component Props Value Handler TaskState Effect Payload))) (Below (SlotPlace (VComponent P Component Props Value Handler TaskState Effect Payload))) (Below (SlotPlace (VComponent P Component Props Value Handler TaskState Effect Payload))) (Below (SlotPlace (VComponent P Component Props Value Handler TaskState Effect Payload))) (Below (SlotPlace (VComponent P Component Props Value Handler TaskState Effect Payload))) value_slots (λ component steps. []) (λ props steps. []) (λ props steps. []) (λ props steps. []) tree_slots DynamicNode-F.Placeholder in
      ap (λ (row : Row Step (VComponent P Component Props Value Handler TaskState Effect Payload)). row steps) rolled

  -- a tree whose one slot is a placeholder has no component slot
  pub slots-placeholder : (layer : VNode-F P Component Props Value Handler TaskState Effect Payload (DynamicNode P Component Props Value Handler TaskState Effect Payload) (VComponent P Component Props Value Handler TaskState Effect Payload) (ErrorBoundaryProps P Component Props Value Handler TaskState Effect Payload) (FragmentProps P Component Props Value Handler TaskState Effect Payload) (SuspenseBoundaryProps P Component Props Value Handler TaskState Effect Payload) (VNode P Component Props Value Handler TaskState Effect Payload)) → layer.dynamic_nodes ≡ Placeholder ∷ [] → slot_places (roll-VNode P Component Props Value Handler TaskState Effect Payload layer) ≡ []
  slots-placeholder layer one =
      let rolled : slots_of_tree (roll-VNode P Component Props Value Handler TaskState Effect Payload layer) ≡ slots_of_block layer = para-roll-VNode P Component Props Value Handler TaskState Effect Payload (Below (SlotPlace (VComponent P Component Props Value Handler TaskState Effect Payload))) (Below (SlotPlace (VComponent P Component Props Value Handler TaskState Effect Payload))) (Below (SlotPlace (VComponent P Component Props Value Handler TaskState Effect Payload))) (Below (SlotPlace (VComponent P Component Props Value Handler TaskState Effect Payload))) (Below (SlotPlace (VComponent P Component Props Value Handler TaskState Effect Payload))) (Below (SlotPlace (VComponent P Component Props Value Handler TaskState Effect Payload))) value_slots (λ component steps. []) (λ props steps. []) (λ props steps. []) (λ props steps. []) tree_slots layer in
      let values : held_in (map (λ x. (x, slots_of_value x)) layer.dynamic_nodes) ≡ slots_of_value Placeholder ∷ [] = held_values layer.dynamic_nodes ∙ ap (map slots_of_value) one in
      ap (λ (row : Row Step (VComponent P Component Props Value Handler TaskState Effect Payload)). row []) rolled ∙
      ap (λ (rows : List (Row Step (VComponent P Component Props Value Handler TaskState Effect Payload))). slots_met layer.template rows (met_in layer.template.roots) []) values ∙
      slots_met-none layer.template (slots_of_value Placeholder ∷ []) (one_row-none (slots_of_value Placeholder) placeholder-none) (met_in layer.template.roots) []
