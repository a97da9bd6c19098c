-- What shows, as a look sees it, part by part.
use Rattle.std.specs.Prelude.{ℕ, zero, suc, ◌+◌, List, [], ◌∷◌, ◌++◌, map, Option, Some, None}
use Rattle.tree_nodes.specs.declared.template.TemplateNode.{TemplateNode}
use Rattle.tree_nodes.specs.declared.vnode.VNode.{VNode}
use Rattle.tree_nodes.specs.declared.vnode.DynamicNode.{DynamicNode}
use Rattle.rt_model.specs.Tree.{Place, no_nodes, item}
use Rattle.rt_model.specs.Document.{Forest, Empty, join_rows}
use Rattle.rt_model.specs.View.{child_view, nodes_view, tree_view, slots_view, slot_view, side_view}
use Rattle.tree_mirror.specs.Mirror.{attribute_of, slots_from}
use Rattle.tree_mirror.specs.Sealed.{node_before, template_of, tree_of, slot_of}
use Rattle.run_places.specs.declared.side.Side.{Side}
use Rattle.run_places.specs.Places.{side_of}
use Rattle.run_places.specs.Trails.{place_on}
use Rattle.run_places.specs.Sides.{child_in}
use Rattle.run_shown.specs.declared.asked.Asked.{Asked}
use Rattle.run_shown.specs.declared.asked.Asked.TheVariants as asks
use Rattle.run_shown.specs.declared.look.Look.{Look}
use Rattle.run_shown.specs.declared.showing.Shown.{Shown}
use Rattle.run_shown.specs.declared.numbered.Standing.{Standing}
use Rattle.run_shown.specs.Given.{given_to}
use Rattle.run_shown.specs.Look.{look_shown}

module _ {P C Q V H T E L : Type 0} where
  -- what a side shows, if there is one
  abbrev pub seen_side : (ℕ → Forest) → Option (Side P C Q V H T E L) → Forest
  seen_side inner None = Empty
  seen_side inner (Some side) = side_view inner (side_of side)

  -- what a scope shows, at most n scopes deep
  abbrev pub seen_within : Look P C Q V H T E L → ℕ → ℕ → Forest
  seen_within look zero s = Empty
  seen_within look (suc n) s = seen_side (λ t. seen_within look n t) (look_shown look s)

  -- the same as one word
  unfoldable pub scope_seen : Look P C Q V H T E L → ℕ → ℕ → Forest
  scope_seen look n s = seen_within look n s

  -- what the child scopes show, by who is asked
  abbrev pub seen_by : Asked P C Q V H T E L → ℕ → Forest
  seen_by (asks.Look look n) t = seen_within look.now n t
  seen_by (asks.Given given) t = given_to given.now t

  -- what a side shows
  unfoldable pub side_seen : Asked P C Q V H T E L → Side P C Q V H T E L → Forest
  side_seen asked side = side_view (λ t. seen_by asked t) (side_of side)

  -- what the child scope at a place of a side shows
  unfoldable pub child_seen : Asked P C Q V H T E L → Side P C Q V H T E L → Place → Forest
  child_seen asked side place = child_view (λ t. seen_by asked t) (child_in side place)

  -- what a tree of a side shows
  unfoldable pub tree_seen : Asked P C Q V H T E L → Side P C Q V H T E L → VNode P C Q V H T E L → Place → Forest
  tree_seen asked side tree above = tree_view (side_of side) (λ t. seen_by asked t) above (tree_of tree)

  -- what stands in a slot shows
  unfoldable pub value_seen : Asked P C Q V H T E L → Side P C Q V H T E L → DynamicNode P C Q V H T E L → Place → Forest
  value_seen asked side value place = slot_view (side_of side) (λ t. seen_by asked t) (slot_of value) place

  -- what a fragment's items show, the i-th after the first one and those after it
  abbrev pub items_seen : Asked P C Q V H T E L → Side P C Q V H T E L → ℕ → ℕ → Place → List (VNode P C Q V H T E L) → Forest
  items_seen asked side first i place [] = Empty
  items_seen asked side first i place (tree ∷ trees) =
      join_rows (tree_seen asked side tree (place ++ item (first + i) ∷ [])) (items_seen asked side first (i + 1) place trees)

  -- what a node of a tree's template shows
  unfoldable pub node_seen : Asked P C Q V H T E L → Side P C Q V H T E L → VNode P C Q V H T E L → Place → List ℕ → ℕ → TemplateNode
      → Forest
  node_seen asked side tree above up i node =
      nodes_view (side_of side).numbers (template_of tree.template) above (map (map attribute_of) tree.dynamic_attrs)
      (λ k place. slots_view (side_of side) (λ t. seen_by asked t) (slots_from (map slot_of tree.dynamic_nodes)) k place)
      up i (node_before node no_nodes)

  -- what a row of nodes shows
  abbrev pub row_seen : Asked P C Q V H T E L → Side P C Q V H T E L → VNode P C Q V H T E L → Place → List ℕ → ℕ → List TemplateNode
      → Forest
  row_seen asked side tree above up i [] = Empty
  row_seen asked side tree above up i (node ∷ nodes) =
      join_rows (node_seen asked side tree above up i node) (row_seen asked side tree above up (i + 1) nodes)

  -- a tree of a shown side
  abbrev pub tree_in : Shown P C Q V H T E L → VNode P C Q V H T E L → Place → Forest
  tree_in shown tree above = tree_seen shown.asked shown.side.now tree above

  -- what stands in a slot of a shown side
  abbrev pub value_in : Shown P C Q V H T E L → DynamicNode P C Q V H T E L → Place → Forest
  value_in shown value place = value_seen shown.asked shown.side.now value place

  -- items of a fragment of a shown side
  abbrev pub items_in : Shown P C Q V H T E L → ℕ → Place → List (VNode P C Q V H T E L) → Forest
  items_in shown first place trees = items_seen shown.asked shown.side.now first 0 place trees

  -- a node of a tree that stands on a shown side
  abbrev pub node_in : Standing P C Q V H T E L → List ℕ → ℕ → TemplateNode → Forest
  node_in standing up i node =
      node_seen (standing.shown.now).asked (standing.shown.now).side.now standing.tree.now
      (place_on standing.above.now) up i node

  -- a row of nodes of it
  abbrev pub row_in : Standing P C Q V H T E L → List ℕ → ℕ → List TemplateNode → Forest
  row_in standing up i nodes =
      row_seen (standing.shown.now).asked (standing.shown.now).side.now standing.tree.now
      (place_on standing.above.now) up i nodes
