-- The marks of an old tree and a new one, part by part, whatever the application.
use Rattle.std.specs.Prelude.{ℕ, ◌+◌, List, [], ◌∷◌, ◌++◌, map, Option, Some, None}
use Rattle.tree_nodes.specs.declared.vnode.VNode.{VNode}
use Rattle.tree_nodes.specs.declared.vnode.DynamicNode.{DynamicNode}
use Rattle.tree_nodes.specs.declared.template.TemplateNode.{TemplateNode}
use Rattle.rt_model.specs.OneLog.{types}
use Rattle.rt_model.specs.World.{Application}
use Rattle.rt_model.specs.Tree.{Place, no_nodes}
use Rattle.tree_mirror.specs.Mirror.{slots_from, trees_from}
use Rattle.tree_mirror.specs.Sealed.{node_before, slot_of, template_of, tree_of}
use Rattle.tree_marks.specs.Marks.{Mark, stays, slot_goes, tree_goes, slot_way, tree_way, lone, template_marks, tree_marks, slots_marks, slot_marks, items_marks}
use Rattle.run_work.specs.declared.turning.Turn.TheVariants as turns
use Rattle.run_work.specs.Grounds.{tree_turn, value_turn}

module _ {P C Q V H T E L : Type 0} where
  -- what stood in a slot goes, and what stands there now comes
  abbrev pub slot_change : DynamicNode P C Q V H T E L → DynamicNode P C Q V H T E L → Place → List (Mark (types C Q V H T E L))
  slot_change old new place =
      slot_goes place (slot_of old)
      ∷
      (value_turn turns.Goes old place ++ value_turn turns.Comes new place)
      ++
      slot_way place (slot_of new) (slot_of old)
      ∷
      []

  -- all of a tree goes, and another one comes in its place
  abbrev pub tree_change : VNode P C Q V H T E L → VNode P C Q V H T E L → Place → List (Mark (types C Q V H T E L))
  tree_change old new above =
      tree_goes above (tree_of old)
      ∷
      (tree_turn turns.Goes above old ++ tree_turn turns.Comes above new)
      ++
      tree_way above (tree_of new) (tree_of old)
      ∷
      []

  module _ (app : Application (types C Q V H T E L)) where
    -- two trees at a place
    unfoldable pub tree_pair : VNode P C Q V H T E L → VNode P C Q V H T E L → Place → List (Mark (types C Q V H T E L))
    tree_pair old new above = tree_marks app above (tree_of new) (tree_of old)

    -- what stands in a slot of both trees
    unfoldable pub values_pair : DynamicNode P C Q V H T E L → DynamicNode P C Q V H T E L → Place → List (Mark (types C Q V H T E L))
    values_pair old new place = slot_marks app place (slot_of new) (slot_of old)

    -- what stands in a slot of one of the trees or of both
    abbrev pub slot_pair : Option (DynamicNode P C Q V H T E L) → Option (DynamicNode P C Q V H T E L) → Place
        → List (Mark (types C Q V H T E L))
    slot_pair (Some old) (Some new) place = values_pair old new place
    slot_pair (Some old) None place = value_turn turns.Goes old place
    slot_pair None (Some new) place = value_turn turns.Comes new place ++ lone place (slot_of new) ∷ []
    slot_pair None None place = []

    -- the items of two fragments from a position on, with the new ones in front of them
    unfoldable pub items_pair : ℕ → Place → List (VNode P C Q V H T E L) → List (VNode P C Q V H T E L) → List (VNode P C Q V H T E L)
        → List (Mark (types C Q V H T E L))
    items_pair i place front old new =
        items_marks app place i (map tree_of front) (trees_from (map tree_of new)) (trees_from (map tree_of old))

    -- a node of the template that two trees have
    unfoldable pub node_pair : VNode P C Q V H T E L → VNode P C Q V H T E L → Place → List ℕ → ℕ → TemplateNode
        → List (Mark (types C Q V H T E L))
    node_pair old new above up i node =
        template_marks (λ p k. stays p k) (template_of new.template) above
        (λ k place. slots_marks app (slots_from (map slot_of new.dynamic_nodes)) (slots_from (map slot_of old.dynamic_nodes)) k place)
        up i (node_before node no_nodes)

    -- a row of nodes of it
    abbrev pub row_pair : VNode P C Q V H T E L → VNode P C Q V H T E L → Place → List ℕ → ℕ → List TemplateNode
        → List (Mark (types C Q V H T E L))
    row_pair old new above up i [] = []
    row_pair old new above up i (node ∷ nodes) = node_pair old new above up i node ++ row_pair old new above up (i + 1) nodes
