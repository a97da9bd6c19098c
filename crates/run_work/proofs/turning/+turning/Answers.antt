-- All of a tree is met part by part, each node and item after the others.
use Rattle.std.proofs.Common.{◌∙◌, ◌+◌, [], ◌∷◌, ◌++◌, drop, refl, sym, ap}
use Rattle.std.proofs.lemmas.Bool.{true≢false}
use Rattle.std.proofs.lemmas.Result.{on_ok_weaker}
use Rattle.rt_model.specs.Tree.{an_element, an_empty_fragment, a_placeholder, a_static_text, a_text}
use Rattle.tree_mirror.specs.Sealed.{component_of, template_of}
use Rattle.run_places.specs.declared.trail.Path.TheVariants.{Top}
use Rattle.run_places.specs.Places.{at_path, place_of}
use Rattle.run_places.specs.Trails.{path_of, place_on}
use Rattle.run_places.proofs.Trails.{on_At, on_Inside, on_Item, path_Below, path_Top}
use Rattle.run_work.specs.Grounds.{component_turns, items_turn, node_turn, node_turns, row_turn, tree_turn, value_turn}
use Rattle.run_work.proofs.Following.{all_met, follows_both, one_more, told, told_of}
use Rattle.run_work.proofs.Turns.{items_over, items_parts, node_Element, node_Slot, node_Text, node_no_Slot, row_over, row_parts, tree_row, value_Component, value_Placeholder, value_Text, value_none, value_some}
use Rattle.run_work.proofs.turning.+turning.Goals as goal

pub tree_turns-returns-in_ok-steps-in-Comes : goal.tree_turns-returns-in_ok-steps-in-Comes
tree_turns-returns-in_ok-steps-in-Comes g t c =
    let one = g.T.Takes.one in
    on_ok_weaker c.nodes_turn.result
    (
    λ h.
    told one _ (tree_turn c.args.turn (place_on c.args.above.now) c.args.tree.now) c.args.out.now c.nodes_turn.new.out
    (told_of one (λ p. row_turn c.args.turn c.args.tree.now p (path_of Top) 0 c.roots-nodes.result.now) _ (place_on c.args.above.now) c.args.out.now c.nodes_turn.new.out
    h (on_At _ ∙ ap place_of c.in_ok-steps-in-Comes.ensures))
    ((λ m. row_turn c.args.turn c.args.tree.now (place_on c.args.above.now) (path_Top m) 0 (c.roots-nodes.ensures.nodes m))
    ∙ sym (tree_row c.args.turn c.args.tree.now (place_on c.args.above.now)))
    )
    c.nodes_turn.ensures

pub tree_turns-returns-in-Goes : goal.tree_turns-returns-in-Goes
tree_turns-returns-in-Goes g t c =
    let one = g.T.Takes.one in
    on_ok_weaker c.nodes_turn-in-Goes.result
    (
    λ h.
    told one _ (tree_turn c.args.turn (place_on c.args.above.now) c.args.tree.now) c.args.out.now c.nodes_turn-in-Goes.new.out
    h ((λ m. row_turn c.args.turn c.args.tree.now (place_on c.args.above.now) (path_Top m) 0 (c.roots-nodes.ensures.nodes m))
    ∙ sym (tree_row c.args.turn c.args.tree.now (place_on c.args.above.now)))
    )
    c.nodes_turn-in-Goes.ensures

pub nodes_turn-loop-index-init : goal.nodes_turn-loop-index-init
nodes_turn-loop-index-init g t c = λ end h. h

pub nodes_turn-loop-index-preserved : goal.nodes_turn-loop-index-preserved
nodes_turn-loop-index-preserved g t c =
    let turn = c.args.turn in
    let tree = c.args.tree.now in
    let above = place_on c.args.above.now in
    let up = path_of c.args.up.now in
    let row = c.args.nodes.now in
    let i = c.loop-index.index in
    one_more g.T.Takes.one (node_turn turn tree above up i c.index-nodes-index.result) (row_turn turn tree above up (i + 1) (drop (i + 1) row)) (row_turn turn tree above up i (drop i row)) (row_turn turn tree above up 0 row)
    c.args.out.now c.loop-index.out c.node_turns.new.out
    (row_parts turn tree above up row i c.index-nodes-index.result c.loop-index-test.true c.index-nodes-index.is)
    c.loop-index.invariant c.in_ok-node_turns.ensures

pub nodes_turn-returns : goal.nodes_turn-returns
nodes_turn-returns g t c =
    let turn = c.args.turn in
    let tree = c.args.tree.now in
    let above = place_on c.args.above.now in
    let up = path_of c.args.up.now in
    let row = c.args.nodes.now in
    let i = c.loop-index.index in
    all_met g.T.Takes.one (row_turn turn tree above up i (drop i row)) (row_turn turn tree above up 0 row) c.args.out.now c.loop-index.out
    (row_over turn tree above up row i c.loop-index-test.false) c.loop-index.invariant

pub node_turns-returns-in_ok-turn_node-in-Element : goal.node_turns-returns-in_ok-turn_node-in-Element
node_turns-returns-in_ok-turn_node-in-Element g t c =
    let one = g.T.Takes.one in
    let n = c.in-Element in
    let turn = c.args.turn in
    let tree = c.args.tree.now in
    let above = place_on c.args.above.now in
    let up = path_of c.args.up.now in
    let before = c.args.out.now in
    let mid = c.turn_node.new.out in
    let place = at_path (template_of tree.template) above (up ++ c.args.index ∷ []) in
    on_ok_weaker c.nodes_turn.result
    (
    λ h.
    told one (node_turns turn place an_element ∷ row_turn turn tree above (up ++ c.args.index ∷ []) 0 n.children) (node_turn turn tree above up c.args.index c.args.node.now) before c.nodes_turn.new.out
    (
    follows_both one (node_turns turn place an_element ∷ []) (row_turn turn tree above (up ++ c.args.index ∷ []) 0 n.children) before mid c.nodes_turn.new.out
    (told_of one (λ p. node_turns turn p an_element ∷ []) _ place before mid
    c.in_ok-turn_node-in-Element.ensures (on_Inside _ _ _ ∙ ap (λ q. at_path (template_of tree.template) above q) (path_Below _ _)))
    (told_of one (λ ns. row_turn turn tree above (up ++ c.args.index ∷ []) 0 ns) c.as_slice-nodes.result.now n.children mid c.nodes_turn.new.out (told_of one (λ q. row_turn turn tree above q 0 c.as_slice-nodes.result.now) _ (up ++ c.args.index ∷ []) mid c.nodes_turn.new.out h (path_Below _ _))
    c.as_slice-nodes.ensures.items)
    )
    (sym (ap (λ x. node_turn turn tree above up c.args.index x) n.is ∙ node_Element turn tree above up c.args.index n.tag n.namespace n.attrs n.children))
    )
    c.nodes_turn.ensures

pub node_turns-returns-in-Text : goal.node_turns-returns-in-Text
node_turns-returns-in-Text g t c =
    let one = g.T.Takes.one in
    let n = c.in-Text in
    let turn = c.args.turn in
    let tree = c.args.tree.now in
    let above = place_on c.args.above.now in
    let up = path_of c.args.up.now in
    let place = at_path (template_of tree.template) above (up ++ c.args.index ∷ []) in
    on_ok_weaker c.turn_node-in-Text.result
    (
    λ h.
    told one (node_turns turn place a_static_text ∷ []) (node_turn turn tree above up c.args.index c.args.node.now) c.args.out.now c.turn_node-in-Text.new.out
    (told_of one (λ p. node_turns turn p a_static_text ∷ []) _ place c.args.out.now c.turn_node-in-Text.new.out
    h (on_Inside _ _ _ ∙ ap (λ q. at_path (template_of tree.template) above q) (path_Below _ _)))
    (sym (ap (λ x. node_turn turn tree above up c.args.index x) n.is ∙ node_Text turn tree above up c.args.index n.text))
    )
    c.turn_node-in-Text.ensures

pub node_turns-returns-in-Some : goal.node_turns-returns-in-Some
node_turns-returns-in-Some g t c =
    let one = g.T.Takes.one in
    let n = c.in-Dynamic in
    let turn = c.args.turn in
    let tree = c.args.tree.now in
    let above = place_on c.args.above.now in
    let up = path_of c.args.up.now in
    let place = at_path (template_of tree.template) above (up ++ c.args.index ∷ []) in
    on_ok_weaker c.value_turns.result
    (
    λ h.
    told one (value_turn turn c.in-Some.value.now place) (node_turn turn tree above up c.args.index c.args.node.now) c.args.out.now c.value_turns.new.out
    (told_of one (λ p. value_turn turn c.in-Some.value.now p) _ place c.args.out.now c.value_turns.new.out
    h (on_Inside _ _ _ ∙ ap (λ q. at_path (template_of tree.template) above q) (path_Below _ _)))
    (sym (ap (λ x. node_turn turn tree above up c.args.index x) n.is ∙ node_Slot turn tree above up c.args.index n.id c.in-Some.value.now (sym c.in-Some.ensures.item)))
    )
    c.value_turns.ensures

pub node_turns-returns-in-None : goal.node_turns-returns-in-None
node_turns-returns-in-None g t c =
    let n = c.in-Dynamic in
    let turn = c.args.turn in
    let tree = c.args.tree.now in
    let above = place_on c.args.above.now in
    let up = path_of c.args.up.now in
    told g.T.Takes.one [] (node_turn turn tree above up c.args.index c.args.node.now) c.args.out.now c.args.out.now
    refl (sym (ap (λ x. node_turn turn tree above up c.args.index x) n.is ∙ node_no_Slot turn tree above up c.args.index n.id (sym c.in-None.ensures.item)))

pub value_turns-returns-in-Text : goal.value_turns-returns-in-Text
value_turns-returns-in-Text g t c =
    let place = place_on c.args.trail.now in
    on_ok_weaker c.turn_node.result
    (λ w. told g.T.Takes.one (node_turns c.args.turn place a_text ∷ []) (value_turn c.args.turn c.args.value.now place) c.args.out.now c.turn_node.new.out
    w (sym (ap (λ v. value_turn c.args.turn v place) c.in-Text.is ∙ value_Text _ c.args.turn _ place)))
    c.turn_node.ensures

pub value_turns-returns-in-Placeholder : goal.value_turns-returns-in-Placeholder
value_turns-returns-in-Placeholder g t c =
    let place = place_on c.args.trail.now in
    on_ok_weaker c.turn_node-in-Placeholder.result
    (λ w. told g.T.Takes.one (node_turns c.args.turn place a_placeholder ∷ []) (value_turn c.args.turn c.args.value.now place) c.args.out.now c.turn_node-in-Placeholder.new.out
    w (sym (ap (λ v. value_turn c.args.turn v place) c.in-Placeholder.is ∙ value_Placeholder _ c.args.turn place)))
    c.turn_node-in-Placeholder.ensures

pub value_turns-returns-in-Component : goal.value_turns-returns-in-Component
value_turns-returns-in-Component g t c =
    let place = place_on c.args.trail.now in
    on_ok_weaker c.turn_component.result
    (λ w. told g.T.Takes.one (component_turns c.args.turn place (component_of c.in-Component.component) ∷ []) (value_turn c.args.turn c.args.value.now place) c.args.out.now c.turn_component.new.out
    w (sym (ap (λ v. value_turn c.args.turn v place) c.in-Component.is ∙ value_Component c.args.turn _ place)))
    c.turn_component.ensures

pub value_turns-returns-then-is_empty : goal.value_turns-returns-then-is_empty
value_turns-returns-then-is_empty g t c =
    let place = place_on c.args.trail.now in
    on_ok_weaker c.turn_node-then-is_empty.result
    (λ w. told g.T.Takes.one (node_turns c.args.turn place an_empty_fragment ∷ []) (value_turn c.args.turn c.args.value.now place) c.args.out.now c.turn_node-then-is_empty.new.out
    w (sym (ap (λ v. value_turn c.args.turn v place) c.in-Fragment.is ∙ value_none c.args.turn _ place (c.is_empty.ensures.empty.0 c.if-is_empty.true))))
    c.turn_node-then-is_empty.ensures

pub value_turns-returns-else-is_empty : goal.value_turns-returns-else-is_empty
value_turns-returns-else-is_empty g t c =
    let place = place_on c.args.trail.now in
    on_ok_weaker c.trees_turn.result
    (
    λ h.
    told g.T.Takes.one (items_turn c.args.turn 0 place c.in-Fragment.trees) (value_turn c.args.turn c.args.value.now place) c.args.out.now c.trees_turn.new.out
    (told_of g.T.Takes.one (λ ts. items_turn c.args.turn 0 place ts) _ c.in-Fragment.trees c.args.out.now c.trees_turn.new.out h c.as_slice.ensures.items)
    (sym (ap (λ v. value_turn c.args.turn v place) c.in-Fragment.is ∙ value_some c.args.turn _ place (λ none. true≢false (sym (c.is_empty.ensures.empty.1 none) ∙ c.if-is_empty.false))))
    )
    c.trees_turn.ensures

pub trees_turn-loop-position-init : goal.trees_turn-loop-position-init
trees_turn-loop-position-init g t c = λ end h. h

pub trees_turn-loop-position-preserved : goal.trees_turn-loop-position-preserved
trees_turn-loop-position-preserved g t c =
    let turn = c.args.turn in
    let place = place_on c.args.trail.now in
    let trees = c.args.trees.now in
    let i = c.loop-position.position in
    one_more g.T.Takes.one (tree_turn turn _ c.index-trees-position.result) (items_turn turn (i + 1) place (drop (i + 1) trees)) (items_turn turn i place (drop i trees)) (items_turn turn c.args.first place (drop c.args.first trees))
    c.args.out.now c.loop-position.out c.tree_turns.new.out
    (items_parts turn place _ trees i c.index-trees-position.result c.loop-position-test.true c.index-trees-position.is (on_Item _ _))
    c.loop-position.invariant c.in_ok-tree_turns.ensures

pub trees_turn-returns : goal.trees_turn-returns
trees_turn-returns g t c =
    let turn = c.args.turn in
    let place = place_on c.args.trail.now in
    let trees = c.args.trees.now in
    let i = c.loop-position.position in
    all_met g.T.Takes.one (items_turn turn i place (drop i trees)) (items_turn turn c.args.first place (drop c.args.first trees)) c.args.out.now c.loop-position.out
    (items_over turn place trees i c.loop-position-test.false) c.loop-position.invariant
