-- Two trees are met part by part, each node, slot and item after the others.
use Rattle.std.proofs.Common.{◌≡◌, ◌∙◌, ◌+◌, ◌≤◌, ◌<◌, [], ◌∷◌, ◌++◌, length, take, drop, refl, sym, ap, arith}
use Rattle.std.proofs.lemmas.Bool.{true≢false}
use Rattle.std.proofs.lemmas.Result.{on_ok_weaker}
use Rattle.std.specs.Option.{option_copied}
use Rattle.rt_model.specs.Tree.{an_element, an_empty_fragment, a_placeholder, a_static_text, a_text}
use Rattle.tree_nodes.specs.declared.vnode.DynamicNode.TheVariants as values
use Rattle.tree_mirror.specs.Sealed.{component_of, slot_of, template_of}
use Rattle.tree_marks.specs.Marks.{stays, fed, worded, lone}
use Rattle.run_places.specs.Places.{at_path}
use Rattle.run_places.specs.Trails.{path_of, place_on}
use Rattle.run_places.proofs.Trails.{on_Inside, on_Item, path_Below, path_Top}
use Rattle.run_work.specs.declared.turning.Turn.TheVariants as turns
use Rattle.run_work.specs.Grounds.{items_turn, value_turn}
use Rattle.run_work.specs.Met.{items_in, template_gives}
use Rattle.run_work.specs.Pairs.{items_pair, node_pair, row_pair, slot_change, slot_pair, tree_change, tree_pair, values_pair}
use Rattle.run_work.proofs.Following.{follows_both, meets_all, meets_first, meets_more, meets_told, met, met_of, told_of}
use Rattle.run_work.proofs.PairRules.{both_Placeholder, both_Text, both_none, both_some, component_changes, component_fragment, component_placeholder, component_stays, component_text, fragment_component, fragment_placeholder, fragment_text, gave_way, gives_way, items_came, items_gone, items_met, items_parts, node_Element, node_Slot, node_Text, none_there, placeholder_component, placeholder_fragment, placeholder_text, row_over, row_parts, some_come, some_gone, some_there, text_component, text_fragment, text_placeholder, tree_apart, tree_same}
use Rattle.run_work.proofs.pairing.+pairing.Goals as goal

pub pair_tree-returns-then-not-same : goal.pair_tree-returns-then-not-same
pair_tree-returns-then-not-same g t c =
    let old = c.args.old.now in
    let new = c.args.new.now in
    let above = place_on c.args.above.now in
    on_ok_weaker c.change_tree.result
    (λ h. (tree_change old new above, h, λ app tests. sym (tree_apart app old new above (λ same. true≢false (sym (c.same.ensures.1 same) ∙ c.if-not-same.true)))))
    c.change_tree.ensures

pub pair_tree-returns : goal.pair_tree-returns
pair_tree-returns g t c =
    let one = g.T.Takes.one in
    let old = c.args.old.now in
    let new = c.args.new.now in
    let above = place_on c.args.above.now in
    let mid = c.give.new.self in
    let last = c.pair_nodes.new.out in
    on_ok_weaker c.pair_nodes.result
    (
    λ w.
    meets_told one (λ app. template_gives above new old ∷ row_pair app old new above [] 0 new.template.roots) (λ app. tree_pair app old new above) c.args.out.now last
    (
    meets_first one (template_gives above new old) (λ app. row_pair app old new above [] 0 new.template.roots) c.args.out.now mid last c.in_ok-give.ensures.taken
    (meets_told one _ (λ app. row_pair app old new above [] 0 new.template.roots) mid last w (λ app tests m. row_pair app old new above (path_Top m) 0 (c.roots-nodes.ensures.nodes m)))
    )
    (λ app tests. sym (tree_same app old new above (c.same.ensures.0 c.if-not-same.false)))
    )
    c.pair_nodes.ensures

pub pair_nodes-loop-index-init : goal.pair_nodes-loop-index-init
pair_nodes-loop-index-init g t c = λ end h. h

pub pair_nodes-loop-index-preserved : goal.pair_nodes-loop-index-preserved
pair_nodes-loop-index-preserved g t c =
    let old = c.args.old.now in
    let new = c.args.new.now in
    let above = place_on c.args.above.now in
    let up = path_of c.args.up.now in
    let row = c.args.nodes.now in
    let i = c.loop-index.index in
    let node = c.index-nodes-index.result in
    meets_more g.T.Takes.one (λ app. node_pair app old new above up i node) (λ app. row_pair app old new above up (i + 1) (drop (i + 1) row)) (λ app. row_pair app old new above up i (drop i row)) (λ app. row_pair app old new above up 0 row)
    c.args.out.now c.loop-index.out c.pair_node.new.out
    (λ app. row_parts app old new above up row i node c.loop-index-test.true c.index-nodes-index.is)
    c.loop-index.invariant c.in_ok-pair_node.ensures

pub pair_nodes-returns : goal.pair_nodes-returns
pair_nodes-returns g t c =
    let old = c.args.old.now in
    let new = c.args.new.now in
    let above = place_on c.args.above.now in
    let up = path_of c.args.up.now in
    let row = c.args.nodes.now in
    let i = c.loop-index.index in
    meets_all g.T.Takes.one (λ app. row_pair app old new above up i (drop i row)) (λ app. row_pair app old new above up 0 row) c.args.out.now c.loop-index.out
    (λ app. row_over app old new above up row i c.loop-index-test.false) c.loop-index.invariant

-- one node of it: where the walk stands is its place
pub pair_node-returns-in_ok-stay-in-Element : goal.pair_node-returns-in_ok-stay-in-Element
pair_node-returns-in_ok-stay-in-Element g t c =
    let one = g.T.Takes.one in
    let n = c.in-Element in
    let old = c.args.old.now in
    let new = c.args.new.now in
    let above = place_on c.args.above.now in
    let up = path_of c.args.up.now in
    let place = at_path (template_of new.template) above (up ++ c.args.index ∷ []) in
    let before = c.args.out.now in
    let mid = c.stay.new.self in
    let last = c.pair_nodes.new.out in
    on_ok_weaker c.pair_nodes.result
    (
    λ w.
    meets_told one (λ app. stays place an_element ∷ row_pair app old new above (up ++ c.args.index ∷ []) 0 n.children) (λ app. node_pair app old new above up c.args.index c.args.node.now) before last
    (
    meets_first one (stays place an_element) (λ app. row_pair app old new above (up ++ c.args.index ∷ []) 0 n.children) before mid last
    (met_of one (λ p. stays p an_element) _ place before mid c.in_ok-stay-in-Element.ensures.taken (on_Inside _ _ _ ∙ ap (λ q. at_path (template_of new.template) above q) (path_Below _ _)))
    (
    meets_told one (λ app. row_pair app old new above _ 0 c.as_slice-nodes.result.now) (λ app. row_pair app old new above (up ++ c.args.index ∷ []) 0 n.children) mid last
    w (λ app tests. ap (λ q. row_pair app old new above q 0 c.as_slice-nodes.result.now) (path_Below _ _) ∙ ap (λ ns. row_pair app old new above (up ++ c.args.index ∷ []) 0 ns) c.as_slice-nodes.ensures.items)
    )
    )
    (λ app tests. sym (ap (λ x. node_pair app old new above up c.args.index x) n.is ∙ node_Element app old new above up c.args.index n.tag n.namespace n.attrs n.children))
    )
    c.pair_nodes.ensures

pub pair_node-returns-in-Text : goal.pair_node-returns-in-Text
pair_node-returns-in-Text g t c =
    let one = g.T.Takes.one in
    let n = c.in-Text in
    let old = c.args.old.now in
    let new = c.args.new.now in
    let above = place_on c.args.above.now in
    let up = path_of c.args.up.now in
    let place = at_path (template_of new.template) above (up ++ c.args.index ∷ []) in
    let last = c.stay-in-Text.new.self in
    on_ok_weaker c.stay-in-Text.result
    (
    λ h. (
      stays place a_static_text ∷ [],
      met one (stays place a_static_text) c.args.out.now last
          (met_of one (λ p. stays p a_static_text) _ place c.args.out.now last h (on_Inside _ _ _ ∙ ap (λ q. at_path (template_of new.template) above q) (path_Below _ _))),
      λ app tests. sym (ap (λ x. node_pair app old new above up c.args.index x) n.is ∙ node_Text app old new above up c.args.index n.text),
    )
    )
    c.stay-in-Text.ensures.taken

pub pair_node-returns-in-Dynamic : goal.pair_node-returns-in-Dynamic
pair_node-returns-in-Dynamic g t c =
    let one = g.T.Takes.one in
    let n = c.in-Dynamic in
    let old = c.args.old.now in
    let new = c.args.new.now in
    let above = place_on c.args.above.now in
    let up = path_of c.args.up.now in
    let place = at_path (template_of new.template) above (up ++ c.args.index ∷ []) in
    on_ok_weaker c.pair_slot.result
    (
    λ w.
    meets_told one (λ app. slot_pair app (option_copied c.get-was.result) (option_copied c.get-next.result) _) (λ app. node_pair app old new above up c.args.index c.args.node.now) c.args.out.now c.pair_slot.new.out
    w
    (
    λ app tests.
    ap (λ p. slot_pair app (option_copied c.get-was.result) (option_copied c.get-next.result) p) (on_Inside _ _ _ ∙ ap (λ q. at_path (template_of new.template) above q) (path_Below _ _))
    ∙ (λ m. slot_pair app (c.get-was.ensures.item m) (c.get-next.ensures.item m) place)
    ∙ sym (ap (λ x. node_pair app old new above up c.args.index x) n.is ∙ node_Slot app old new above up c.args.index n.id)
    )
    )
    c.pair_slot.ensures

pub pair_slot-returns-in-Some-new : goal.pair_slot-returns-in-Some-new
pair_slot-returns-in-Some-new g t c =
    let place = place_on c.args.trail.now in
    on_ok_weaker c.pair_values.result
    (λ w. meets_told g.T.Takes.one (λ app. values_pair app c.in-Some.old.now c.in-Some-new.new.now place) (λ app. slot_pair app (option_copied c.args.old) (option_copied c.args.new) place) c.args.out.now c.pair_values.new.out
    w (λ app tests. sym (λ m. slot_pair app (option_copied (c.in-Some.is m)) (option_copied (c.in-Some-new.is m)) place)))
    c.pair_values.ensures

pub pair_slot-returns-in-None-new : goal.pair_slot-returns-in-None-new
pair_slot-returns-in-None-new g t c =
    let place = place_on c.args.trail.now in
    on_ok_weaker c.value_turns.result
    (λ h. (value_turn turns.Goes c.in-Some.old.now place, h, λ app tests. sym (λ m. slot_pair app (option_copied (c.in-Some.is m)) (option_copied (c.in-None-new.is m)) place)))
    c.value_turns.ensures

pub pair_slot-returns-in_ok-value_turns-in-Some-new-2 : goal.pair_slot-returns-in_ok-value_turns-in-Some-new-2
pair_slot-returns-in_ok-value_turns-in-Some-new-2 g t c =
    let place = place_on c.args.trail.now in
    let new = c.in-Some-new-2.new.now in
    let before = c.args.out.now in
    let mid = c.value_turns-in-Some-new-2.new.out in
    let last = c.alone.new.self in
    on_ok_weaker c.alone.result
    (
    λ h. (
      value_turn turns.Comes new place ++ lone place (slot_of new) ∷ [],
      follows_both g.T.Takes.one (value_turn turns.Comes new place) (lone place (slot_of new) ∷ []) before mid last c.in_ok-value_turns-in-Some-new-2.ensures
          (met g.T.Takes.one (lone place (slot_of new)) mid last h),
      λ app tests. sym (λ m. slot_pair app (option_copied (c.in-None.is m)) (option_copied (c.in-Some-new-2.is m)) place),
    )
    )
    c.alone.ensures.taken

pub pair_slot-returns-in-None-new-2 : goal.pair_slot-returns-in-None-new-2
pair_slot-returns-in-None-new-2 g t c = ([], refl, λ app tests. sym (λ m. slot_pair app (option_copied (c.in-None.is m)) (option_copied (c.in-None-new-2.is m)) (place_on c.args.trail.now)))

-- what stands in a slot of both: what is of another kind gives way
pub pair_values-returns-in_ok-stay-in-Text-new : goal.pair_values-returns-in_ok-stay-in-Text-new
pair_values-returns-in_ok-stay-in-Text-new g t c =
    let one = g.T.Takes.one in
    let place = place_on c.args.trail.now in
    let was = c.in-Text.was in
    let next = c.in-Text-new.next in
    on_ok_weaker c.word.result
    (
    λ h. (
      stays place a_text ∷ worded place next was ∷ [],
      (c.stay.new.self, c.in_ok-stay-in-Text-new.ensures.taken, met one (worded place next was) c.stay.new.self c.word.new.self h),
      λ app tests. sym ((λ m. values_pair app (c.in-Text.is m) (c.in-Text-new.is m) place) ∙ both_Text _ app _ _ place),
    )
    )
    c.word.ensures.taken

pub pair_values-returns-in-Placeholder-new : goal.pair_values-returns-in-Placeholder-new
pair_values-returns-in-Placeholder-new g t c =
    on_ok_weaker c.change_slot.result (gave_way g.T.Takes.one c.args.old.now c.args.new.now _ _ (place_on c.args.trail.now) c.args.out.now c.change_slot.new.out c.in-Text.is c.in-Placeholder-new.is (λ app. text_placeholder _ app _ (place_on c.args.trail.now))) c.change_slot.ensures

pub pair_values-returns-in-Component-new : goal.pair_values-returns-in-Component-new
pair_values-returns-in-Component-new g t c =
    on_ok_weaker c.change_slot-in-Component-new.result (gave_way g.T.Takes.one c.args.old.now c.args.new.now _ _ (place_on c.args.trail.now) c.args.out.now c.change_slot-in-Component-new.new.out c.in-Text.is c.in-Component-new.is (λ app. text_component app _ _ (place_on c.args.trail.now))) c.change_slot-in-Component-new.ensures

pub pair_values-returns-in-Fragment-new : goal.pair_values-returns-in-Fragment-new
pair_values-returns-in-Fragment-new g t c =
    on_ok_weaker c.change_slot-in-Fragment-new.result (gave_way g.T.Takes.one c.args.old.now c.args.new.now _ _ (place_on c.args.trail.now) c.args.out.now c.change_slot-in-Fragment-new.new.out c.in-Text.is c.in-Fragment-new.is (λ app. text_fragment app _ _ (place_on c.args.trail.now))) c.change_slot-in-Fragment-new.ensures

pub pair_values-returns-in-Text-new-2 : goal.pair_values-returns-in-Text-new-2
pair_values-returns-in-Text-new-2 g t c =
    on_ok_weaker c.change_slot-in-Text-new-2.result (gave_way g.T.Takes.one c.args.old.now c.args.new.now _ _ (place_on c.args.trail.now) c.args.out.now c.change_slot-in-Text-new-2.new.out c.in-Placeholder.is c.in-Text-new-2.is (λ app. placeholder_text _ app _ (place_on c.args.trail.now))) c.change_slot-in-Text-new-2.ensures

pub pair_values-returns-in-Placeholder-new-2 : goal.pair_values-returns-in-Placeholder-new-2
pair_values-returns-in-Placeholder-new-2 g t c =
    let place = place_on c.args.trail.now in
    let last = c.stay-in-Placeholder-new-2.new.self in
    on_ok_weaker c.stay-in-Placeholder-new-2.result
    (λ h. (stays place a_placeholder ∷ [], met g.T.Takes.one (stays place a_placeholder) c.args.out.now last h, λ app tests. sym ((λ m. values_pair app (c.in-Placeholder.is m) (c.in-Placeholder-new-2.is m) place) ∙ both_Placeholder _ app place)))
    c.stay-in-Placeholder-new-2.ensures.taken

pub pair_values-returns-in-Component-new-2 : goal.pair_values-returns-in-Component-new-2
pair_values-returns-in-Component-new-2 g t c =
    on_ok_weaker c.change_slot-in-Component-new-2.result (gave_way g.T.Takes.one c.args.old.now c.args.new.now _ _ (place_on c.args.trail.now) c.args.out.now c.change_slot-in-Component-new-2.new.out c.in-Placeholder.is c.in-Component-new-2.is (λ app. placeholder_component app _ (place_on c.args.trail.now))) c.change_slot-in-Component-new-2.ensures

pub pair_values-returns-in-Fragment-new-2 : goal.pair_values-returns-in-Fragment-new-2
pair_values-returns-in-Fragment-new-2 g t c =
    on_ok_weaker c.change_slot-in-Fragment-new-2.result (gave_way g.T.Takes.one c.args.old.now c.args.new.now _ _ (place_on c.args.trail.now) c.args.out.now c.change_slot-in-Fragment-new-2.new.out c.in-Placeholder.is c.in-Fragment-new-2.is (λ app. placeholder_fragment app _ (place_on c.args.trail.now))) c.change_slot-in-Fragment-new-2.ensures

pub pair_values-returns-in-Text-new-3 : goal.pair_values-returns-in-Text-new-3
pair_values-returns-in-Text-new-3 g t c =
    on_ok_weaker c.change_slot-in-Text-new-3.result (gave_way g.T.Takes.one c.args.old.now c.args.new.now _ _ (place_on c.args.trail.now) c.args.out.now c.change_slot-in-Text-new-3.new.out c.in-Component.is c.in-Text-new-3.is (λ app. component_text app _ _ (place_on c.args.trail.now))) c.change_slot-in-Text-new-3.ensures

pub pair_values-returns-in-Placeholder-new-3 : goal.pair_values-returns-in-Placeholder-new-3
pair_values-returns-in-Placeholder-new-3 g t c =
    on_ok_weaker c.change_slot-in-Placeholder-new-3.result (gave_way g.T.Takes.one c.args.old.now c.args.new.now _ _ (place_on c.args.trail.now) c.args.out.now c.change_slot-in-Placeholder-new-3.new.out c.in-Component.is c.in-Placeholder-new-3.is (λ app. component_placeholder app _ (place_on c.args.trail.now))) c.change_slot-in-Placeholder-new-3.ensures

pub pair_values-returns-then-is_same_component : goal.pair_values-returns-then-is_same_component
pair_values-returns-then-is_same_component g t c =
    let place = place_on c.args.trail.now in
    let was = c.in-Component.was in
    let next = c.in-Component-new-3.next in
    on_ok_weaker c.feed.result
    (
    λ h. (
      fed place (component_of was) (component_of next) ∷ [],
      met g.T.Takes.one (fed place (component_of was) (component_of next)) c.args.out.now c.feed.new.self h,
      λ app tests.
          sym ((λ m. values_pair app (c.in-Component.is m) (c.in-Component-new-3.is m) place) ∙ component_stays app was next place (sym (c.is_same_component.ensures app tests) ∙ c.if-is_same_component.true)),
    )
    )
    c.feed.ensures.taken

pub pair_values-returns-else-is_same_component : goal.pair_values-returns-else-is_same_component
pair_values-returns-else-is_same_component g t c =
    let place = place_on c.args.trail.now in
    let was = c.in-Component.was in
    let next = c.in-Component-new-3.next in
    let old = c.args.old.now in
    let new = c.args.new.now in
    on_ok_weaker c.change_slot-in-Component-new-3.result
    (
    λ h. (
      slot_change old new place,
      h,
      λ app tests.
          sym (gives_way app old new _ _ place c.in-Component.is c.in-Component-new-3.is (component_changes app was next place (sym (c.is_same_component.ensures app tests) ∙ c.if-is_same_component.false))),
    )
    )
    c.change_slot-in-Component-new-3.ensures

pub pair_values-returns-in-Fragment-new-3 : goal.pair_values-returns-in-Fragment-new-3
pair_values-returns-in-Fragment-new-3 g t c =
    on_ok_weaker c.change_slot-in-Fragment-new-3.result (gave_way g.T.Takes.one c.args.old.now c.args.new.now _ _ (place_on c.args.trail.now) c.args.out.now c.change_slot-in-Fragment-new-3.new.out c.in-Component.is c.in-Fragment-new-3.is (λ app. component_fragment app _ _ (place_on c.args.trail.now))) c.change_slot-in-Fragment-new-3.ensures

pub pair_values-returns-in-Text-new-4 : goal.pair_values-returns-in-Text-new-4
pair_values-returns-in-Text-new-4 g t c =
    on_ok_weaker c.change_slot-in-Text-new-4.result (gave_way g.T.Takes.one c.args.old.now c.args.new.now _ _ (place_on c.args.trail.now) c.args.out.now c.change_slot-in-Text-new-4.new.out c.in-Fragment.is c.in-Text-new-4.is (λ app. fragment_text app _ _ (place_on c.args.trail.now))) c.change_slot-in-Text-new-4.ensures

pub pair_values-returns-in-Placeholder-new-4 : goal.pair_values-returns-in-Placeholder-new-4
pair_values-returns-in-Placeholder-new-4 g t c =
    on_ok_weaker c.change_slot-in-Placeholder-new-4.result (gave_way g.T.Takes.one c.args.old.now c.args.new.now _ _ (place_on c.args.trail.now) c.args.out.now c.change_slot-in-Placeholder-new-4.new.out c.in-Fragment.is c.in-Placeholder-new-4.is (λ app. fragment_placeholder app _ (place_on c.args.trail.now))) c.change_slot-in-Placeholder-new-4.ensures

pub pair_values-returns-in-Component-new-4 : goal.pair_values-returns-in-Component-new-4
pair_values-returns-in-Component-new-4 g t c =
    on_ok_weaker c.change_slot-in-Component-new-4.result (gave_way g.T.Takes.one c.args.old.now c.args.new.now _ _ (place_on c.args.trail.now) c.args.out.now c.change_slot-in-Component-new-4.new.out c.in-Fragment.is c.in-Component-new-4.is (λ app. fragment_component app _ _ (place_on c.args.trail.now))) c.change_slot-in-Component-new-4.ensures

pub pair_values-returns-in-Fragment-new-4 : goal.pair_values-returns-in-Fragment-new-4
pair_values-returns-in-Fragment-new-4 g t c =
    c.pair_fragments.ensures (c.in-Fragment.is ∙ ap (λ ts. values.Fragment ts) (sym c.as_slice-olds.ensures.items)) (c.in-Fragment-new-4.is ∙ ap (λ ts. values.Fragment ts) (sym c.as_slice.ensures.items))

-- two fragments
pub pair_fragments-returns-then-is_empty-2 : goal.pair_fragments-returns-then-is_empty-2
pair_fragments-returns-then-is_empty-2 g t c = λ old new.
    let place = place_on c.args.trail.now in
    let none = none_there c.args.were.now c.is_empty.result c.is_empty.ensures c.if-is_empty.true in
    let nothing = none_there c.args.are.now c.is_empty-then-is_empty.result c.is_empty-then-is_empty.ensures c.if-is_empty-2.true in
    on_ok_weaker c.stay.result
    (λ h. (stays place an_empty_fragment ∷ [], met g.T.Takes.one (stays place an_empty_fragment) c.args.out.now c.stay.new.self h, λ app tests. sym ((λ m. values_pair app (old m) (new m) place) ∙ both_none app c.args.were.now c.args.are.now place none nothing)))
    c.stay.ensures.taken

pub pair_fragments-returns-then-is_empty : goal.pair_fragments-returns-then-is_empty
pair_fragments-returns-then-is_empty g t c = λ old new.
    let place = place_on c.args.trail.now in
    let none = none_there c.args.were.now c.is_empty.result c.is_empty.ensures c.if-is_empty.true in
    let some = some_there c.args.are.now c.is_empty-then-is_empty.result c.is_empty-then-is_empty.ensures c.if-is_empty-2.false in
    on_ok_weaker c.change_slot.result
    (gave_way g.T.Takes.one c.args.old.now c.args.new.now _ _ place c.args.out.now c.change_slot.new.out old new (λ app. some_come app c.args.were.now c.args.are.now place none some))
    c.change_slot.ensures

pub pair_fragments-returns-then-is_empty-3 : goal.pair_fragments-returns-then-is_empty-3
pair_fragments-returns-then-is_empty-3 g t c = λ old new.
    let place = place_on c.args.trail.now in
    let some = some_there c.args.were.now c.is_empty.result c.is_empty.ensures c.if-is_empty.false in
    let none = none_there c.args.are.now c.is_empty-2.result c.is_empty-2.ensures c.if-is_empty-3.true in
    on_ok_weaker c.change_slot-then-is_empty-3.result
    (gave_way g.T.Takes.one c.args.old.now c.args.new.now _ _ place c.args.out.now c.change_slot-then-is_empty-3.new.out old new (λ app. some_gone app c.args.were.now c.args.are.now place some none))
    c.change_slot-then-is_empty-3.ensures

pub pair_fragments-returns : goal.pair_fragments-returns
pair_fragments-returns g t c = λ old new.
    let place = place_on c.args.trail.now in
    let some = some_there c.args.were.now c.is_empty.result c.is_empty.ensures c.if-is_empty.false in
    let more = some_there c.args.are.now c.is_empty-2.result c.is_empty-2.ensures c.if-is_empty-3.false in
    on_ok_weaker c.pair_items.result
    (λ w. meets_told g.T.Takes.one (λ app. items_pair app 0 place [] c.args.were.now c.args.are.now) (λ app. values_pair app c.args.old.now c.args.new.now place) c.args.out.now c.pair_items.new.out
    w (λ app tests. sym ((λ m. values_pair app (old m) (new m) place) ∙ both_some app c.args.were.now c.args.are.now place some more)))
    c.pair_items.ensures

-- items
pub pair_items-loop-position-init : goal.pair_items-loop-position-init
pair_items-loop-position-init g t c = (omega arith, λ end h. h)

pub pair_items-loop-position-preserved : goal.pair_items-loop-position-preserved
pair_items-loop-position-preserved g t c =
    let place = place_on c.args.trail.now in
    let were = c.args.were.now in
    let are = c.args.are.now in
    let i = c.loop-position.position in
    let there : i < length are = omega (arith, c.if-position-are.false) in
    let more : i + 1 ≤ length were = omega (arith, c.loop-position-test.true) in (
      more,
      meets_more g.T.Takes.one (λ app. tree_pair app c.index-were-position.result c.index-are-position.result _) (λ app. items_pair app (i + 1) place (take (i + 1) are) (drop (i + 1) were) (drop (i + 1) are))
          (λ app. items_pair app i place (take i are) (drop i were) (drop i are)) (λ app. items_pair app 0 place [] were are)
          c.args.out.now c.loop-position.out c.pair_tree.new.out
          (λ app. items_parts app place _ were are i c.index-were-position.result c.index-are-position.result c.loop-position-test.true c.index-were-position.is there c.index-are-position.is (on_Item _ _))
          c.loop-position.invariant.1 c.in_ok-pair_tree.ensures,
    )

pub pair_items-returns-then-position-are : goal.pair_items-returns-then-position-are
pair_items-returns-then-position-are g t c =
    let were = c.args.were.now in
    let are = c.args.are.now in
    let i = c.loop-position.position in
    let over : length are ≤ i = omega (arith, c.if-position-are.true) in
    let low : i < length were = omega (arith, c.loop-position-test.true) in
    on_ok_weaker c.go_out.result
    (items_gone g.T.Takes.one (place_on c.args.trail.now) were are i c.args.out.now c.loop-position.out c.loop-position.invariant.1 low over c.trees_turn.new.out c.go_out.new.self c.in_ok-trees_turn.ensures)
    c.go_out.ensures.taken

pub pair_items-returns-then-over-are : goal.pair_items-returns-then-over-are
pair_items-returns-then-over-are g t c =
    let were = c.args.were.now in
    let are = c.args.are.now in
    let i = c.loop-position.position in
    let over : length are ≤ i = omega (arith, c.loop-position.invariant.0, c.loop-position-test.false, c.if-over-are.true) in
    items_met g.T.Takes.one (place_on c.args.trail.now) were are i c.args.out.now c.loop-position.out c.loop-position.invariant.1 c.loop-position-test.false over

pub pair_items-returns : goal.pair_items-returns
pair_items-returns g t c =
    let one = g.T.Takes.one in
    let place = place_on c.args.trail.now in
    let were = c.args.were.now in
    let are = c.args.are.now in
    let i = c.loop-position.position in
    let same : length were ≡ i = omega (arith, c.loop-position.invariant.0, c.loop-position-test.false) in
    let low : i < length are = omega (arith, c.loop-position.invariant.0, c.loop-position-test.false, c.if-over-are.false) in
    let mid = c.trees_turn-2.new.out in
    let last = c.come_in.new.self in
    on_ok_weaker c.come_in.result
    (
    λ h.
    items_came one place were are i c.args.out.now c.loop-position.out c.loop-position.invariant.1 c.loop-position-test.false low mid last
    (told_of one (λ n. items_turn turns.Comes n place (drop n are)) (length were) i c.loop-position.out mid c.in_ok-trees_turn-2.ensures same)
    (met_of one (λ n. items_in place n are) (length were) i mid last h same)
    )
    c.come_in.ensures.taken
