-- What each call counts and writes, whatever the application.
use Rattle.std.proofs.Common.{◌+◌, ◌<◌, ◌≤◌, [], ◌∷◌, ◌++◌, ◌≡◌, ◌≢◌, length, sym, ap, refl, subst, ◌∙◌, arith}
use Rattle.tree_nodes.specs.declared.vnode.DynamicNode.TheVariants as values
use Rattle.rt_model.specs.Tree.{a_placeholder, a_static_text, an_empty_fragment}
use Rattle.tree_mirror.specs.Sealed.{template_of}
use Rattle.run_places.specs.Places.{at_path}
use Rattle.run_places.specs.Trails.{path_of, place_on}
use Rattle.run_places.proofs.Trails.{on_Item, path_Below, path_Top}
use Rattle.run_places.specs.Spots.{items_spots, value_spots}
use Rattle.run_places.proofs.Stands as stands
use Rattle.rt_lemmas.proofs.Lists.{nothing_left}
use Rattle.run_work.proofs.PairRules.{none_there, some_there}
use Rattle.run_shown.specs.Still.{IsStill, node_stands, row_stands}
use Rattle.run_shown.specs.Units.{items_writes, node_writes, row_writes, slot_writes}
use Rattle.run_shown.proofs.RowsStand as rows
use Rattle.run_shown.proofs.RowsWrite.{slot_here}
use Rattle.run_shown.proofs.ScopesWrite as written
use Rattle.run_shown.proofs.SlotsWrite.{items_both, no_items_same, placeholder_same}
use Rattle.run_shown.proofs.Stills.{element_still, items_so_far, items_whole, one_still, row_so_far, row_whole, some_of, some_weaker, still_weaker, told_still, tree_still_by}
use Rattle.run_shown.proofs.Walked.{stands_below}
use Rattle.run_shown.proofs.still.+still.Goals as goal

pub tree_still-returns : goal.tree_still-returns
tree_still-returns g t c =
    let b = c.args.sides.now in
    let above = place_on c.args.above.now in
    let new = c.args.new.now in
    let old = c.args.old.now in
    still_weaker c.row_still.result _ _
    (λ next still.
    tree_still_by b above new old c.args.at next c.roots-row.result.now c.in_ok-attributes.attributes c.args.edits.now c.append.new.self c.row_still.new.edits
    (c.same.ensures.0 c.if-not-same.false) c.roots-row.ensures.nodes c.in_ok-append.ensures.ok c.in_ok-attributes.ensures
    (subst (λ up. IsStill b c.args.at next (row_stands old above up 0 c.roots-row.result.now) c.append.new.self c.row_still.new.edits (λ app. row_writes app b above new old up 0 c.roots-row.result.now)) path_Top still))
    c.row_still.ensures

pub row_still-loop-index-init : goal.row_still-loop-index-init
row_still-loop-index-init g t c = λ rest h. (h, λ app tests passes. refl)

pub row_still-loop-index-preserved : goal.row_still-loop-index-preserved
row_still-loop-index-preserved g t c =
    let b = c.args.sides.now in
    let above = place_on c.args.above.now in
    let new = c.args.new.now in
    let old = c.args.old.now in
    let up = path_of c.args.up.now in
    row_so_far b above new old up c.args.row.now c.args.at c.args.edits.now c.loop-index.index c.loop-index.next c.in-Some.end c.index-row-index.result c.loop-index.edits c.node_still.new.edits
    c.loop-index-test.true c.index-row-index.is c.loop-index.invariant
    (some_of c.in_ok-found.found c.in-Some.end _ c.in_ok-found.ensures c.in-Some.is)

pub row_still-returns : goal.row_still-returns
row_still-returns g t c =
    row_whole c.args.sides.now (place_on c.args.above.now) c.args.new.now c.args.old.now (path_of c.args.up.now) c.args.row.now c.args.at c.args.edits.now c.loop-index.index c.loop-index.next c.loop-index.edits
    c.loop-index-test.false c.loop-index.invariant

pub node_still-returns-in-Some : goal.node_still-returns-in-Some
node_still-returns-in-Some g t c =
    let b = c.args.sides.now in
    let above = place_on c.args.above.now in
    let new = c.args.new.now in
    let old = c.args.old.now in
    let up = path_of c.args.up.now in
    let i = c.args.index in
    let n = c.in-Element in
    still_weaker c.row_still.result _ _
    (λ next still.
    element_still b above new old c.args.at c.in-Some.next next up i c.args.node.now n.tag n.namespace n.attrs n.children c.as_slice-row.result.now _
    c.args.edits.now c.row_still.new.edits c.in-Some.ensures.next n.is c.as_slice-row.ensures.items still (path_Below _ _))
    c.row_still.ensures

pub node_still-returns-in-Text : goal.node_still-returns-in-Text
node_still-returns-in-Text g t c =
    let b = c.args.sides.now in
    let above = place_on c.args.above.now in
    let old = c.args.old.now in
    let up = path_of c.args.up.now in
    let i = c.args.index in
    some_weaker c.behind-in-Text.result _ _
    (λ next is.
    one_still b c.args.at next (at_path (template_of old.template) above (up ++ i ∷ [])) a_static_text (node_stands old above up i c.args.node.now) c.args.edits.now
    (λ app. node_writes app b above c.args.new.now old up i c.args.node.now) is
    (ap (λ x. node_stands old above up i x) c.in-Text.is ∙ rows.node_Text old above up i c.in-Text.text)
    (λ app. ap (λ x. node_writes app b above c.args.new.now old up i x) c.in-Text.is ∙ written.node_Text app b above c.args.new.now old up i c.in-Text.text))
    c.behind-in-Text.ensures.next

pub node_still-returns-in-Some-get-2 : goal.node_still-returns-in-Some-get-2
node_still-returns-in-Some-get-2 g t c =
    let b = c.args.sides.now in
    let above = place_on c.args.above.now in
    let new = c.args.new.now in
    let old = c.args.old.now in
    let up = path_of c.args.up.now in
    let i = c.args.index in
    let id = c.in-Dynamic.id in
    let value = c.in-Some-get.value.now in
    let was = c.in-Some-get-2.was.now in
    still_weaker c.value_still.result _ _
    (λ next still.
    told_still b c.args.at next _ (node_stands old above up i c.args.node.now) c.args.edits.now c.value_still.new.edits _ (λ app. node_writes app b above new old up i c.args.node.now)
    (ap (λ x. node_stands old above up i x) c.in-Dynamic.is
    ∙ rows.node_Slot old above up i id was (sym c.in-Some-get-2.ensures.item)
    ∙ ap (λ q. value_spots was q) (sym (stands_below _ _ _ (up ++ i ∷ []) (path_Below _ _) ∙ ap (λ u. at_path (template_of u) above (up ++ i ∷ [])) c.requires.same)))
    (λ app. sym (slot_here app b above new old up i c.args.node.now _ id value was _ c.in-Dynamic.is (sym c.in-Some-get.ensures.item) (sym c.in-Some-get-2.ensures.item) refl (stands_below _ _ _ (up ++ i ∷ []) (path_Below _ _))))
    still)
    c.value_still.ensures

pub value_still-returns-in-Text-Text : goal.value_still-returns-in-Text-Text
value_still-returns-in-Text-Text g t c =
    let b = c.args.sides.now in
    let place = place_on c.args.place.now in
    still_weaker c.text_still.result _ _
    (λ next still.
    told_still b c.args.at next _ (value_spots c.args.old.now place) c.args.edits.now c.text_still.new.edits _ (λ app. slot_writes app b place c.args.new.now c.args.old.now)
    (ap (λ v. value_spots v place) c.in-Text-Text.is-1 ∙ stands.value_Text _ _ place)
    (λ app. (λ k. slot_writes app b place (c.in-Text-Text.is-0 k) (c.in-Text-Text.is-1 k)))
    still)
    c.text_still.ensures

pub value_still-returns-in-Placeholder-Placeholder : goal.value_still-returns-in-Placeholder-Placeholder
value_still-returns-in-Placeholder-Placeholder g t c =
    let b = c.args.sides.now in
    let place = place_on c.args.place.now in
    some_weaker c.behind.result _ _
    (λ next is.
    one_still b c.args.at next place a_placeholder (value_spots c.args.old.now place) c.args.edits.now (λ app. slot_writes app b place c.args.new.now c.args.old.now) is
    (ap (λ v. value_spots v place) c.in-Placeholder-Placeholder.is-1 ∙ stands.value_Placeholder _ place)
    (λ app. (λ k. slot_writes app b place (c.in-Placeholder-Placeholder.is-0 k) (c.in-Placeholder-Placeholder.is-1 k)) ∙ placeholder_same app b place))
    c.behind.ensures.next

pub value_still-returns-in-Fragment-Fragment : goal.value_still-returns-in-Fragment-Fragment
value_still-returns-in-Fragment-Fragment g t c =
    let b = c.args.sides.now in
    let place = place_on c.args.place.now in
    still_weaker c.fragment_still.result _ _
    (λ next still.
    told_still b c.args.at next _ (value_spots c.args.old.now place) c.args.edits.now c.fragment_still.new.edits _ (λ app. slot_writes app b place c.args.new.now c.args.old.now)
    (ap (λ v. value_spots v place) c.in-Fragment-Fragment.is-1)
    (λ app. (λ k. slot_writes app b place (c.in-Fragment-Fragment.is-0 k) (c.in-Fragment-Fragment.is-1 k)))
    still)
    c.fragment_still.ensures

pub fragment_still-returns-then-is_empty : goal.fragment_still-returns-then-is_empty
fragment_still-returns-then-is_empty g t c =
    let b = c.args.sides.now in
    let place = place_on c.args.place.now in
    let none : c.as_slice-news.result.now ≡ [] = none_there c.as_slice-news.result.now c.is_empty.result c.is_empty.ensures c.if-is_empty.true in
    let fewer : length c.as_slice-olds.result.now ≡ 0 = sym c.if-news-olds.false ∙ ap length none in
    let trees : c.args.trees.now ≡ [] = sym c.as_slice-news.ensures.items ∙ none in
    let were : c.args.were.now ≡ [] = sym c.as_slice-olds.ensures.items ∙ nothing_left c.as_slice-olds.result.now fewer in
    some_weaker c.behind.result _ _
    (λ next is.
    one_still b c.args.at next place an_empty_fragment (value_spots (values.Fragment c.args.were.now) place) c.args.edits.now
    (λ app. slot_writes app b place (values.Fragment c.args.trees.now) (values.Fragment c.args.were.now)) is
    (stands.value_none c.args.were.now place were)
    (λ app. ap (λ ts. slot_writes app b place (values.Fragment ts) (values.Fragment c.args.were.now)) trees ∙ no_items_same app b place c.args.were.now were))
    c.behind.ensures.next

pub fragment_still-returns : goal.fragment_still-returns
fragment_still-returns g t c =
    let b = c.args.sides.now in
    let place = place_on c.args.place.now in
    let news = c.as_slice-news.ensures.items in
    let olds = c.as_slice-olds.ensures.items in
    let some : c.as_slice-news.result.now ≢ [] = some_there c.as_slice-news.result.now c.is_empty.result c.is_empty.ensures c.if-is_empty.false in
    let trees : c.args.trees.now ≢ [] = λ none. some (news ∙ none) in
    let were : c.args.were.now ≢ [] = λ none. some (nothing_left c.as_slice-news.result.now (c.if-news-olds.false ∙ ap length (olds ∙ none))) in
    still_weaker c.items_still.result _ _
    (λ next still.
    told_still b c.args.at next (items_spots 0 place c.as_slice-olds.result.now) (value_spots (values.Fragment c.args.were.now) place) c.args.edits.now c.items_still.new.edits
    (λ app. items_writes app b place 0 0 c.as_slice-news.result.now c.as_slice-olds.result.now) (λ app. slot_writes app b place (values.Fragment c.args.trees.now) (values.Fragment c.args.were.now))
    (stands.value_some c.args.were.now place were ∙ ap (λ ts. items_spots 0 place ts) (sym olds))
    (λ app. items_both app b place c.args.trees.now c.args.were.now trees were ∙ (λ k. items_writes app b place 0 0 (sym news k) (sym olds k)))
    still)
    c.items_still.ensures

pub items_still-loop-position-init : goal.items_still-loop-position-init
items_still-loop-position-init g t c = λ rest h. (h, λ app tests passes. refl)

pub items_still-loop-position-preserved : goal.items_still-loop-position-preserved
items_still-loop-position-preserved g t c =
    let b = c.args.sides.now in
    let place = place_on c.args.place.now in
    let i = c.loop-position.position in
    let under : i < length c.args.old.now = omega (arith, c.loop-position-test.true, c.requires.even) in
    items_so_far b place c.args.new.now c.args.old.now c.args.at c.args.edits.now i c.loop-position.next c.in-Some.end _ c.index-new-position.result c.index-old-position.result
    c.loop-position.edits c.tree_still.new.edits c.loop-position-test.true under c.index-new-position.is c.index-old-position.is (on_Item _ _) c.loop-position.invariant
    (some_of c.in_ok-found.found c.in-Some.end _ c.in_ok-found.ensures c.in-Some.is)

pub items_still-returns : goal.items_still-returns
items_still-returns g t c =
    let end : length c.args.new.now ≤ c.loop-position.position = c.loop-position-test.false in
    let also : length c.args.old.now ≤ c.loop-position.position = omega (arith, end, c.requires.even) in
    items_whole c.args.sides.now (place_on c.args.place.now) c.args.new.now c.args.old.now c.args.at c.args.edits.now c.loop-position.position c.loop-position.next c.loop-position.edits end also c.loop-position.invariant
