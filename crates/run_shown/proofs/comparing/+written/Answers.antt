-- What each call wrote is what the definitions write, whatever the application.
use Rattle.std.proofs.Common.{◌≡◌, ◌+◌, ◌<◌, ◌≤◌, [], ◌∷◌, ◌++◌, length, sym, ap, refl, subst, ◌∙◌, arith}
use Rattle.std.proofs.lemmas.Result.{IfOk-weaker}
use Rattle.std.specs.List.{slice_range}
use Rattle.std.specs.Prelude.{IfSome}
use Rattle.run_shown.specs.Still.{AreStill}
use Rattle.rt_model.specs.Caused as caused
use Rattle.run_places.specs.Trails.{path_of, place_on}
use Rattle.run_places.proofs.Trails.{on_Item, on_Root, path_Below, path_Top}
use Rattle.run_shown.specs.Seen.{items_in}
use Rattle.run_shown.specs.Tops.{removed}
use Rattle.run_shown.specs.Units.{items_writes, row_writes, tree_writes}
use Rattle.run_shown.specs.Written.{edited_of}
use Rattle.run_shown.proofs.OneByOne.{not_at_end, range_to_end}
use Rattle.run_shown.proofs.TopsSeen.{removed-is}
use Rattle.run_shown.proofs.Looks.{shows_found, shows_gone}
use Rattle.run_shown.proofs.ScopesWrite.{name_some, output_both, scope_gone, scope_none, scope_other, scope_same, tree_matched, unit_passed}
use Rattle.run_shown.proofs.SlotsWrite.{child_elsewhere, child_halts, child_on_way}
use Rattle.run_shown.proofs.Quiet.{child_quiet}
use Rattle.run_shown.proofs.Walked.{stands_below}
use Rattle.run_shown.proofs.ItemsWrite.{items_more, items_over, items_rest}
use Rattle.run_shown.proofs.RowsWrite.{element_here, row_end, row_more, slot_anew, slot_here}
use Rattle.run_shown.proofs.comparing.+written.Goals as goal
use Rattle.run_shown.proofs.comparing.+written.Goals.{child_written-else-is_place-via-then-is_place+else-not-is_on_way, child_written-else-is_place-via-else-is_place}

pub child_written-returns-then-sides : goal.child_written-returns-then-sides
child_written-returns-then-sides g t c = λ app tests passes.
    c.nothing.ensures ∙
    sym (child_quiet app c.args.sides.now (place_on c.args.place.now) passes (sym c.args.sides.now.calm ∙ c.if-sides.true))

pub child_written-returns-then-not-is_on_way : goal.child_written-returns-then-not-is_on_way
child_written-returns-then-not-is_on_way g t c = λ app tests passes.
    c.halts.ensures ∙
    sym (child_halts app c.args.sides.now (place_on c.args.place.now) c.in-Some.child
    (sym c.in-Some.ensures)
    (sym c.if-is_place.ensures) (sym c.if-not-is_on_way.ensures))

pub child_written-returns-else-is_place : goal.child_written-returns-else-is_place
child_written-returns-else-is_place g t c =
    elim c.else-is_place.branch [
      | child_written-else-is_place-via-then-is_place+else-not-is_on_way w ↦
          IfOk-weaker c.written_within.result _ _
          (λ written is app tests passes. is app tests passes ∙
          sym (child_on_way app c.args.sides.now (place_on c.args.place.now) c.in-Some.child
          (sym c.in-Some.ensures)
          (sym w.if-is_place.ensures) (sym w.if-not-is_on_way.ensures)))
          c.written_within.ensures
      | child_written-else-is_place-via-else-is_place w ↦
          IfOk-weaker c.written_within.result _ _
          (λ written is app tests passes. is app tests passes ∙
          sym (child_elsewhere app c.args.sides.now (place_on c.args.place.now) c.in-Some.child
          (sym c.in-Some.ensures)
          (sym w.if-is_place.ensures)))
          c.written_within.ensures
    ]

pub items_written-returns-then-position-old : goal.items_written-returns-then-position-old
items_written-returns-then-position-old g t c =
    IfOk-weaker c.then_on.result _ _
    (λ both is app tests passes. is ∙
    items_rest app c.args.sides.now (place_on c.args.place.now) c.args.new.now c.args.old.now c.loop-position.position (edited_of c.loop-position.written) (edited_of c.in_ok-rest.rest)
    (items_writes app c.args.sides.now (place_on c.args.place.now) 0 0 c.args.new.now c.args.old.now)
    c.loop-position-test.true c.if-position-old.true (c.loop-position.invariant.left app tests passes) c.in_ok-rest.ensures)
    c.then_on.ensures

pub items_written-loop-position-preserved : goal.items_written-loop-position-preserved
items_written-loop-position-preserved g t c =
    let there : c.loop-position.position < length c.args.old.now = not_at_end c.loop-position.position (length c.args.old.now) c.loop-position.invariant.within c.if-position-old.false in
    record {
      within = let e : c.loop-position.position + 1 ≤ length c.args.old.now = omega (arith, there) in e;
      left = λ app tests passes.
          items_more app c.args.sides.now (place_on c.args.place.now) _ c.args.new.now c.args.old.now c.loop-position.position c.index-new-position.result c.index-old-position.result
          (edited_of c.loop-position.written) (edited_of c.in_ok-item.item) (edited_of c.in_ok-written.written)
          (items_writes app c.args.sides.now (place_on c.args.place.now) 0 0 c.args.new.now c.args.old.now)
          c.loop-position-test.true there c.index-new-position.is c.index-old-position.is (c.loop-position.invariant.left app tests passes)
          (c.in_ok-item.ensures app tests passes) (on_Item _ _) c.in_ok-written.ensures;
    }

pub items_written-returns : goal.items_written-returns
items_written-returns g t c =
    let end : c.loop-position.position ≡ length c.args.new.now = omega (arith, c.loop-position.auto.position-end, c.loop-position-test.false) in
    let over = items_in c.args.sides.now.old.now (length c.args.new.now) (place_on c.args.place.now) (slice_range c.args.old.now (length c.args.new.now) (length c.args.old.now)) in
    IfOk-weaker c.then_on-2.result _ _
    (λ both is app tests passes. is ∙ ap (λ w. caused.then_on (edited_of c.loop-position.written) w) c.writes.ensures ∙
    items_over app c.args.sides.now (place_on c.args.place.now) c.args.new.now c.args.old.now c.loop-position.position (edited_of c.loop-position.written)
    (items_writes app c.args.sides.now (place_on c.args.place.now) 0 0 c.args.new.now c.args.old.now) _ over
    end (c.loop-position.invariant.left app tests passes)
    (ap (λ ts. items_in c.args.sides.now.old.now (length c.args.new.now) (place_on c.args.place.now) ts) (range_to_end c.args.old.now (length c.args.new.now)))
    (c.in_ok-removals.ensures ∙ ap removed (c.as_slice.ensures.items ∙ c.in_ok-over.ensures) ∙ removed-is over))
    c.then_on-2.ensures

pub outputs_written-returns-in-Some-still : goal.outputs_written-returns-in-Some-still
outputs_written-returns-in-Some-still g t c = λ app tests passes.
    c.writes.ensures
    ∙ subst (λ o. IfSome o (AreStill c.args.sides.now c.in-Some.new c.in-Some-output.old)) c.in-Some-still.is c.in_ok-still.ensures app tests passes
    ∙ sym (output_both app c.args.sides.now c.in-Some.new c.in-Some-output.old c.in-Some.is c.in-Some-output.is)

pub outputs_written-returns-in-None : goal.outputs_written-returns-in-None
outputs_written-returns-in-None g t c =
    IfOk-weaker c.tree_written.result _ _
    (λ written is app tests passes. is app tests passes ∙ ap (λ p. tree_writes app c.args.sides.now p c.in-Some.new c.in-Some-output.old) on_Root ∙
    sym (output_both app c.args.sides.now c.in-Some.new c.in-Some-output.old c.in-Some.is c.in-Some-output.is))
    c.tree_written.ensures

pub nodes_written-loop-index-preserved : goal.nodes_written-loop-index-preserved
nodes_written-loop-index-preserved g t c = λ app tests passes.
    row_more app c.args.sides.now (place_on c.args.above.now) c.args.new.now c.args.old.now (path_of c.args.up.now) c.args.nodes.now c.loop-index.index
    c.index-nodes-index.result (edited_of c.loop-index.written) (edited_of c.in_ok-more.more) (edited_of c.in_ok-written.written)
    (row_writes app c.args.sides.now (place_on c.args.above.now) c.args.new.now c.args.old.now (path_of c.args.up.now) 0 c.args.nodes.now)
    c.loop-index-test.true c.index-nodes-index.is (c.loop-index.invariant app tests passes) (c.in_ok-more.ensures app tests passes) c.in_ok-written.ensures

pub nodes_written-returns : goal.nodes_written-returns
nodes_written-returns g t c = λ app tests passes.
    row_end app c.args.sides.now (place_on c.args.above.now) c.args.new.now c.args.old.now (path_of c.args.up.now) c.args.nodes.now c.loop-index.index
    (edited_of c.loop-index.written)
    (row_writes app c.args.sides.now (place_on c.args.above.now) c.args.new.now c.args.old.now (path_of c.args.up.now) 0 c.args.nodes.now)
    c.loop-index-test.false (c.loop-index.invariant app tests passes)

pub node_written-returns-in-Element : goal.node_written-returns-in-Element
node_written-returns-in-Element g t c =
    let n = c.in-Element in
    IfOk-weaker c.nodes_written.result _ _
    (λ written is app tests passes.
    element_here app c.args.sides.now (place_on c.args.above.now) c.args.new.now c.args.old.now (path_of c.args.up.now) c.args.index c.args.node.now (edited_of written)
    n.tag n.namespace n.attrs n.children c.as_slice-nodes.result.now _ n.is c.as_slice-nodes.ensures.items (is app tests passes) (path_Below _ _))
    c.nodes_written.ensures

pub node_written-returns-in-Some-get : goal.node_written-returns-in-Some-get
node_written-returns-in-Some-get g t c =
    let up = path_of c.args.up.now in
    IfOk-weaker c.slot_written.result _ _
    (λ written is app tests passes.
    slot_here app c.args.sides.now (place_on c.args.above.now) c.args.new.now c.args.old.now up c.args.index c.args.node.now (edited_of written)
    c.in-Dynamic.id c.in-Some.value.now c.in-Some-get.was.now _ c.in-Dynamic.is (sym c.in-Some.ensures.item) (sym c.in-Some-get.ensures.item)
    (is app tests passes) (stands_below _ _ _ (up ++ c.args.index ∷ []) (path_Below _ _)))
    c.slot_written.ensures

pub node_written-returns-in-None-get : goal.node_written-returns-in-None-get
node_written-returns-in-None-get g t c =
    let up = path_of c.args.up.now in
    IfOk-weaker c.slot_written-in-None-get.result _ _
    (λ written is app tests passes.
    slot_anew app c.args.sides.now (place_on c.args.above.now) c.args.new.now c.args.old.now up c.args.index c.args.node.now (edited_of written)
    c.in-Dynamic.id c.in-Some.value.now _ c.in-Dynamic.is (sym c.in-Some.ensures.item) (sym c.in-None-get.ensures.item)
    (is app tests passes) (stands_below _ _ _ (up ++ c.args.index ∷ []) (path_Below _ _)))
    c.slot_written-in-None-get.ensures

pub scope_written-returns-in_default : goal.scope_written-returns-in_default
scope_written-returns-in_default g t c = λ app tests passes.
    c.nothing.ensures ∙ sym (scope_none app c.args.unit.now c.args.depth c.args.scope (shows_gone c.args.unit.now.before.now c.args.scope c.in_default.ensures))

pub scope_written-returns-in_default-find : goal.scope_written-returns-in_default-find
scope_written-returns-in_default-find g t c = λ app tests passes.
    c.nothing-in_default-find.ensures ∙ sym (scope_gone app c.args.unit.now c.args.depth c.args.scope (shows_gone c.args.unit.now.after.now c.args.scope c.in_default-find.ensures))

pub found_written-returns-then-is_same_side : goal.found_written-returns-then-is_same_side
found_written-returns-then-is_same_side g t c =
    IfOk-weaker c.side_written.result _ _
    (λ written is app tests passes. is app tests passes ∙
    sym (scope_same app c.args.unit.now c.args.depth c.args.scope c.in-Some.old c.in-Some-shows.new
    (shows_found c.args.unit.now.before.now c.args.scope _ c.requires.before ∙ sym c.in-Some.ensures)
    (shows_found c.args.unit.now.after.now c.args.scope _ c.requires.after ∙ sym c.in-Some-shows.ensures)
    (sym c.if-is_same_side.ensures)))
    c.side_written.ensures

pub found_written-returns-else-is_same_side : goal.found_written-returns-else-is_same_side
found_written-returns-else-is_same_side g t c =
    IfOk-weaker c.scope_replaced.result _ _
    (λ written is app tests passes. is ∙
    sym (scope_other app c.args.unit.now c.args.depth c.args.scope c.in-Some.old c.in-Some-shows.new
    (shows_found c.args.unit.now.before.now c.args.scope _ c.requires.before ∙ sym c.in-Some.ensures)
    (shows_found c.args.unit.now.after.now c.args.scope _ c.requires.after ∙ sym c.in-Some-shows.ensures)
    (sym c.if-is_same_side.ensures)))
    c.scope_replaced.ensures

pub found_written-returns-in-None-shows : goal.found_written-returns-in-None-shows
found_written-returns-in-None-shows g t c = λ app tests passes.
    c.nothing.ensures ∙
    sym (scope_gone app c.args.unit.now c.args.depth c.args.scope
    (shows_found c.args.unit.now.after.now c.args.scope _ c.requires.after ∙ sym c.in-None-shows.ensures))

pub found_written-returns-in-None : goal.found_written-returns-in-None
found_written-returns-in-None g t c = λ app tests passes.
    c.nothing-in-None.ensures ∙
    sym (scope_none app c.args.unit.now c.args.depth c.args.scope
    (shows_found c.args.unit.now.before.now c.args.scope _ c.requires.before ∙ sym c.in-None.ensures))

pub side_written-returns : goal.side_written-returns
side_written-returns g t c =
    IfOk-weaker c.outputs_written.result _ _
    (λ written is app tests passes. is app tests passes ∙
    name_some app c.args.unit.now c.args.depth c.args.scope c.args.name c.args.was.now c.args.side.now _ c.requires.before c.requires.after
    (record {
      of_unit = refl;
      deep = refl;
      old_side = c.shown_in-old.ensures.side;
      old_seen = c.shown_in-old.ensures.seen;
      new_side = c.shown_in-new.ensures.side;
      new_seen = c.shown_in-new.ensures.seen;
      stops = c.stop_on-stop.ensures;
    }))
    c.outputs_written.ensures

pub tree_written-returns : goal.tree_written-returns
tree_written-returns g t c =
    IfOk-weaker c.then_on.result _ _
    (λ both is app tests passes. is ∙
    (λ k. caused.then_on (c.writes.ensures k)
    ((c.in_ok-slots.ensures app tests passes
    ∙ (λ m. row_writes app c.args.sides.now (place_on c.args.above.now) c.args.new.now c.args.old.now (path_Top m) 0 (c.roots-nodes.ensures.nodes m))) k)) ∙
    tree_matched app c.args.sides.now (place_on c.args.above.now) c.args.new.now c.args.old.now c.in_ok-attributes_written.field-0
    (c.same.ensures.0 c.if-not-same.false) c.in_ok-attributes_written.ensures)
    c.then_on.ensures

pub written_within-returns-then-not-is_touched : goal.written_within-returns-then-not-is_touched
written_within-returns-then-not-is_touched g t c = λ app tests passes.
    c.nothing-then-not-is_touched.ensures ∙ sym (unit_passed app c.args.unit.now c.args.depth c.args.scope passes (sym c.is_touched.ensures ∙ c.if-not-is_touched.true))
