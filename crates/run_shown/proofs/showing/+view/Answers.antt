-- One more node or item is seen, and at the end all are.
use Rattle.std.proofs.Common.{[], ◌∙◌, ap, sym}
use Rattle.std.proofs.lemmas.Result.{on_ok_weaker}
use Rattle.rt_model.specs.Document.{join_rows}
use Rattle.tree_edits.specs.Documents.{forest_of}
use Rattle.run_places.specs.Trails.{path_of, place_on}
use Rattle.run_places.proofs.Trails.{on_Item, on_Root, path_Top}
use Rattle.run_shown.specs.Seen.{items_in, row_in, row_seen, seen_by}
use Rattle.run_shown.proofs.ToldNodes.{tree_told}
use Rattle.run_shown.proofs.Views.{asked_look, scope_some, side_some, tree_row, row_more, row_done, items_more, items_done}
use Rattle.run_shown.proofs.showing.+view.Goals as goal

pub show_items-loop-index-preserved : goal.show_items-loop-index-preserved
show_items-loop-index-preserved g t c =
    let shown = c.args.shown.now in
    let place = place_on c.args.place.now in
    items_more shown.asked shown.side.now c.args.first place c.args.trees.now c.loop-index.index c.index-trees-index.result _ c.in_ok-position.position
    (forest_of c.loop-index.row) (forest_of c.show_tree.new.row) (join_rows (forest_of c.args.row.now) (items_in shown c.args.first place c.args.trees.now))
    c.loop-index-test.true c.index-trees-index.is c.loop-index.invariant (on_Item _ _) c.in_ok-position.ensures c.in_ok-show_tree.ensures

pub show_items-returns : goal.show_items-returns
show_items-returns g t c =
    let shown = c.args.shown.now in
    let place = place_on c.args.place.now in
    items_done shown.asked shown.side.now c.args.first place c.args.trees.now c.loop-index.index
    (forest_of c.loop-index.row) (join_rows (forest_of c.args.row.now) (items_in shown c.args.first place c.args.trees.now))
    c.loop-index-test.false c.loop-index.invariant

pub show_nodes-loop-index-preserved : goal.show_nodes-loop-index-preserved
show_nodes-loop-index-preserved g t c =
    let standing = c.args.standing.now in
    row_more (standing.shown.now).asked (standing.shown.now).side.now standing.tree.now (place_on standing.above.now) (path_of c.args.up.now) c.args.nodes.now
    c.loop-index.index c.index-nodes-index.result (forest_of c.loop-index.row) (forest_of c.show_node.new.row) (join_rows (forest_of c.args.row.now) (row_in standing (path_of c.args.up.now) 0 c.args.nodes.now))
    c.loop-index-test.true c.index-nodes-index.is c.loop-index.invariant c.in_ok-show_node.ensures

pub show_nodes-returns : goal.show_nodes-returns
show_nodes-returns g t c =
    let standing = c.args.standing.now in
    row_done (standing.shown.now).asked (standing.shown.now).side.now standing.tree.now (place_on standing.above.now) (path_of c.args.up.now) c.args.nodes.now
    c.loop-index.index (forest_of c.loop-index.row) (join_rows (forest_of c.args.row.now) (row_in standing (path_of c.args.up.now) 0 c.args.nodes.now))
    c.loop-index-test.false c.loop-index.invariant

pub show_scope-returns-in-Some : goal.show_scope-returns-in-Some
show_scope-returns-in-Some g t c =
    on_ok_weaker c.show_side.result
    (
    λ h.
    h ∙ ap (λ f. join_rows (forest_of c.args.row.now) f) (sym (scope_some c.args.look c.args.depth c.args.scope c.in-Some.side.now c.if-depth-eq0.false (sym c.in-Some.ensures)))
    )
    c.show_side.ensures

pub show_side-invariant_of-standing : goal.show_side-invariant_of-standing
show_side-invariant_of-standing g t c = record { told = tree_told c.args.shown.now.side.now c.in-Some.tree _ on_Root c.in-Some.is }

pub show_side-returns-in-Some : goal.show_side-returns-in-Some
show_side-returns-in-Some g t c =
    let asked = c.args.shown.now.asked in
    let side = c.args.shown.now.side.now in
    let tree = c.in-Some.tree in
    on_ok_weaker c.show_nodes.result
    (
    λ h.
    h
    ∙ (λ i. join_rows (forest_of c.args.row.now) (row_seen asked side tree (on_Root i) (path_Top i) 0 (c.roots-nodes.ensures.nodes i)))
    ∙ ap (λ f. join_rows (forest_of c.args.row.now) f) (sym (tree_row asked side tree []) ∙ sym (side_some asked side tree c.in-Some.is))
    )
    c.show_nodes.ensures

pub show_asked-returns-in-Look : goal.show_asked-returns-in-Look
show_asked-returns-in-Look g t c =
    on_ok_weaker c.show_scope.result
    (
    λ h.
    h
    ∙ ap (λ f. join_rows (forest_of c.args.row.now) f) (sym (asked_look c.in-Look.look c.in-Look.depth c.args.scope))
    ∙ ap (λ a. join_rows (forest_of c.args.row.now) (seen_by a c.args.scope)) (sym c.in-Look.is)
    )
    c.show_scope.ensures

pub show_asked-returns-in-Given : goal.show_asked-returns-in-Given
show_asked-returns-in-Given g t c =
    on_ok_weaker c.show_given.result (λ h. h ∙ ap (λ a. join_rows (forest_of c.args.row.now) (seen_by a c.args.scope)) (sym c.in-Given.is)) c.show_given.ensures
