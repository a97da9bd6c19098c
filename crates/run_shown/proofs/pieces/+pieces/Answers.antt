-- One more node or item, and at the end all.
use Rattle.std.proofs.Common.{◌++◌}
use Rattle.run_places.specs.Trails.{path_of, place_on}
use Rattle.run_places.proofs.Trails.{on_Item}
use Rattle.run_shown.specs.Pieces.{items_pieces, row_pieces}
use Rattle.run_shown.proofs.PieceRows.{items_done, items_more, row_done, row_more}
use Rattle.run_shown.proofs.pieces.+pieces.Goals as goal

pub add_nodes-loop-index-preserved : goal.add_nodes-loop-index-preserved
add_nodes-loop-index-preserved g t c =
    let stands = c.args.stands.now in
    let row = c.args.nodes.now in
    row_more stands.side.now stands.tree.now (place_on stands.above.now) (path_of c.args.up.now) row c.loop-index.index c.index-nodes-index.result c.loop-index.tops c.add_node.new.tops
    (c.args.tops.now ++ row_pieces stands.side.now stands.tree.now (place_on stands.above.now) (path_of c.args.up.now) 0 row)
    c.loop-index-test.true c.index-nodes-index.is c.loop-index.invariant c.in_ok-add_node.ensures

pub add_nodes-returns : goal.add_nodes-returns
add_nodes-returns g t c =
    let stands = c.args.stands.now in
    let row = c.args.nodes.now in
    row_done stands.side.now stands.tree.now (place_on stands.above.now) (path_of c.args.up.now) row c.loop-index.index c.loop-index.tops
    (c.args.tops.now ++ row_pieces stands.side.now stands.tree.now (place_on stands.above.now) (path_of c.args.up.now) 0 row)
    c.loop-index-test.false c.loop-index.invariant

pub add_items-loop-index-preserved : goal.add_items-loop-index-preserved
add_items-loop-index-preserved g t c =
    let place = place_on c.args.place.now in
    items_more c.args.side.now c.args.first place c.args.trees.now c.loop-index.index c.index-trees-index.result _ c.in_ok-position.position c.loop-index.tops c.add_tree.new.tops
    (c.args.tops.now ++ items_pieces c.args.side.now c.args.first 0 place c.args.trees.now)
    c.loop-index-test.true c.index-trees-index.is c.loop-index.invariant (on_Item _ _) c.in_ok-position.ensures c.in_ok-add_tree.ensures

pub add_items-returns : goal.add_items-returns
add_items-returns g t c =
    let place = place_on c.args.place.now in
    items_done c.args.side.now c.args.first place c.args.trees.now c.loop-index.index c.loop-index.tops
    (c.args.tops.now ++ items_pieces c.args.side.now c.args.first 0 place c.args.trees.now)
    c.loop-index-test.false c.loop-index.invariant
