-- What goes, then what comes, and behind both the one gives way to the other.
use Rattle.std.proofs.lemmas.Result.{on_ok_weaker}
use Rattle.tree_mirror.specs.Sealed.{tree_of}
use Rattle.tree_marks.specs.Marks.{tree_goes, tree_way}
use Rattle.run_places.specs.Trails.{place_on}
use Rattle.run_work.specs.declared.turning.Turn.TheVariants as turns
use Rattle.run_work.specs.Grounds.{tree_turn}
use Rattle.run_work.proofs.Following.{changes}
use Rattle.run_work.proofs.pairing.change_tree.Goals as goal

pub returns : goal.returns
returns g c =
    let above = place_on c.args.above.now in
    let old = c.args.old.now in
    let new = c.args.new.now in
    on_ok_weaker c.tree_gives_way.result
    (changes g.T.Takes.one (tree_goes above (tree_of old)) (tree_way above (tree_of new) (tree_of old)) (tree_turn turns.Goes above old) (tree_turn turns.Comes above new)
    c.args.out.now c.tree_go.new.self c.tree_turns.new.out c.tree_turns-2.new.out c.tree_gives_way.new.self
    c.in_ok-tree_go.ensures.taken c.in_ok-tree_turns.ensures c.in_ok-tree_turns-2.ensures)
    c.tree_gives_way.ensures.taken
