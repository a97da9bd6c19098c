-- The walk over both trees, or over the new one alone, from the root.
use Rattle.std.proofs.Common.{[], length, map, ap, ◌∙◌}
use Rattle.rt_model.specs.Tree.{spots}
use Rattle.tree_mirror.specs.Sealed.{tree_of}
use Rattle.tree_marks.specs.Marks.{come}
use Rattle.run_work.specs.declared.patched.Ground.{Ground}
use Rattle.run_work.specs.After.{after}
use Rattle.run_work.specs.Grounds.{ground_of, out_of}
use Rattle.run_work.specs.Marked.{events_in}
use Rattle.run_work.proofs.Ends.{come_ends, pair_ends}
use Rattle.run_work.proofs.Leading.{goes_by, seats_by}
use Rattle.run_work.proofs.Taken.{all_taken}
use Rattle.run_work.proofs.pairing.walk_both.Goals as goal

pub returns-in_ok-walk-in-Some-clause-patches : goal.returns-in_ok-walk-in-Some-clause-patches
returns-in_ok-walk-in-Some-clause-patches g c = λ app tests.
    let w = c.in_ok-walk-in-Some.ensures in
    let start = c.in_ok-out.out in
    let ground : Ground _ _ _ _ _ _ _ _ = record { scope = c.args.scope; name = c.args.name; side = c.args.side } in
    pair_ends app ground c.args.tree.now c.walk.new.out.out c.in_ok-out.ensures.nodes_apart c.in_ok-out.ensures.seats_apart c.in-Some.old (out_of start) c.in-Some.is c.in_ok-out.ensures.none
    (all_taken w.0 _ _ w.1 ∙ ap (λ ms. after (ground_of ground) (events_in ms) (out_of start)) (w.2 app tests))

pub returns-in_ok-walk_new-in-None-clause-patches : goal.returns-in_ok-walk_new-in-None-clause-patches
returns-in_ok-walk_new-in-None-clause-patches g c = λ app tests.
    come_ends app _ c.args.tree.now c.walk_new.new.out.out c.in_ok-out.ensures.nodes_apart c.in_ok-out.ensures.seats_apart (out_of c.in_ok-out.out) c.in-None.is c.in_ok-out.ensures.none
    (all_taken (map come (spots [] (tree_of c.args.tree.now))) _ _ c.in_ok-walk_new-in-None.ensures)

pub returns-in_ok-walk-in-Some-clause-goes : goal.returns-in_ok-walk-in-Some-clause-goes
returns-in_ok-walk-in-Some-clause-goes g c =
    let w = c.in_ok-walk-in-Some.ensures in
    goes_by _ (events_in w.0) c.in_ok-out.out c.walk.new.out.out (length c.args.side.now.nodes) (length c.args.side.now.seats) c.in_ok-out.ensures.none (all_taken w.0 _ _ w.1)

pub returns-in_ok-walk_new-in-None-clause-goes : goal.returns-in_ok-walk_new-in-None-clause-goes
returns-in_ok-walk_new-in-None-clause-goes g c =
    let ms = map come (spots [] (tree_of c.args.tree.now)) in
    goes_by _ (events_in ms) c.in_ok-out.out c.walk_new.new.out.out (length c.args.side.now.nodes) (length c.args.side.now.seats) c.in_ok-out.ensures.none
    (all_taken ms _ _ c.in_ok-walk_new-in-None.ensures)

pub returns-in_ok-walk-in-Some-clause-seats : goal.returns-in_ok-walk-in-Some-clause-seats
returns-in_ok-walk-in-Some-clause-seats g c =
    let w = c.in_ok-walk-in-Some.ensures in
    let ground : Ground _ _ _ _ _ _ _ _ = record { scope = c.args.scope; name = c.args.name; side = c.args.side } in
    seats_by ground (events_in w.0) c.in_ok-out.out c.walk.new.out.out (length c.args.side.now.nodes) (length c.args.side.now.seats) c.in_ok-out.ensures.none (all_taken w.0 _ _ w.1)

pub returns-in_ok-walk_new-in-None-clause-seats : goal.returns-in_ok-walk_new-in-None-clause-seats
returns-in_ok-walk_new-in-None-clause-seats g c =
    let ms = map come (spots [] (tree_of c.args.tree.now)) in
    let ground : Ground _ _ _ _ _ _ _ _ = record { scope = c.args.scope; name = c.args.name; side = c.args.side } in
    seats_by ground (events_in ms) c.in_ok-out.out c.walk_new.new.out.out (length c.args.side.now.nodes) (length c.args.side.now.seats) c.in_ok-out.ensures.none
    (all_taken ms _ _ c.in_ok-walk_new-in-None.ensures)
