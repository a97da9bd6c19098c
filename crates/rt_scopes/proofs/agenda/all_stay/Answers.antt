-- The side knows the nodes of its tree, which are those of the new one, that stands alike.
use Rattle.std.proofs.Common.{[], ◌≡◌, map, sym, ◌∙◌}
use Rattle.rt_model.specs.Tree.{spots}
use Rattle.tree_mirror.specs.Sealed.{tree_of}
use Rattle.run_places.specs.Places.{node_of}
use Rattle.run_work.proofs.PairRules.{none_there}
use Rattle.rt_scopes.specs.Stay.{standing}
use Rattle.rt_scopes.proofs.Staying.{output_stands, side_stands}
use Rattle.rt_scopes.proofs.agenda.all_stay.Goals as goal

pub returns : goal.returns
returns g c = λ yes app tests.
    let side = c.args.side.now in
    let old = c.in-Some.old in
    let no_seats : side.seats ≡ [] = sym c.as_slice-2.ensures.items ∙ none_there c.as_slice-2.result.now c.is_empty-2.result c.is_empty-2.ensures c.if-not-is_empty-2.false in
    let stands : spots [] (tree_of old) ≡ standing (map node_of side.nodes) = side_stands side old c.in-Some.is (side.known app tests) no_seats in
    record {
      before = output_stands side old c.in-Some.is ∙ stands;
      after = sym (c.are_alike.ensures yes) ∙ stands;
      childless = sym c.as_slice.ensures.pairs ∙ none_there c.as_slice.result.now c.is_empty.result c.is_empty.ensures c.if-not-is_empty.false;
    }
