-- All nodes stay, so what the side knew of its tree it knows of the new one.
use Rattle.std.proofs.Common.{map}
use Rattle.std.specs.Prelude.{Some}
use Rattle.tree_mirror.specs.Sealed.{tree_of}
use Rattle.run_places.specs.Places.{node_of, place_of, placed, seated}
use Rattle.rt_scopes.proofs.Staying.{stays_known}
use Rattle.rt_scopes.proofs.agenda.kept_side.Goals as goal

pub invariant_of-side : goal.invariant_of-side
invariant_of-side g c =
    record {
      known = λ app tests.
          stays_known c.args.tree c.args.was.now c.in_ok-nodes.nodes c.in_ok-seats.seats (c.requires.stay app tests) (c.args.was.now.known app tests) c.in_ok-nodes.ensures.items
          c.in_ok-seats.ensures.items;
    }

pub returns : goal.returns
returns g c =
    record {
      keeps = λ i.
          record {
            output = Some (tree_of c.args.tree);
            numbers = placed (map node_of (c.in_ok-nodes.ensures.items i)) (c.in_ok-numbers.ensures.copied i);
            children = seated (map place_of (c.in_ok-seats.ensures.items i)) (c.in_ok-children.ensures.copied i);
          };
    }
