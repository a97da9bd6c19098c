-- What is known of a tree is known of its copy, and a side of the same parts is the same.
use Rattle.run_places.proofs.Knowing.{bare_same, known_of, same_side}
use Rattle.run_places.proofs.side.Side.copy.Goals as goal

pub invariant_of-side : goal.invariant_of-side
invariant_of-side g c =
    record { known = known_of c.args.self.now _ _ _ c.in_ok-output.ensures c.in_ok-nodes.ensures.items c.in_ok-seats.ensures.items }

pub returns : goal.returns
returns g c =
    same_side c.args.self.now c.in_ok-output.output c.in_ok-nodes.nodes c.in_ok-seats.seats c.in_ok-numbers.numbers c.in_ok-children.children _
    c.in_ok-output.ensures c.in_ok-nodes.ensures.items c.in_ok-seats.ensures.items c.in_ok-numbers.ensures.copied c.in_ok-children.ensures.copied

pub returns-then-is_bare : goal.returns-then-is_bare
returns-then-is_bare g c = bare_same c.empty.result c.args.self.now c.empty.ensures.bare (c.is_bare.ensures c.if-is_bare.true)
