-- The node that was guessed, or else the one that its key names.
use Rattle.std.proofs.Common.{◌∙◌, ap, sym}
use Rattle.run_places.specs.Indexed.{is_node_at}
use Rattle.run_places.specs.Places.{kind_of}
use Rattle.run_places.specs.Trails.{place_on}
use Rattle.run_places.proofs.Guessed.{node_guessed}
use Rattle.run_places.proofs.nodes.Nodes.index_near.Goals as goal

pub returns-then-stands_on-clause-found : goal.returns-then-stands_on-clause-found
returns-then-stands_on-clause-found c =
    let p = place_on c.args.trail.now in
    let k = kind_of c.args.kind in
    rw (← c.self.view_is)
    (node_guessed c.self.inside.items p k c.args.guess c.self.invariant.1
    (ap (λ xs. is_node_at xs p k c.args.guess) (sym c.as_slice.ensures.items) ∙ sym c.stands_on.ensures ∙ c.if-stands_on.true))

pub returns-then-stands_on-clause-apart : goal.returns-then-stands_on-clause-apart
returns-then-stands_on-clause-apart c = rw (← c.self.view_is) c.self.invariant.1
