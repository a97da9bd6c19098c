-- The node that was guessed, or else the one that its key names.
use Rattle.std.proofs.Common.{◌∙◌, ap, sym}
use Rattle.run_places.specs.Indexed.{is_node_at}
use Rattle.run_places.specs.Places.{kind_of, place_of}
use Rattle.run_places.proofs.Guessed.{node_guessed}
use Rattle.run_places.proofs.nodes.Nodes.index_at.Goals as goal

pub returns-then-is_at-clause-found : goal.returns-then-is_at-clause-found
returns-then-is_at-clause-found c =
    let p = place_of c.args.place.now in
    let k = kind_of c.args.kind in
    rw (← c.self.view_is)
    (node_guessed c.self.inside.items p k c.args.guess c.self.invariant.1
    (ap (λ xs. is_node_at xs p k c.args.guess) (sym c.as_slice.ensures.items) ∙ sym c.is_at.ensures ∙ c.if-is_at.true))

pub returns-then-is_at-clause-apart : goal.returns-then-is_at-clause-apart
returns-then-is_at-clause-apart c = rw (← c.self.view_is) c.self.invariant.1
