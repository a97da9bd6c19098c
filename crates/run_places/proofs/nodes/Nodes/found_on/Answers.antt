use Rattle.std.proofs.Common.{◌∙◌, ◌<◌, length, arith, sym, ap}
use Rattle.run_places.specs.Indexed.{first_of_nodes, node_index}
use Rattle.run_places.specs.Keys.{picks}
use Rattle.run_places.specs.Places.{kind_of}
use Rattle.run_places.specs.Trails.{place_on, steps_of}
use Rattle.run_places.proofs.Hits.{among_nodes, first_in_nodes, node_found}
use Rattle.run_places.proofs.nodes.Nodes.found_on.Goals as goal

pub key_run-run-requires : goal.key_run-run-requires
key_run-run-requires c = let is = c.as_slice-2.ensures.items in record { ascending = rw is (c.self.invariant.0 (let many : 1 < length c.self.inside.items = omega (arith, c.if-len-le-FEW.false, c.len.ensures.items) in many)).ascending }

pub returns-clause-found : goal.returns-clause-found
returns-clause-found c =
    let nodes = c.self.inside.items in
    let p = place_on c.args.trail.now in
    let k = kind_of c.args.kind in
    rw (← c.self.view_is)
    (c.first_on.ensures
    ∙ ap (λ xs. first_of_nodes xs p k c.key_run-run.result.now) c.as_slice-3.ensures.items
    ∙ among_nodes nodes p k c.key_run-run.result.now
    ∙ ap (λ is. first_in_nodes nodes p k is)
    (c.key_run-run.ensures.indices ∙ (λ i. picks (c.trail_key.ensures i) (c.as_slice-2.ensures.items i)) ∙ (c.self.invariant.0 (let many : 1 < length c.self.inside.items = omega (arith, c.if-len-le-FEW.false, c.len.ensures.items) in many)).each _)
    ∙ sym (node_found (steps_of c.args.trail.now) c.args.kind nodes))

pub returns-clause-apart : goal.returns-clause-apart
returns-clause-apart c = rw (← c.self.view_is) c.self.invariant.1

-- few nodes are gone through
pub returns-then-len-le-FEW-clause-found : goal.returns-then-len-le-FEW-clause-found
returns-then-len-le-FEW-clause-found c =
    rw (← c.self.view_is) (c.first_among.ensures ∙ ap (λ xs. node_index xs (place_on c.args.trail.now) (kind_of c.args.kind)) c.as_slice.ensures.items)

pub returns-then-len-le-FEW-clause-apart : goal.returns-then-len-le-FEW-clause-apart
returns-then-len-le-FEW-clause-apart c = rw (← c.self.view_is) c.self.invariant.1
