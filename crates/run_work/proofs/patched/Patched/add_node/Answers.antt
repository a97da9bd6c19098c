-- The new tree has one more node, and the one that the side knows goes to it.
use Rattle.std.proofs.Common.{◌∙◌, ap}
use Rattle.run_places.specs.Places.{kind_of, place_of}
use Rattle.run_places.specs.Trails.{place_on, steps_of}
use Rattle.run_work.specs.After.{goes_to}
use Rattle.run_work.specs.Grounds.{known_or}
use Rattle.run_work.proofs.Founding.{node_added, node_place_is}
use Rattle.run_work.proofs.patched.Patched.add_node.Goals as goal

pub returns-clause-place : goal.returns-clause-place
returns-clause-place g c =
    let ground = c.args.ground.now in
    ap (λ s. place_of s) (c.in_ok-place.ensures ∙ ap (λ o. known_or o (steps_of c.args.trail.now)) c.node_place.ensures)
    ∙ node_place_is ground.side.now (steps_of c.args.trail.now) (kind_of c.args.kind) c.index_near-known.result c.index_near-known.ensures.found

pub returns-clause-stays : goal.returns-clause-stays
returns-clause-stays g c =
    let ground = c.args.ground.now in
    let place = ap (λ s. place_of s) (c.in_ok-copy.ensures.copy ∙ c.in_ok-place.ensures ∙ ap (λ o. known_or o (steps_of c.args.trail.now)) c.node_place.ensures)
    ∙ node_place_is ground.side.now (steps_of c.args.trail.now) (kind_of c.args.kind) c.index_near-known.result c.index_near-known.ensures.found in
    node_added ground c.args.self.now (place_on c.args.trail.now) c.args.kind c.index_near-known.result c.in_ok-copy.field-0 c.push.new.self c.go_to.new.to
    c.index_near-known.ensures.found place (c.go_to.ensures ∙ ap (λ n. goes_to c.args.self.now.nodes_to c.index_near-known.result n) c.len-next.ensures.items) c.in_ok-push.ensures.ok
