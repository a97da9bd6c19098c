-- A node that stands elsewhere is passed, and one that stands there is the first.
use Rattle.std.proofs.Common.{◌∙◌, sym}
use Rattle.run_places.specs.Places.{kind_of}
use Rattle.run_places.specs.Trails.{place_on}
use Rattle.run_places.proofs.Firsts.{node_here, node_passed, none_after}
use Rattle.run_places.proofs.nodes.first_among.Goals as goal

pub loop-index-preserved : goal.loop-index-preserved
loop-index-preserved c =
    sym (node_passed c.args.items.now c.loop-index.index c.loop-index.index (place_on c.args.trail.now) (kind_of c.args.kind) c.loop-index-test.true (sym c.stands_on.ensures ∙ c.if-stands_on.false))
    ∙ c.loop-index.invariant

pub returns-then-stands_on : goal.returns-then-stands_on
returns-then-stands_on c =
    sym (node_here c.args.items.now c.loop-index.index c.loop-index.index (place_on c.args.trail.now) (kind_of c.args.kind) c.loop-index-test.true (sym c.stands_on.ensures ∙ c.if-stands_on.true))
    ∙ c.loop-index.invariant

pub returns : goal.returns
returns c = sym (none_after c.args.items.now c.loop-index.index c.loop-index.index (place_on c.args.trail.now) (kind_of c.args.kind) c.loop-index-test.false) ∙ c.loop-index.invariant
