-- A node that breaks nothing, one that breaks a rule, or none.
use Rattle.std.proofs.Common.{◌∙◌, ap, sym}
use Rattle.author_pieces.specs.Breaches.{bad_in}
use Rattle.author_pieces.proofs.BreachLemmas.{bad-end, bad-next, bad-stop}
use Rattle.author_pieces.proofs.breaches.+bad_in.Goals as goal

pub bad_among-loop-index-preserved : goal.bad_among-loop-index-preserved
bad_among-loop-index-preserved g t c =
    c.loop-index.invariant ∙
    bad-next c.args.slots.now c.args.nodes.now c.args.above.now c.loop-index.index _ c.loop-index-test.true c.index-nodes-index.is
    (ap (bad_in c.args.slots.now _) (sym c.in_ok-path.ensures.path) ∙ sym c.in_ok-bad.ensures.bad ∙ c.in-None.is)

pub bad_among-returns-in-Some : goal.bad_among-returns-in-Some
bad_among-returns-in-Some g t c =
    record {
      bad =
          sym (c.loop-index.invariant ∙
          bad-stop c.args.slots.now c.args.nodes.now c.args.above.now c.loop-index.index _ _ c.loop-index-test.true c.index-nodes-index.is
          (ap (bad_in c.args.slots.now _) (sym c.in_ok-path.ensures.path) ∙ sym c.in_ok-bad.ensures.bad ∙ c.in-Some.is));
    }

pub bad_among-returns : goal.bad_among-returns
bad_among-returns g t c =
    record {
      bad =
          bad-end c.args.slots.now c.args.nodes.now c.args.above.now c.loop-index.index c.loop-index-test.false ∙
          sym c.loop-index.invariant;
    }
