-- By what the walk over both trees finds.
use Rattle.std.proofs.Common.{ap, ◌∙◌}
use Rattle.run_places.specs.Drawn.{moved}
use Rattle.rt_tree.proofs.Kept.{kept_by, kept_known}
use Rattle.rt_tree.proofs.patch.kept_for.Goals as goal

pub invariant_of-side : goal.invariant_of-side
invariant_of-side g c =
    record {
      known = λ app tests.
          kept_known app _ _ c.args.tree c.args.old.now c.in_ok-found.found c.in_ok-nodes.nodes c.in_ok-seats.seats
          (c.in_ok-found.ensures.patches app tests) c.in_ok-nodes.ensures.items c.in_ok-seats.ensures.items;
    }

pub returns-clause-kept : goal.returns-clause-kept
returns-clause-kept g c = λ app tests.
    let was = c.args.old.now in
    kept_by app _ _ c.args.tree was c.in_ok-found.found _ _ _ _ _
    (c.in_ok-found.ensures.patches app tests) c.in_ok-nodes.ensures.items c.in_ok-seats.ensures.items
    (c.in_ok-numbers.ensures.moved ∙ ap (λ to. moved to was.numbers) c.as_slice.ensures.items)
    (c.in_ok-children.ensures.moved ∙ ap (λ to. moved to was.children) c.as_slice-2.ensures.items)
