-- What the walk finds is what the definitions keep and serve, and what stands in the new tree.
use Rattle.std.proofs.Common.{ap, ◌∙◌}
use Rattle.run_places.specs.Drawn.{moved}
use Rattle.rt_scopes.proofs.Agendas.{patched_known, patches}
use Rattle.rt_scopes.proofs.KeptLess.{side_known, side_picked, side_seats}
use Rattle.rt_scopes.proofs.agenda.patched_side.Goals as goal

pub invariant_of-side : goal.invariant_of-side
invariant_of-side g c =
    record {
      known = λ app tests.
          patched_known app c.args.scope c.args.name c.args.tree c.args.was.now _ c.in_ok-nodes.nodes c.in_ok-seats.seats
          (c.in_ok-served.ensures.patches app tests) c.in_ok-nodes.ensures.items c.in_ok-seats.ensures.items;
    }

pub returns-clause-patches : goal.returns-clause-patches
returns-clause-patches g c = λ app tests.
    let found =
    patches app c.args.scope c.args.name c.args.tree c.args.was.now _ c.in_ok-work.work _ _ _ _
    (c.in_ok-served.ensures.patches app tests) c.in_ok-work.ensures c.in_ok-nodes.ensures.items c.in_ok-seats.ensures.items
    (c.in_ok-numbers.ensures.moved ∙ ap (λ to. moved to c.args.was.now.numbers) c.as_slice.ensures.items)
    (c.in_ok-children.ensures.moved ∙ ap (λ to. moved to c.args.was.now.children) c.as_slice-2.ensures.items) in
    record { work_is = found.0; side_is = found.1 }

pub returns-clause-fewer : goal.returns-clause-fewer
returns-clause-fewer g c =
    side_picked c.args.was.now _ _ _ _ c.in_ok-served.ensures.goes c.in_ok-nodes.ensures.items
    (c.in_ok-numbers.ensures.moved ∙ ap (λ to. moved to c.args.was.now.numbers) c.as_slice.ensures.items)

pub returns-clause-known : goal.returns-clause-known
returns-clause-known g c =
    side_known c.args.was.now _ _ _ _ c.in_ok-served.ensures.goes c.in_ok-nodes.ensures.items
    (c.in_ok-numbers.ensures.moved ∙ ap (λ to. moved to c.args.was.now.numbers) c.as_slice.ensures.items)

pub returns-clause-seats : goal.returns-clause-seats
returns-clause-seats g c =
    record {
      stood =
          side_seats c.args.was.now c.in_ok-seats.seats c.in_ok-children.children _ c.in_ok-served.ensures.seats
          (c.in_ok-children.ensures.moved ∙ ap (λ to. moved to c.args.was.now.children) c.as_slice-2.ensures.items);
    }
