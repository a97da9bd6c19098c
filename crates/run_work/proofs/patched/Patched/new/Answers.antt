-- Nothing was found yet.
use Rattle.std.proofs.Common.{◌∙◌, ap, length, replicate}
use Rattle.std.specs.Prelude.{None}
use Rattle.run_work.proofs.Founding.{nothing_found}
use Rattle.run_work.proofs.patched.Patched.new.Goals as goal

pub returns-clause-none : goal.returns-clause-none
returns-clause-none g c =
    nothing_found _ (length c.args.side.now.nodes) (length c.args.side.now.seats) c.in_ok-with_room.ensures.empty c.new.ensures.empty c.in_ok-with_room-2.ensures.empty c.in_ok-with_room-3.ensures.empty
    (c.in_ok-nowhere.ensures ∙ ap (λ xs. replicate (length xs) None) c.as_slice-nodes.ensures.items)
    (c.in_ok-nowhere-2.ensures ∙ ap (λ xs. replicate (length xs) None) c.as_slice-seats.ensures.items)

pub returns-clause-nodes_apart : goal.returns-clause-nodes_apart
returns-clause-nodes_apart g c = c.as_slice-nodes.ensures.apart

pub returns-clause-seats_apart : goal.returns-clause-seats_apart
returns-clause-seats_apart g c = c.as_slice-seats.ensures.apart
