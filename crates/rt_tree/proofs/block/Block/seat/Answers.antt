-- A child scope more leaves the tree.
use Rattle.std.proofs.Common.{ap, refl}
use Rattle.rt_tree.proofs.Told.{output_stays, still_there}
use Rattle.rt_tree.proofs.block.Block.seat.Goals as goal

pub invariant_of-self : goal.invariant_of-self
invariant_of-self g c =
    let was = c.args.self.now.side in
    record { there = still_there was c.seat.new.self c.args.self.now.there (output_stays c.seat.result was _ c.seat.new.self refl c.seat.ensures.others c.seat.ensures.err) }

pub returns-in_err-seat-clause-tree : goal.returns-in_err-seat-clause-tree
returns-in_err-seat-clause-tree g c = ap (λ s. s.output) c.in_err-seat.ensures.err

pub returns-clause-tree : goal.returns-clause-tree
returns-clause-tree g c = ap (λ s. s.output) c.in_ok-seat.ensures.others
