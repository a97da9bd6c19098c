-- A number more leaves the tree.
use Rattle.std.proofs.Common.{ap, refl}
use Rattle.rt_tree.proofs.Told.{output_stays, still_there}
use Rattle.rt_tree.proofs.block.Block.draw.Goals as goal

pub invariant_of-self : goal.invariant_of-self
invariant_of-self g c =
    let was = c.args.self.now.side in
    record { there = still_there was c.draw.new.self c.args.self.now.there (output_stays c.draw.result was _ c.draw.new.self refl c.draw.ensures.others c.draw.ensures.err) }

pub returns-in_err-draw-clause-tree : goal.returns-in_err-draw-clause-tree
returns-in_err-draw-clause-tree g c = ap (λ s. s.output) c.in_err-draw.ensures.err

pub returns-clause-tree : goal.returns-clause-tree
returns-clause-tree g c = ap (λ s. s.output) c.in_ok-draw.ensures.others
