-- The tree of a block is there.
use Rattle.rt_tree.proofs.block.Block.tree.Goals as goal

pub unreachable-requires : goal.unreachable-requires
unreachable-requires g c = absurd (c.args.self.now.there c.in-None.is)
