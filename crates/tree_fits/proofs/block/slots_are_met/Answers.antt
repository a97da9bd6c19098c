-- The walk ends with all slots seen exactly where they are met in order.
use Rattle.tree_nodes.specs.Met.{met_in}
use Rattle.tree_fits.specs.Walk.{sought_by}
use Rattle.tree_fits.proofs.BlockLemmas.{ended-met_as}
use Rattle.tree_fits.proofs.WalkLemmas.{path_of-Top}
use Rattle.tree_fits.proofs.block.slots_are_met.Goals as goal

pub returns : goal.returns
returns g c =
    let ended = ended-met_as (sought_by c.args.block.now) (met_in c.args.block.now.template.now.roots) in
    cc (path_of-Top, ended)
