use Rattle.tree_nodes.proofs.TreePlaces.{places_apart}
use Rattle.tree_fits.proofs.node_test.fits.Goals as goal

pub returns-clause-apart : goal.returns-clause-apart
returns-clause-apart g c = places_apart c.args.node.now
