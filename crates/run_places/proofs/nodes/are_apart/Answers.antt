-- Things of which the keys rise differ, and else each was looked at.
use Rattle.run_places.specs.PlaceKeys.{node_key}
use Rattle.run_places.proofs.Keyed.{rising_apart}
use Rattle.run_places.proofs.nodes.are_apart.Goals as goal

pub returns-then-is_rising : goal.returns-then-is_rising
returns-then-is_rising c = λ yes. rising_apart node_key c.args.items.now c.args.sorted.now c.requires (c.is_rising.ensures c.if-is_rising.true)
