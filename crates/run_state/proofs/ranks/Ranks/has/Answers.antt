-- By the set.
use Rattle.run_state.proofs.ranks.Ranks.has.Goals as goal

pub returns : goal.returns
returns c = rw (← c.self.view_is) c.contains.ensures
