-- They are the pairs of the set, which ascend.
use Rattle.std.proofs.Common.{◌∙◌}
use Rattle.run_state.proofs.ranks.Ranks.iter.Goals as goal

pub returns : goal.returns
returns c = record { pairs = c.iter.ensures.rest ∙ c.self.view_is; ascending = rw (← c.self.view_is) c.iter.ensures.ordered }
