-- The search meets the numbers of the height.
use Rattle.std.proofs.Common.{◌∙◌}
use Rattle.run_state.proofs.MetRanks.{numbers_found, numbers_ascend, numbers_have}
use Rattle.run_state.proofs.ranks.Ranks.numbers_of.Goals as goal

pub returns : goal.returns
returns c =
    let found = c.numbers_at.ensures.front ∙ numbers_found c.self.inside.pairs.keys c.numbers_at.ensures.ordered c.args.height in
    record {
      ascending = rw found (numbers_ascend c.self.inside.pairs.keys c.numbers_at.ensures.ordered c.args.height);
      members = rw (← c.self.view_is) (rw found (numbers_have c.self.inside.pairs.keys c.numbers_at.ensures.ordered c.args.height));
    }
