-- A pair that was there is gone, and no other.
use Rattle.std.proofs.Common.{length, ◌∙◌}
use Rattle.run_state.proofs.Ranked.{one_less}
use Rattle.run_state.proofs.ranks.Ranks.remove.Goals as goal

pub returns : goal.returns
returns c =
    record {
      left = λ h n. rw (← c.self.view_is) (c.remove.ensures.updates.0 (h, n));
      fewer = rw (← c.self.view_is)
          (λ there. one_less (length c.remove.new.self.keys) (length c.self.inside.pairs.keys) c.remove.result (c.remove.ensures.test ∙ there) c.remove.ensures.len);
    }
