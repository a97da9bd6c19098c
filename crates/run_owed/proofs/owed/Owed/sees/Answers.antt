-- Who is seen by the queues.
use Rattle.std.proofs.Common.{ap, ◌∙◌}
use Rattle.rt_model.specs.Lists.{has}
use Rattle.run_owed.specs.Changes.{owing_by}
use Rattle.run_owed.specs.Owing.{Owing}
use Rattle.run_owed.proofs.Firsts.{seen_has}
use Rattle.run_owed.proofs.owed.Owed.sees.Goals as goal

pub returns : goal.returns
returns c =
    record {
      seen = c.is_seen.ensures.seen
          ∙ seen_has (owing_by c.self.inside.told) c.self.inside.queues c.self.inside.next c.self.invariant c.args.scope
          ∙ ap (λ (p : Owing). has p.seen c.args.scope) c.self.view_is;
    }
