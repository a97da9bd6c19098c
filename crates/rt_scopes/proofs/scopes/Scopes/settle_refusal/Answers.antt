-- An error is thrown, a suspension is held.
use Rattle.rt_model.specs.Lists.{at}
use Rattle.rt_model.specs.Run.{suspends_on}
use Rattle.rt_scopes.proofs.Told.{told}
use Rattle.rt_scopes.proofs.scopes.Scopes.settle_refusal.Goals as goal

pub returns-in-Error : goal.returns-in-Error
returns-in-Error g c =
    record {
      settled = rw c.in-Error.is (λ app count. c.throw.ensures.thrown count);
    }

pub returns-in-Suspended : goal.returns-in-Suspended
returns-in-Suspended g c =
    record {
      settled =
          rw c.in-Suspended.is
          (λ app count.
          told (λ w. suspends_on w c.args.scope c.in-Suspended.future.origin.0 c.in-Suspended.future.task.0 (at w.tasks c.in-Suspended.future.task.0))
          c.args.self.now.state c.suspends_on.new.self count c.suspends_on.result c.suspends_on.ensures.done c.suspends_on.ensures.cut);
    }
