-- An answer settles, by whether there is a tree.
use Rattle.std.proofs.Common.{ap}
use Rattle.std.specs.Prelude.{Err}
use Rattle.rt_model.specs.Run.{raised, settled_answer}
use Rattle.tree_mirror.specs.Sealed.{element_of}
use Rattle.rt_scopes.specs.Bodies.{unanswered}
use Rattle.rt_scopes.specs.Outcomes.{no_work}
use Rattle.rt_scopes.proofs.Told.{comes_as, told}
use Rattle.rt_scopes.proofs.TreesAnswered.{no_tree_is}
use Rattle.rt_scopes.proofs.scopes.Scopes.settle.Goals as goal

pub returns-in-Ok : goal.returns-in-Ok
returns-in-Ok g c =
    record {
      settled = rw c.in-Ok.is (λ app count. told (λ w. raised w c.args.scope) c.args.self.now.state c.raised.new.self count c.raised.result c.raised.ensures.done c.raised.ensures.cut);
    }

pub returns-in-Err : goal.returns-in-Err
returns-in-Err g c =
    record {
      settled =
          rw c.in-Err.is
          (λ app count.
          comes_as (λ w. settled_answer app w c.args.scope (unanswered c.in-Err.refusal))
          (λ w. settled_answer app w c.args.scope (element_of {P = g.row.A.Denot} (Err c.in-Err.refusal)))
          c.args.self.now.state c.settle_refusal.new.self.state count count no_work c.settle_refusal.result
          (λ w. ap (λ a. settled_answer app w c.args.scope a) (no_tree_is g.row.A.Denot _ _ _ _ _ _ _ c.in-Err.refusal)) (c.settle_refusal.ensures.settled app count));
    }
