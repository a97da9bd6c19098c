-- The build, and then the drains.
use Rattle.std.proofs.Common.{◌∙◌, ap, sym}
use Rattle.std.proofs.lemmas.Result.{err_from_is_err_and}
use Rattle.rt_model.specs.Lists.{joined}
use Rattle.rt_session.proofs.Owning.{owned, same_taken}
use Rattle.rt_session.proofs.meeting.own.Goals as goal

pub returns-in_err-build : goal.returns-in_err-build
returns-in_err-build g c =
    record {
      owns =
          let p = err_from_is_err_and c.from_residual.result c.from_residual.ensures.1 in
          rw (p.1, p.2)
          (owned (g.A.App.meaning c.args.app.now) c.args.limits c.args.inbox.now c.args.owner.now c.args.owner.now _ _ _ _ c.args.sitting.now c.build.new.self _ c.requires.own
          c.in_err-build.ensures.takes (same_taken c.args.owner.now c.args.sitting.now.drains c.build.new.self.drains c.in_err-build.field-0.0 c.in_err-build.ensures.drains));
    }

pub returns : goal.returns
returns g c =
    record {
      owns =
          owned (g.A.App.meaning c.args.app.now) c.args.limits c.args.inbox.now c.args.owner.now c.attend.new.owner _ _ _ _ c.args.sitting.now c.attend.new.sitting c.attend.result c.attend.ensures.own
          (λ props unbuilt. c.attend.ensures.takes props (g.M.WriteMutations.taken c.args.sink.now) (g.M.WriteMutations.faults c.args.sink.now) (c.in_ok-build.ensures.takes props unbuilt))
          (λ start. c.attend.ensures.taken (start ∙ sym (ap joined c.in_ok-build.ensures.drains)));
    }
