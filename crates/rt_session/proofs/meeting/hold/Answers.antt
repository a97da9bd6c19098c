-- How a posted session ends, by what its parts come to.
use Rattle.std.proofs.lemmas.Result.{err_from_is_err_and}
use Rattle.rt_session.proofs.Holding.{left_failed, left_succeeded}
use Rattle.rt_session.proofs.Owning.{held_err, held_ok}
use Rattle.rt_session.proofs.meeting.hold.Goals as goal

pub returns-in_err-taken : goal.returns-in_err-taken
returns-in_err-taken g c =
    record {
      holds = λ props unbuilt.
          let p = err_from_is_err_and c.from_residual.result c.from_residual.ensures.1 in
          rw (p.1, p.2)
          (held_err (g.A.App.meaning c.args.app.now) c.args.limits props c.args.posts.now _ _ _ _ c.meet.new.sitting.drains c.meet.new.sitting.reports _ (c.in_err-taken.ensures.meets props unbuilt));
    }

pub returns-in_err-take_left : goal.returns-in_err-take_left
returns-in_err-take_left g c =
    record {
      holds = λ props unbuilt.
          let p = err_from_is_err_and c.from_residual-in_err-take_left.result c.from_residual-in_err-take_left.ensures.1 in
          let meets = c.in_ok-taken.ensures.meets props unbuilt in
          rw (p.1, p.2)
          (held_err (g.A.App.meaning c.args.app.now) c.args.limits props c.args.posts.now _ _ _ _ c.take_left.new.self.drains c.take_left.new.self.reports _
          (left_failed (g.A.App.meaning c.args.app.now) c.args.limits props c.args.posts.now _ _ _ _ _ _ c.meet.new.sitting c.take_left.new.self c.in_ok-taken.taken c.left.result.now
          c.in_err-take_left.field-0.0 meets c.left.ensures.left c.requires.drain (c.in_err-take_left.ensures.takes props _ _ meets.awaits) c.in_err-take_left.ensures.keeps));
    }

pub returns : goal.returns
returns g c =
    record {
      holds = λ props unbuilt.
          let meets = c.in_ok-taken.ensures.meets props unbuilt in
          held_ok (g.A.App.meaning c.args.app.now) c.args.limits props c.args.posts.now _ _ _ _ c.take_left.new.self.drains c.take_left.new.self.reports c.in_ok-taken.taken
          (left_succeeded (g.A.App.meaning c.args.app.now) c.args.limits props c.args.posts.now _ _ _ _ _ _ c.meet.new.sitting c.take_left.new.self c.in_ok-taken.taken c.left.result.now
          meets c.left.ensures.left (c.in_ok-take_left.ensures.takes props _ _ meets.awaits) c.in_ok-take_left.ensures.keeps);
    }
