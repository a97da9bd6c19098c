use Rattle.std.proofs.Common.{rules, ◌≡◌, ◌∷◌, false, map}
use Rattle.rt_model.specs.Replay.{Taken}
use Rattle.run_reports.specs.Seen.{entry_of, input_of, limits_of}
use Rattle.rt_audit.specs.Finding.{boundless}
use Rattle.rt_audit.specs.Fronts.{begins_with}
use Rattle.run_machine.proofs.Opening.{taking}
use Rattle.rt_audit.proofs.Lists.{taken_keeps, taken_lists, unopened}
use Rattle.rt_audit.proofs.judging.judge_input.Goals as goal

pub returns-in_default : goal.returns-in_default
returns-in_default g c =
    let other : begins_with (Taken c.args.number) (map entry_of c.args.list.now) ≡ false = search rules in
    record {
      judged = λ props inputs left taken last counted follows later.
          unopened (g.A.App.meaning c.args.app.now) (limits_of boundless) props inputs c.args.number taken last (map entry_of c.args.list.now) counted other later;
    }

pub returns : goal.returns
returns g c =
    let opens : map entry_of c.args.list.now ≡ Taken c.args.number ∷ map entry_of c.in-Some.rest.now = search rules in
    record {
      judged = λ props inputs left taken last counted follows.
          let app = g.A.App.meaning c.args.app.now in
          let limits = limits_of boundless in
          let keeps =
          taken_keeps app limits props inputs (map entry_of c.in-Some.rest.now) left (input_of c.args.input) taken c.args.number last c.args.machine.now
          c.receive.new.self counted follows (λ kept. c.in_ok-receive.ensures.received kept (input_of c.args.input ∷ left) left taken)
          c.receive.ensures.first c.receive.ensures.work c.receive.ensures.course in
          taken_lists app limits props inputs (map entry_of c.args.list.now) (map entry_of c.in-Some.rest.now) left taken c.args.number last c.follow.new.machine
          c.follow.result counted opens (c.follow.ensures.judges (taking app limits props inputs left c.args.number last) keeps);
    }
