-- What a poll of suspended work leaves.
use Rattle.std.proofs.Common.{sym, ap, ◌∙◌}
use Rattle.std.specs.Prelude.{Some}
use Rattle.rt_vdom.proofs.Ran.{any_way, rests_in}
use Rattle.rt_vdom.proofs.Answered.{polls_on_err}
use Rattle.rt_vdom.proofs.dom.VirtualDom.poll_suspended.Goals as goal

pub returns-in-Ok-clause-polls : goal.returns-in-Ok-clause-polls
returns-in-Ok-clause-polls g c =
    λ props whole w s.
    let d = c.args.self.now in
    let ran = c.in-Ok.ensures.polls props w (rests_in (λ app. g.A.App.meaning app) props whole w d s) (any_way (λ app. g.A.App.meaning app) props whole w d s) in
    record {
      log = ran.log;
      left = ran.left;
      went = ran.went;
      shows = ran.shows;
      stands =
          record {
            built = s.built;
            idle = (ran.rests).idle;
            kept = (ran.rests).kept;
            is = (ran.rests).is;
            counted = (ran.rests).counted;
            led = ran.led;
          };
    }

pub returns-in-Err-clause-polls : goal.returns-in-Err-clause-polls
returns-in-Err-clause-polls g c =
    λ props whole w s.
    let d = c.args.self.now in
    let cut = c.in-Err.ensures.polls props w (rests_in (λ app. g.A.App.meaning app) props whole w d s) (any_way (λ app. g.A.App.meaning app) props whole w d s) in
    polls_on_err (λ app. g.A.App.meaning app) props w c.ended.new.self c.ended.result
    (
    λ fault why.
    let cause = sym c.ended.ensures.of ∙ why in
    let far = cut fault cause in
    rw c.ended.ensures.others
    (record {
      cut = far;
      stands =
          λ units out.
          let p = far.spent units out in
          rw (c.ended.ensures.spent units (cause ∙ ap (λ f. Some f) out))
          (record { built = s.built; idle = (p.2).idle; kept = (p.2).kept; is = (p.2).is; counted = (p.2).counted; led = p.1 });
    })
    )

pub returns-in-Err-clause-caused : goal.returns-in-Err-clause-caused
returns-in-Err-clause-caused g c = c.ended.ensures.causes 0 0 c.in-Err.ensures.err.cause

pub returns-in-Err-clause-fails : goal.returns-in-Err-clause-fails
returns-in-Err-clause-fails g c = λ built. c.ended.ensures.fails built
