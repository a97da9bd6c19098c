-- What a render while suspended leaves.
use Rattle.std.proofs.Common.{map, sym, ap, ◌∙◌, subst}
use Rattle.std.specs.Prelude.{Some}
use Rattle.tree_edits.specs.Documents.{edit_of}
use Rattle.run_reports.specs.Seen.{limits_of}
use Rattle.rt_vdom.specs.Calls.{PartIn}
use Rattle.rt_vdom.proofs.Carried.{rendered_carries, stepped_carry}
use Rattle.rt_vdom.proofs.Ran.{any_way, render_broken_as, rests_in}
use Rattle.rt_vdom.proofs.Answered.{renders_err}
use Rattle.rt_vdom.proofs.dom.VirtualDom.render_suspended.Goals as goal

pub returns-in-Ok-clause-renders : goal.returns-in-Ok-clause-renders
returns-in-Ok-clause-renders g c =
    λ props whole w s.
    let d = c.args.self.now in
    let ran = c.in-Ok.ensures.renders props w (rests_in (λ app. g.A.App.meaning app) props whole w d s) (any_way (λ app. g.A.App.meaning app) props whole w d s) in
    record {
      wrote = ran.wrote;
      told = ran.told;
      log = ran.log;
      left = ran.left;
      went = ran.went;
      shows = ran.shows;
      answers_as = ran.answers;
      carries =
          rendered_carries (g.A.App.meaning d.app) (g.met.A.App.lawful d.app) (limits_of d.limits) props w ran.left ran.log (map edit_of ran.wrote)
          (any_way (λ app. g.A.App.meaning app) props whole w d s) ran.went;
      stands =
          record {
            built = s.built;
            idle = (ran.rests).idle;
            kept = (ran.rests).kept;
            is = (ran.rests).is;
            counted = (ran.rests).counted;
            led = ran.led;
          };
    }

pub returns-in-Err-clause-renders : goal.returns-in-Err-clause-renders
returns-in-Err-clause-renders g c =
    λ props whole w s.
    let d = c.args.self.now in
    let cut = c.in-Err.ensures.renders props w (rests_in (λ app. g.A.App.meaning app) props whole w d s) (any_way (λ app. g.A.App.meaning app) props whole w d s) in
    renders_err (λ app. g.A.App.meaning app) props w (g.M.WriteMutations.taken c.args.to.now) (g.M.WriteMutations.taken c.render_suspended.new.sink) c.ended.new.self
    c.ended.result
    (
    λ fault why.
    let cause = sym c.ended.ensures.of ∙ why in
    let far = cut fault cause in
    rw c.ended.ensures.others
    (record {
      cut = far;
      carries =
          λ units out.
          stepped_carry (g.A.App.meaning d.app) (g.met.A.App.lawful d.app) (limits_of d.limits) props w (far.last).state far.log
          (map edit_of far.wrote) (any_way (λ app. g.A.App.meaning app) props whole w d s) (far.stepped units out);
      stands =
          λ units out.
          let p = far.spent units out in
          rw (c.ended.ensures.spent units (cause ∙ ap (λ f. Some f) out))
          (record { built = s.built; idle = (p.2).idle; kept = (p.2).kept; is = (p.2).is; counted = (p.2).counted; led = p.1 });
    })
    )
    (
    λ what is none.
    let broke =
    c.in-Err.ensures.breaks props w (sym c.ended.ensures.of ∙ none) (rests_in (λ app. g.A.App.meaning app) props whole w d s)
    (any_way (λ app. g.A.App.meaning app) props whole w d s) in
    rw c.ended.ensures.others
    (render_broken_as (g.A.App.meaning d.app) (limits_of d.limits) w (g.M.WriteMutations.taken c.args.to.now)
    (g.M.WriteMutations.taken c.render_suspended.new.sink) c.in-Err.ended what
    (λ taken edits part. subst (λ f. PartIn f taken edits) is (c.ended.ensures.parts taken edits part)) broke)
    )

pub returns-in-Err-clause-caused : goal.returns-in-Err-clause-caused
returns-in-Err-clause-caused g c = c.ended.ensures.causes _ _ c.in-Err.ensures.err.cause

pub returns-in-Err-clause-fails : goal.returns-in-Err-clause-fails
returns-in-Err-clause-fails g c = λ built. c.ended.ensures.fails built
