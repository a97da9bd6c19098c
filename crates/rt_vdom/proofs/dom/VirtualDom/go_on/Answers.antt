-- From what the machine did to what stands after it.
use Rattle.std.proofs.Common.{map, sym, ap, ◌∙◌, subst}
use Rattle.std.specs.Prelude.{Some}
use Rattle.tree_edits.specs.Documents.{edit_of}
use Rattle.run_reports.specs.Seen.{entry_of, limits_of}
use Rattle.run_answers.specs.Untils.{until_of}
use Rattle.rt_vdom.specs.Calls.{PartIn}
use Rattle.law_behavior.proofs.Carried.{spent_carry_anew}
use Rattle.rt_vdom.proofs.Carried.{carries_by}
use Rattle.rt_vdom.proofs.Ran.{call_broken_as, holds_by, leads_by, comes_by, spent_by, rests_in}
use Rattle.rt_vdom.proofs.Stilled.{silent_by, still_by, stopped_silent_by}
use Rattle.rt_vdom.proofs.Answered.{runs_err}
use Rattle.rt_vdom.proofs.dom.VirtualDom.go_on.Goals as goal

pub returns-in-Ok-clause-runs : goal.returns-in-Ok-clause-runs
returns-in-Ok-clause-runs g c =
    λ props whole w s.
    let d = c.args.self.now in
    let lawful = g.met.A.App.lawful d.app in
    let until = until_of c.args.until in
    let ran = c.in-Ok.ensures.runs props whole w (rests_in (λ app. g.A.App.meaning app) props whole w d s) s.led in
    let holds = holds_by (λ app. g.A.App.meaning app) d.app lawful d.limits props whole w s.led until (map entry_of (c.in-Ok.report).log) (map edit_of ran.wrote) ran.last ran.ran in
    let silent = silent_by (g.A.App.meaning d.app) (limits_of d.limits) w until (map entry_of (c.in-Ok.report).log) ran.wrote ran.last ran.ran in
    record {
      wrote = ran.wrote;
      told = ran.told;
      counted = ran.counted;
      last = ran.last;
      ran = ran.ran;
      holds = holds;
      silent = silent;
      still = still_by (λ app. g.A.App.meaning app) d.app d.limits props whole w until (map entry_of (c.in-Ok.report).log) ran.wrote ran.last silent holds;
      carries = carries_by (g.A.App.meaning d.app) lawful (limits_of d.limits) props whole w s.led until (map entry_of (c.in-Ok.report).log) (map edit_of ran.wrote) ran.last ran.ran;
      enabled = ran.enabled;
      stands =
          record {
            built = s.built;
            idle = (ran.rests).idle;
            kept = (ran.rests).kept;
            is = (ran.rests).is;
            counted = (ran.rests).counted;
            led = leads_by (λ app. g.A.App.meaning app) d.app lawful d.limits props whole w s.led until (map entry_of (c.in-Ok.report).log) (map edit_of ran.wrote) ran.last holds;
          };
    }

pub returns-in-Err-clause-runs : goal.returns-in-Err-clause-runs
returns-in-Err-clause-runs g c =
    λ props whole w s.
    let d = c.args.self.now in
    let lawful = g.met.A.App.lawful d.app in
    let until = until_of c.args.until in
    let before = g.M.WriteMutations.taken c.args.to.now in
    let after = g.M.WriteMutations.taken c.run_report.new.sink in
    let ran = c.in-Err.ensures.runs props whole w (rests_in (λ app. g.A.App.meaning app) props whole w d s) s.led in
    runs_err (λ app. g.A.App.meaning app) until props whole w before after c.ended.new.self c.ended.result
    (
    λ fault why.
    let cause = sym c.ended.ensures.of ∙ why in
    let far = ran fault cause in
    rw c.ended.ensures.others
    (record {
      wrote = far.wrote;
      told = far.told;
      log = far.log;
      stopped = far.stopped;
      silent = stopped_silent_by (g.A.App.meaning d.app) (limits_of d.limits) w until far.log far.wrote fault far.stopped;
      comes_to = comes_by (λ app. g.A.App.meaning app) d.app lawful d.limits props whole w s.led until far.log (map edit_of far.wrote) fault far.stopped;
      spent =
          λ units out.
          let p = far.spent units out in
          let holds = spent_by (λ app. g.A.App.meaning app) d.app lawful d.limits props whole w s.led far.log (map edit_of far.wrote) p.last p.spent in
          rw (c.ended.ensures.spent units (cause ∙ ap (λ f. Some f) out))
          (record {
            last = p.last;
            holds = holds;
            carries = spent_carry_anew (g.A.App.meaning d.app) lawful (limits_of d.limits) props whole w far.log (map edit_of far.wrote) p.last s.led p.spent;
            stands = record { built = s.built; idle = (p.rests).idle; kept = (p.rests).kept; is = (p.rests).is; counted = (p.rests).counted; led = holds.leads };
          });
    })
    )
    (
    λ what is none.
    let broke = c.in-Err.ensures.breaks props whole w (sym c.ended.ensures.of ∙ none) (rests_in (λ app. g.A.App.meaning app) props whole w d s) s.led in
    rw c.ended.ensures.others
    (call_broken_as (g.A.App.meaning d.app) (limits_of d.limits) w until before after c.in-Err.ended what
    (λ taken edits part. subst (λ f. PartIn f taken edits) is (c.ended.ensures.parts taken edits part)) broke)
    )

pub returns-in-Err-clause-caused : goal.returns-in-Err-clause-caused
returns-in-Err-clause-caused g c = c.ended.ensures.causes _ _ c.in-Err.ensures.err.cause

pub returns-in-Err-clause-fails : goal.returns-in-Err-clause-fails
returns-in-Err-clause-fails g c = λ built. c.ended.ensures.fails built
