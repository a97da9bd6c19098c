-- What the machine built is what stands after it.
use Rattle.std.proofs.Common.{[], map, refl, sym, ◌∙◌}
use Rattle.tree_edits.specs.Documents.{edit_of}
use Rattle.law_behavior.proofs.Carried.{builds_carry_anew}
use Rattle.law_behavior.proofs.Doms.{given_builds_hold}
use Rattle.run_reports.specs.Seen.{entry_of, limits_of}
use Rattle.rt_model.specs.Replay.{start_with}
use Rattle.rt_vdom.proofs.Ran.{build_broken_as}
use Rattle.rt_vdom.proofs.dom.VirtualDom.build.Goals as goal

pub returns-in-Ok-clause-builds : goal.returns-in-Ok-clause-builds
returns-in-Ok-clause-builds g c =
    λ props firsts provided above started.
    let d = c.args.self.now in
    let app = g.A.App.meaning d.app in
    let lawful = g.met.A.App.lawful d.app in
    let ran = c.in-Ok.ensures.builds props firsts provided above started.unused started.first started.uncalled in
    let holds = given_builds_hold app lawful (limits_of d.limits) props firsts provided (map entry_of (c.in-Ok.report).log) (map edit_of ran.wrote) ran.last above ran.ran in
    record {
      wrote = ran.wrote;
      told = ran.told;
      counted = ran.counted;
      last = ran.last;
      ran = ran.ran;
      alone = ran.alone;
      holds = holds;
      carries = builds_carry_anew app lawful (limits_of d.limits) props firsts provided (map entry_of (c.in-Ok.report).log) (map edit_of ran.wrote) ran.last above ran.ran;
      enabled = ran.enabled;
      stands =
          record {
            built = refl;
            idle = (ran.rests).idle;
            kept = (ran.rests).kept;
            is = (ran.rests).is;
            counted = (ran.rests).counted;
            led = holds.leads;
          };
    }

pub returns-in-Err-clause-builds : goal.returns-in-Err-clause-builds
returns-in-Err-clause-builds g c =
    λ props firsts provided above started.
    let d = c.args.self.now in
    let app = g.A.App.meaning d.app in
    let cut = c.in-Err.ensures.cut props firsts provided above started.unused started.first in (
      λ fault why. cut.0 fault (sym c.fault.ensures.of ∙ why),
      λ none.
          build_broken_as app (limits_of d.limits) (start_with app props firsts provided []) (g.M.WriteMutations.taken c.args.to.now)
          (g.M.WriteMutations.taken c.build_report.new.sink) c.in-Err.ended c.fault.result c.fault.ensures.parts
          (cut.1 (sym c.fault.ensures.of ∙ none)),
    )

pub returns-in-Err-clause-caused : goal.returns-in-Err-clause-caused
returns-in-Err-clause-caused g c = c.fault.ensures.causes c.args.self.now.limits _ _ c.in-Err.ensures.err.cause
