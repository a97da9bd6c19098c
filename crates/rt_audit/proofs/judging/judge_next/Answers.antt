use Rattle.std.proofs.Common.{rules, ◌≡◌, ◌≤◌, ◌+◌, ◌∷◌, length, map, sym, subst, arith}
use Rattle.std.proofs.lemmas.List.{length-map}
use Rattle.run_reports.specs.Seen.{entry_of, input_of, limits_of}
use Rattle.rt_audit.specs.Finding.{boundless}
use Rattle.rt_audit.specs.Judging.{ListJudged}
use Rattle.rt_audit.proofs.Lists.{none_left, next_stops, reaches_next}
use Rattle.rt_audit.proofs.judging.judge_next.Goals as goal

pub returns-in_default-clause-judged : goal.returns-in_default-clause-judged
returns-in_default-clause-judged g c =
    let past : length c.args.log.now ≤ c.args.report = search rules in
    λ props all left taken is reaches.
    sym (
    none_left (g.A.App.meaning c.args.app.now) (limits_of boundless) props all (map (map entry_of) c.args.log.now) (input_of c.args.input ∷ left) taken
    c.args.report c.args.machine.now is (let count = length-map c.args.log.now (map entry_of) in omega (arith, past, count)) reaches)

pub returns-in-Some-stops-clause-judged : goal.returns-in-Some-stops-clause-judged
returns-in-Some-stops-clause-judged g c =
    λ props all left taken is reaches.
    let app = g.A.App.meaning c.args.app.now in
    let counted : c.args.report ≡ taken + 1 = omega (arith, is) in
    let there = c.in-Some.ensures.list in
    let judged =
    c.in_ok-stops.ensures.judged props all left taken reaches.last counted reaches.follows in
    sym (
    next_stops app (limits_of boundless) props all (map (map entry_of) c.args.log.now) (map entry_of c.in-Some.list.now) left (input_of c.args.input) taken
    c.args.report c.in-Some-stops.entry c.args.machine.now c.judge_input.new.machine is there.1 reaches
    (
    subst (λ o. ListJudged app (limits_of boundless) props all c.args.report reaches.last left (map entry_of c.in-Some.list.now) c.judge_input.new.machine o)
    c.in-Some-stops.is judged
    ))

pub returns-in-None-clause-judged : goal.returns-in-None-clause-judged
returns-in-None-clause-judged g c =
    λ props all left taken is reaches.
    let app = g.A.App.meaning c.args.app.now in
    let counted : c.args.report ≡ taken + 1 = omega (arith, is) in
    let there = c.in-Some.ensures.list in
    let judged =
    c.in_ok-stops.ensures.judged props all left taken reaches.last counted reaches.follows in
    reaches_next app (limits_of boundless) props all (map (map entry_of) c.args.log.now) (map entry_of c.in-Some.list.now) left (input_of c.args.input) taken
    c.args.report c.args.machine.now c.judge_input.new.machine is there.1 reaches
    (
    subst (λ o. ListJudged app (limits_of boundless) props all c.args.report reaches.last left (map entry_of c.in-Some.list.now) c.judge_input.new.machine o)
    c.in-None.is judged
    )
