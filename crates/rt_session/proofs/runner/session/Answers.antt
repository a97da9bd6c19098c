-- What was done holds, by the law of sessions; a fault comes for its cause.
use Rattle.std.proofs.Common.{◌∙◌, map, sym}
use Rattle.run_reports.specs.Seen.{input_of, limits_of}
use Rattle.rt_session.proofs.Ending.{never_some, never_refused}
use Rattle.rt_session.proofs.Held.{broken_of, came_of, carried_of, headlined_of, valid_of}
use Rattle.rt_session.proofs.runner.session.Goals as goal

pub returns-clause-refused : goal.returns-clause-refused
returns-clause-refused g c =
    let e = c.in-Err.ensures.err in
    c.fault.ensures.causes c.args.limits (g.M.WriteMutations.faults c.args.sink.now) (g.M.WriteMutations.faults c.run_all.new.sink) e.cause

pub returns-clause-counted : goal.returns-clause-counted
returns-clause-counted g c = (c.in-Err.ensures.err).later

pub returns-in-Ok-clause-counted : goal.returns-in-Ok-clause-counted
returns-in-Ok-clause-counted g c = (c.in-Ok.ensures.took).later

pub returns-clause-broke_off : goal.returns-clause-broke_off
returns-clause-broke_off g c = λ none.
    broken_of (g.A.App.meaning c.args.app) c.laws_of.ensures (g.met.A.App.lawful c.args.app) c.args.root_props (map input_of c.args.inputs) (limits_of c.args.limits)
    _ _ _ _ _ c.fault.ensures.parts (c.in-Err.ensures.runs.1 (sym c.fault.ensures.of ∙ none))

-- the inputs are valid
pub returns-in-Ok-clause-valid : goal.returns-in-Ok-clause-valid
returns-in-Ok-clause-valid g c =
    valid_of (g.A.App.meaning c.args.app) c.laws_of.ensures (g.met.A.App.lawful c.args.app) c.args.root_props (map input_of c.args.inputs) (limits_of c.args.limits)
    _ _ _ c.in-Ok.ensures.runs

-- the headline, and how a fault was come to
pub returns-in-Ok-clause-headline : goal.returns-in-Ok-clause-headline
returns-in-Ok-clause-headline g c =
    headlined_of (g.A.App.meaning c.args.app) c.laws_of.ensures (g.met.A.App.lawful c.args.app) c.args.root_props (map input_of c.args.inputs) (limits_of c.args.limits)
    _ _ _ c.in-Ok.ensures.runs

-- the numbers of its edits
pub returns-in-Ok-clause-carried : goal.returns-in-Ok-clause-carried
returns-in-Ok-clause-carried g c =
    carried_of (g.A.App.meaning c.args.app) c.laws_of.ensures (g.met.A.App.lawful c.args.app) c.args.root_props (map input_of c.args.inputs) (limits_of c.args.limits)
    _ _ _ c.in-Ok.ensures.runs

pub returns-clause-came_to : goal.returns-clause-came_to
returns-clause-came_to g c = λ fault why.
    came_of (g.A.App.meaning c.args.app) c.laws_of.ensures (g.met.A.App.lawful c.args.app) c.args.root_props (map input_of c.args.inputs) (limits_of c.args.limits)
    _ _ _ fault (c.in-Err.ensures.runs.0 fault (sym c.fault.ensures.of ∙ why))

-- where each log comes to no refusal, none was come to
pub returns-clause-completes : goal.returns-clause-completes
returns-clause-completes g c = λ valid.
    never_some _ (λ fault why. never_refused _ _ _ _ _ _ fault valid (c.in-Err.ensures.runs.0 fault (sym c.fault.ensures.of ∙ why)).ran_to)
