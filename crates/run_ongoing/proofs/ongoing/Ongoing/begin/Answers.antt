-- Why it ends early, as a fault.
use Rattle.std.proofs.Common.{[]}
use Rattle.run_ongoing.proofs.Ended.{ends_at}
use Rattle.run_ongoing.proofs.ongoing.Ongoing.begin.Goals as goal

pub returns-in-Ok-clause-begins : goal.returns-in-Ok-clause-begins
returns-in-Ok-clause-begins g c = c.in-Ok.ensures.begins

pub returns-in-Err-clause-begins : goal.returns-in-Err-clause-begins
returns-in-Err-clause-begins g c =
    ends_at (g.A.App.meaning c.args.app) c.args.limits c.args.root_props []
    (g.M.WriteMutations.taken c.args.sink.now) (g.M.WriteMutations.taken c.build.new.sink) [] c.in-Err.ended c.fault.result (g.met.A.App.lawful c.args.app)
    (c.laws_of.ensures).came_to c.fault.ensures.of c.fault.ensures.parts c.in-Err.ensures.begins

pub returns-in-Err-clause-refused : goal.returns-in-Err-clause-refused
returns-in-Err-clause-refused g c =
    c.fault.ensures.causes c.args.limits (g.M.WriteMutations.faults c.args.sink.now) (g.M.WriteMutations.faults c.build.new.sink) (c.in-Err.ensures.err).cause

pub returns-in-Err-clause-counted : goal.returns-in-Err-clause-counted
returns-in-Err-clause-counted g c = (c.in-Err.ensures.err).later

pub returns-in-Ok-clause-counted : goal.returns-in-Ok-clause-counted
returns-in-Ok-clause-counted g c = (c.in-Ok.ensures.took).later
