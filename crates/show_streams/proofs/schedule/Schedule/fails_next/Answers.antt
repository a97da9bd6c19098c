-- The count of failures goes up with the call that is counted.
use Rattle.show_streams.proofs.Rises.{failures_later, failures_rise}
use Rattle.show_streams.proofs.schedule.Schedule.fails_next.Goals as goal

pub returns-clause-later : goal.returns-clause-later
returns-clause-later c = failures_later c.args.self.now.fails c.args.self.now.calls

pub returns-clause-cause : goal.returns-clause-cause
returns-clause-cause c = λ fails. failures_rise c.args.self.now.fails c.args.self.now.calls (cc)
