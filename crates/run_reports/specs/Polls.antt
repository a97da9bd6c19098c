-- What a poll answers.
use Rattle.std.specs.Prelude.{Bool, true, false}
use Rattle.run_reports.specs.declared.poll.Poll.{Poll}
use Rattle.run_reports.specs.declared.poll.Poll.TheVariants as polls

-- ready, or pending
abbrev pub told_by : Bool → Poll (Unit {0})
told_by true = polls.Ready tt
told_by false = polls.Pending
