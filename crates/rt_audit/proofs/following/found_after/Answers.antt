use Rattle.std.proofs.Common.{map}
use Rattle.run_reports.specs.Seen.{entry_of}
use Rattle.rt_audit.proofs.Found.{behind_says}
use Rattle.rt_audit.proofs.following.found_after.Goals as goal

pub returns-in-Some : goal.returns-in-Some
returns-in-Some c = record {
  says = λ front.
      behind_says c.args.turn (map entry_of c.args.noted.now) (map entry_of c.args.list.now) c.in-Some.at c.bad_behind.result (c.in-Some.ensures.parted front)
      c.bad_behind.ensures.bad;
}

pub returns-in-None : goal.returns-in-None
returns-in-None c = record { says = λ front. c.found_at_end.ensures.says (c.in-None.ensures.parted front) }
