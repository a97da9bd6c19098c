use Rattle.std.proofs.Common.{rules, ◌≡◌, length, true, false}
use Rattle.run_reports.specs.Seen.{entry_of}
use Rattle.rt_audit.proofs.Noted.{opens_none, opens_other, opens_with}
use Rattle.rt_audit.proofs.comparing.opened.Goals as goal

pub returns-in_default : goal.returns-in_default
returns-in_default c =
    let none : length c.args.list.now ≡ 0 = search rules in
    record { opened = opens_none (entry_of c.args.opening) c.args.list.now none }

pub returns-then-same : goal.returns-then-same
returns-then-same c =
    let holds : c.same.result ≡ true = search rules in
    record { opened = opens_with (entry_of c.args.opening) c.args.list.now c.in-Some.rest.now c.in-Some.first.now c.same.result (search rules) c.same.ensures.same holds }

pub returns-else-same : goal.returns-else-same
returns-else-same c =
    let no_other : c.same.result ≡ false = search rules in
    record { opened = opens_other (entry_of c.args.opening) c.args.list.now c.in-Some.rest.now c.in-Some.first.now c.same.result (search rules) c.same.ensures.same no_other }
