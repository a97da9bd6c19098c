use Rattle.std.proofs.Common.{rules, ◌<◌, ◌≤◌, ◌∙◌, length}
use Rattle.run_reports.specs.Seen.{entry_of}
use Rattle.rt_audit.proofs.Noted.{begins_here, none_begins}
use Rattle.rt_audit.proofs.comparing.has_at.Goals as goal

pub returns-then-at-list : goal.returns-then-at-list
returns-then-at-list c =
    let low : c.args.at < length c.args.list.now = search rules in
    record { has = c.same.ensures.same ∙ begins_here (entry_of c.args.entry) c.args.list.now c.args.at _ low }

pub returns-else-at-list : goal.returns-else-at-list
returns-else-at-list c =
    let past : length c.args.list.now ≤ c.args.at = search rules in
    record { has = none_begins (entry_of c.args.entry) c.args.list.now c.args.at past }
