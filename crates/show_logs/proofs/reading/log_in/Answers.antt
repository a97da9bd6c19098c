use Rattle.std.proofs.Common.{rules, ◌≡◌, Some, None}
use Rattle.std.specs.Prelude.{codes}
use Rattle.serde_json.specs.View.{view, items_view}
use Rattle.lang_expressions.specs.Fields.{list_at}
use Rattle.show_logs.proofs.Runs.{log_reads, no_log}
use Rattle.show_logs.proofs.reading.log_in.Goals as goal

pub returns-in-Some : goal.returns-in-Some
returns-in-Some c =
    let items : Some (items_view c.in-Some.values.now) ≡ list_at (codes "log") (view c.args.value.now) = search rules in
    record { log = log_reads (view c.args.value.now) (items_view c.in-Some.values.now) c.lists.result items c.lists.ensures.lists }

pub returns-in-None : goal.returns-in-None
returns-in-None c =
    let none : None ≡ list_at (codes "log") (view c.args.value.now) = search rules in
    record { log = no_log (view c.args.value.now) none }
