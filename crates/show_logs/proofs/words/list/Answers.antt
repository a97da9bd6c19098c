use Rattle.std.proofs.Common.{rules, ◌≡◌, Some, None}
use Rattle.serde_json.specs.Find.{as_array}
use Rattle.serde_json.specs.View.{view, items_view}
use Rattle.show_logs.proofs.Items.{list_reads, no_array}
use Rattle.show_logs.proofs.words.list.Goals as goal

pub returns-in-Some : goal.returns-in-Some
returns-in-Some c =
    let items : as_array (view c.args.value.now) ≡ Some (items_view c.in-Some.values.now.items) = search rules in
    record { list = list_reads (view c.args.value.now) (items_view c.in-Some.values.now.items) c.entries.result items (search rules) }

pub returns-in-None : goal.returns-in-None
returns-in-None c =
    let none : as_array (view c.args.value.now) ≡ None = search rules in
    record { list = no_array (view c.args.value.now) none }
