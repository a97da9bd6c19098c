-- What the line has, with the entries that are still to come, is what it is to have.
use Rattle.std.proofs.Common.{◌≡◌, ◌++◌, drop, map}
use Rattle.json.specs.Json.{array}
use Rattle.json.specs.Tree.{items_tokens, json_tokens}
use Rattle.run_reports.specs.Seen.{entry_of}
use Rattle.show_objects.specs.Objects.{entry_items}
use Rattle.show_objects.proofs.reports.put_log.Given as goal

abbrev pub invariant-loop-entry : goal.invariant-loop-entry
invariant-loop-entry l =
    l.object ++ items_tokens (entry_items (map entry_of (drop l.entry-index l.log)))
    ≡ l.fn.object ++ json_tokens (array (entry_items (map entry_of l.log)))
