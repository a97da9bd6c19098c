-- What the line has, with the listeners that are still to come, is what it is to have.
use Rattle.std.proofs.Common.{◌≡◌, ◌++◌, drop}
use Rattle.json.specs.Json.{array}
use Rattle.json.specs.Tree.{items_tokens, json_tokens}
use Rattle.show_objects.specs.Objects.{name_items}
use Rattle.show_objects.proofs.nodes.put_listeners.Given as goal

abbrev pub invariant-loop-name : goal.invariant-loop-name
invariant-loop-name l =
    l.object ++ items_tokens (name_items (drop l.name-index l.listeners)) ≡ l.fn.object ++ json_tokens (array (name_items l.listeners))
