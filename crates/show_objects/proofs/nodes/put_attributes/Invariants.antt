-- What the line has, with the attributes that are still to come, is what it is to have.
use Rattle.std.proofs.Common.{◌≡◌, ◌++◌, drop, map}
use Rattle.json.specs.Json.{array}
use Rattle.json.specs.Tree.{items_tokens, json_tokens}
use Rattle.show_objects.specs.Objects.{attribute_items}
use Rattle.tree_edits.specs.Documents.{doc_attribute_of}
use Rattle.show_objects.proofs.nodes.put_attributes.Given as goal

abbrev pub invariant-loop-attribute : goal.invariant-loop-attribute
invariant-loop-attribute l =
    l.object ++ items_tokens (attribute_items (map doc_attribute_of (drop l.attribute-index l.attributes)))
    ≡ l.fn.object ++ json_tokens (array (attribute_items (map doc_attribute_of l.attributes)))
