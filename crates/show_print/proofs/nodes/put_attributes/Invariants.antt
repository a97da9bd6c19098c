-- What the line has, with the attributes that are still to come, is what it is to have.
use Rattle.std.proofs.Common.{◌≡◌, ◌++◌, drop, map}
use Rattle.tree_edits.specs.Documents.{doc_attribute_of}
use Rattle.rt_language.specs.Lines.{spaced, attribute_text}
use Rattle.show_print.proofs.nodes.put_attributes.Given as goal

abbrev pub invariant-loop-attribute : goal.invariant-loop-attribute
invariant-loop-attribute l =
    l.line ++ spaced (map attribute_text (map doc_attribute_of (drop l.attribute-index l.attributes)))
    ≡ l.fn.line ++ spaced (map attribute_text (map doc_attribute_of l.attributes))
