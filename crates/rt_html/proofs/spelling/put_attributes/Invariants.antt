-- What is written so far, with the attributes that are left, is what is to be written.
use Rattle.std.proofs.Common.{◌≡◌, ◌++◌, drop, map}
use Rattle.std.specs.List.{flat_map}
use Rattle.tree_edits.specs.Documents.{doc_attribute_of}
use Rattle.rt_html.specs.Spelling.{attribute_html}
use Rattle.rt_html.proofs.spelling.put_attributes.Given as goal

abbrev pub invariant-loop-attribute : goal.invariant-loop-attribute
invariant-loop-attribute l =
    l.writer ++ flat_map attribute_html (map doc_attribute_of (drop l.attribute-index l.attributes))
    ≡ l.fn.writer ++ flat_map attribute_html (map doc_attribute_of l.attributes)
