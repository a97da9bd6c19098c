-- The attributes so far can be spelt.
use Rattle.std.proofs.Common.{◌≡◌, drop, map}
use Rattle.tree_edits.specs.Documents.{doc_attribute_of}
use Rattle.rt_html.specs.Spelling.{attributes_namable}
use Rattle.rt_html.proofs.names.attributes_namable.Given as goal

abbrev pub invariant-loop-attribute : goal.invariant-loop-attribute
invariant-loop-attribute l =
    attributes_namable (map doc_attribute_of l.attributes) ≡ attributes_namable (map doc_attribute_of (drop l.attribute-index l.attributes))
