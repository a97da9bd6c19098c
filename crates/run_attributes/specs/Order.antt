-- The order in which an element keeps its attributes.
use Rattle.std.specs.Option.{option_cmp}
use Rattle.std.specs.declared.cmp.Ordering.{Ordering}
use Rattle.std.specs.Ordering.{nat_cmp, ordering_then}
use Rattle.std.specs.Cmp.Lexicographic.{slice_cmp}
use Rattle.rt_edits.specs.declared.doc_node.DocAttr.{DocAttr}

-- by namespace, none first, and then by name, both by bytes
abbrev pub key_order : DocAttr → DocAttr → Ordering
key_order a b = ordering_then (option_cmp (slice_cmp nat_cmp) a.namespace b.namespace) (slice_cmp nat_cmp a.name b.name)
