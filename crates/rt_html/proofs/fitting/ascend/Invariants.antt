-- The attributes so far ascend.
use Rattle.std.proofs.Common.{◌≡◌, drop, map}
use Rattle.tree_edits.specs.Documents.{doc_attribute_of}
use Rattle.rt_html.specs.Reading.{ascend}
use Rattle.rt_html.proofs.fitting.ascend.Given as goal

abbrev pub invariant-loop-at : goal.invariant-loop-at
invariant-loop-at l = ascend (map doc_attribute_of l.attrs) ≡ ascend (map doc_attribute_of (drop l.at l.attrs))
