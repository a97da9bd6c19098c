-- The slots so far, and those of the attributes that are left, are all.
use Rattle.std.proofs.Common.{◌≡◌, length, map}
use Rattle.std.specs.Vec.Iter.{into_iter_items, into_iter_len}
use Rattle.lang_syntax.specs.Mirror.{attribute_of}
use Rattle.lang_views.specs.Meant.{then_filled, filled_by, attributes_filled}
use Rattle.lang_views.proofs.planning.plan_attributes.Given as goal

abbrev pub invariant-loop-attribute : goal.invariant-loop-attribute
invariant-loop-attribute l = record {
  filled : then_filled (filled_by l.fills) (attributes_filled (map attribute_of (into_iter_items l.attribute-iterator))) ≡ then_filled (filled_by l.fn.fills) (attributes_filled (map attribute_of l.fn.attributes));
  count : into_iter_len l.attribute-iterator ≡ length (into_iter_items l.attribute-iterator);
}
