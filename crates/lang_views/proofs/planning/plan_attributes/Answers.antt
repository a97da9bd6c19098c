-- No attribute is left.
use Rattle.std.proofs.Common.{◌≡◌, [], map, sym, ap, ◌∙◌}
use Rattle.std.specs.Vec.Iter.{into_iter_items}
use Rattle.lang_syntax.specs.Mirror as source
use Rattle.lang_views.specs.Meant.{then_filled, filled_by, attributes_filled}
use Rattle.lang_views.proofs.Taken.{nothing_left}
use Rattle.lang_views.proofs.Views.{no-attributes}
use Rattle.lang_views.proofs.planning.plan_attributes.Goals as goal

pub returns : goal.returns
returns c =
    let empty : into_iter_items c.loop-attribute.attribute-iterator ≡ [] = nothing_left _ (sym c.loop-attribute.invariant.count ∙ c.in-None.ensures.steps.0) in
    record {
      filled =
          sym (ap (λ xs. then_filled (filled_by c.loop-attribute.fills) (attributes_filled (map source.attribute_of xs))) empty ∙ no-attributes (filled_by c.loop-attribute.fills))
          ∙ c.loop-attribute.invariant.filled;
    }
