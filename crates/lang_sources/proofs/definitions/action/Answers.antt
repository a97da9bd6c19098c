-- What is read of an action may stand outside of bodies.
use Rattle.std.proofs.Common.{rules, ◌≡◌, Some, refl, ap, ◌∙◌}
use Rattle.serde_json.specs.View.{items_view}
use Rattle.lang_syntax.specs.Outside.{stand_outside}
use Rattle.lang_sources.specs.Statements.{block_in}
use Rattle.lang_sources.specs.declared.forms.Place.TheVariants.{Action}
use Rattle.lang_sources.proofs.Outside.{block_outside}
use Rattle.lang_sources.proofs.definitions.action.Goals as goal

pub invariant_of-result : goal.invariant_of-result
invariant_of-result c =
    let names = c.args.names.now in
    let params = c.in-Some.params.items in
    let items = items_view c.in-Some-list_at.values.now in
    let read : block_in names Action params items ≡ Some (c.in-Some-2._bound.items, c.in-Some-2.statements.items) = search rules in
    ap stand_outside c.from_vec.ensures.items ∙ block_outside names Action refl params items (c.in-Some-2._bound.items, c.in-Some-2.statements.items) read
