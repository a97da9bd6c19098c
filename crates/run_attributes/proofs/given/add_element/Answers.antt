-- An element with an attribute slot stands at its place with its number; one without any is none of them.
use Rattle.std.proofs.Common.{rules, ◌≡◌, ◌++◌, true, false, ◌∙◌, ap, map, sym}
use Rattle.std.proofs.lemmas.Result.{on_ok_weaker}
use Rattle.tree_mirror.specs.Sealed.{template_of}
use Rattle.run_places.specs.Places.{at_path, side_of}
use Rattle.run_places.specs.Trails.{place_on}
use Rattle.run_places.proofs.Trails.{on_Inside, path_Whole}
use Rattle.run_attributes.specs.Given.{entries_of, piece_elements, slot_among}
use Rattle.run_attributes.proofs.Passes.{element_more, element_Static}
use Rattle.run_attributes.proofs.Slots.{nil-right}
use Rattle.run_attributes.proofs.given.add_element.Goals as goal

pub returns-then-not-has_slot : goal.returns-then-not-has_slot
returns-then-not-has_slot g c =
    let numbers = (side_of c.args.side.now).numbers in
    let above = place_on c.args.above.now in
    let template = c.args.template.now in
    let n = c.in-Element in
    let no : c.has_slot.result ≡ false = search rules in
    let none : slot_among n.attrs ≡ false = ap (λ es. slot_among es) (sym c.as_slice-given.ensures.items) ∙ sym c.has_slot.ensures ∙ no in
    sym
    (ap (λ es. map entries_of c.args.elements.now ++ es) (ap (λ p. piece_elements numbers above template p) n.is ∙ element_Static numbers above template n.path n.attrs none) ∙
    nil-right (map entries_of c.args.elements.now))

pub returns-in_ok-entries-in-Element : goal.returns-in_ok-entries-in-Element
returns-in_ok-entries-in-Element g c =
    let above = place_on c.args.above.now in
    let template = c.args.template.now in
    let n = c.in-Element in
    let path = n.path in
    let yes : c.has_slot.result ≡ true = search rules in
    let some : slot_among n.attrs ≡ true = ap (λ es. slot_among es) (sym c.as_slice-given.ensures.items) ∙ sym c.has_slot.ensures ∙ yes in
    on_ok_weaker c.push.result
    (
    element_more (side_of c.args.side.now).numbers above _ template path n.attrs c.in_ok-entries-in-Element.entries c.args.piece.now c.number_on-number.result
    some c.number_on-number.ensures
    (on_Inside _ _ _ ∙ ap (λ q. at_path (template_of template) above q) (path_Whole _ ∙ c.as_slice.ensures.items))
    c.in_ok-entries-in-Element.ensures.items n.is c.args.elements.now c.push.new.self
    )
    c.push.ensures.ok
