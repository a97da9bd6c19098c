-- A text that is new or differs is set.
use Rattle.std.proofs.Common.{rules, ◌≡◌, ◌++◌, ◌∷◌, [], true, false, sym, ap, ◌∙◌}
use Rattle.std.specs.Prelude.{Some, if◌then◌else◌}
use Rattle.rt_model.specs.Document as doc
use Rattle.run_attributes.specs.Given.{edits_of, come_of}
use Rattle.run_attributes.proofs.Slots.{come_Text, nil-right}
use Rattle.run_attributes.proofs.slot.enter.Goals as goal

pub returns-in_ok-set_text-in-Text : goal.returns-in_ok-set_text-in-Text
returns-in_ok-set_text-in-Text g c =
    let a = c.args.attribute.now in
    let one = doc.SetAttribute c.args.number a.name a.namespace (Some c.in-Text.text) ∷ [] in
    let no : c.has_the_text.result ≡ false = search rules in
    let is : come_of c.args.number c.args.old.now a ≡ one =
    come_Text c.args.number c.args.old.now a c.in-Text.text c.in-Text.is ∙ ap (λ b. if b then [] else one) (sym c.has_the_text.ensures ∙ no) in
    c.in_ok-set_text-in-Text.ensures ∙ ap (λ xs. edits_of c.args.edits.now ++ xs) (sym is)

pub returns-else-not-has_the_text : goal.returns-else-not-has_the_text
returns-else-not-has_the_text g c =
    let a = c.args.attribute.now in
    let one = doc.SetAttribute c.args.number a.name a.namespace (Some c.in-Text.text) ∷ [] in
    let yes : c.has_the_text.result ≡ true = search rules in
    let is : come_of c.args.number c.args.old.now a ≡ [] =
    come_Text c.args.number c.args.old.now a c.in-Text.text c.in-Text.is ∙ ap (λ b. if b then [] else one) (sym c.has_the_text.ensures ∙ yes) in
    sym (nil-right (edits_of c.args.edits.now)) ∙ ap (λ xs. edits_of c.args.edits.now ++ xs) (sym is)
