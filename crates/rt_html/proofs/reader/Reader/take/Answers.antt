-- A text behind its mark.
use Rattle.std.proofs.Common.{◌≡◌, Some, ◌∙◌}
use Rattle.rt_html.specs.declared.plain.Plain.TheVariants.{Text}
use Rattle.rt_html.specs.Parts.{Standing, added, standing_of}
use Rattle.rt_html.specs.Reading.{plain_below, plain_content}
use Rattle.rt_html.proofs.Stands.{on_ok, text_taken}
use Rattle.rt_html.proofs.reader.Reader.take.Goals as goal

pub returns-in-Some : goal.returns-in-Some
returns-in-Some c =
    on_ok c.add.result c.add.ensures
    (λ (told : (standing : Standing) → standing_of c.args.self.now ≡ Some standing
    → standing_of c.add.new.self ≡ Some (added (plain_content (Text c.in_ok-unescaped.field-0)) (plain_below (Text c.in_ok-unescaped.field-0)) standing)).
    λ standing h.
    told standing h
    ∙ text_taken c.args.part.now c.in-Some.spelt.now c.in_ok-unescaped.field-0 standing c.in-Some.ensures c.in_ok-unescaped.ensures)
