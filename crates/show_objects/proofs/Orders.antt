-- The lines of edits, one more.
use Rattle.std.proofs.Common.{List, [], ◌∷◌, ◌++◌, ◌≡◌, refl, ap}
use Rattle.rt_edits.specs.declared.edit.Edit.{Edit}
use Rattle.rt_model.specs.Lists.{Text}
use Rattle.show_answers.specs.Told.{Form, ToldEdit, text_form}
use Rattle.show_objects.specs.Lines.{lines_in}
use Rattle.show_objects.specs.Objects.{object_form}
use Rattle.rt_language.specs.Lines.{edit_lines}
use Rattle.rt_model.specs.Document as doc
use Rattle.show_answers.specs.Streamed.{edit_lines_in}
use Rattle.tree_edits.specs.Documents.{edit_of}

-- one edit more is one line more
pub lines-more : (form : Form) (edits : List Edit) (e : Edit) → lines_in form (edits ++ e ∷ []) ≡ lines_in form edits ++ form (ToldEdit (edit_of e)) ∷ []
lines-more form [] e = refl
lines-more form (first ∷ rest) e = ap (λ (more : List Text). form (ToldEdit (edit_of first)) ∷ more) (lines-more form rest e)

pub objects-more : (edits : List Edit) (e : Edit)
    → lines_in object_form (edits ++ e ∷ []) ≡ lines_in object_form edits ++ object_form (ToldEdit (edit_of e)) ∷ []
objects-more edits e = lines-more object_form edits e

-- lines of text are those of the language
pub texts-are : (edits : List doc.Edit) → edit_lines edits ≡ edit_lines_in text_form edits
texts-are [] = refl
texts-are (edit ∷ edits) = ap (λ (more : List Text). text_form (ToldEdit edit) ∷ more) (texts-are edits)

pub ruleset orders = (objects-more)
