-- The lines of edits that stand with the last first.
use Rattle.std.proofs.Common.{ℕ, List, [], ◌∷◌, ◌++◌, ◌≡◌, refl, ap}
use Rattle.rt_edits.specs.declared.edit.Edit.{Edit}
use Rattle.rt_language.specs.Lines.{line, edit_text}
use Rattle.tree_edits.specs.Documents.{edit_of}
use Rattle.show_print.specs.Taken.{lines_of}

-- one edit more is one line more
pub lines-more : (edits : List Edit) (e : Edit) → lines_of (edits ++ e ∷ []) ≡ lines_of edits ++ line (edit_text (edit_of e)) ∷ []
lines-more [] e = refl
lines-more (first ∷ rest) e = ap (λ (more : List (List ℕ)). line (edit_text (edit_of first)) ∷ more) (lines-more rest e)

pub ruleset orders = (lines-more)
