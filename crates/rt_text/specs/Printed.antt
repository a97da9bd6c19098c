-- The lines in which rows that changed are printed.
use Rattle.std.specs.Prelude.{ℕ, List, ◌∷◌, ◌++◌, map, codes, decimal}
use Rattle.json.specs.Print.{quoted}
use Rattle.rt_model.specs.Lists.{Text}
use Rattle.rt_text.specs.declared.rows.Row.{Row}
use Rattle.rt_text.specs.Screens.{changed_rows}

-- the line with which the rows of a report begin
abbrev pub screen_line : ℕ → Text
screen_line number = (codes "screen " ++ decimal number) ++ codes "\n"

-- the line of a row: its number, and its text in quotes
abbrev pub row_line : Row → Text
row_line row = (((codes "row " ++ decimal row.at) ++ codes " ") ++ quoted row.text) ++ codes "\n"

-- the lines of the report with this number: the one that begins it, and one for each row that is other than before
abbrev pub picture : ℕ → (old new : List Text) → List Text
picture number old new = screen_line number ∷ map row_line (changed_rows 0 old new)
