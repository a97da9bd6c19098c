-- The generated application of so many rows, and the line that sums up its run.
use Rattle.std.specs.Prelude.{ℕ, zero, suc, ◌+◌, ◌*◌, ◌%◌, List, [], ◌∷◌, ◌++◌, length, Option, Some, None, if◌then◌else◌, codes, decimal, ◌≡◌}
use Rattle.rt_model.specs.Causes.{usual}
use Rattle.rt_model.specs.Lists.{Text}
use Rattle.rt_model.specs.Replay.{Entry, Taken, Rerun}
use Rattle.rt_model.specs.Told.{Told, tell_reports}
use Rattle.rt_model.specs.Reports.{Report}
use Rattle.rt_model.specs.Finished.{reports_of, is_finished}
use Rattle.rt_language.specs.Syntax.{Get, Read, UseCell, ListOf, InputSource, Source}
use Rattle.rt_language.specs.Expressions.{SourceTypes}
use Rattle.rt_language.specs.Meaning.{meaning_of}
use Rattle.rt_language.specs.Lines.{line}
use Rattle.rt_language.specs.Printed.{start_of, is_within}
use Rattle.rt_language.specs.Shorthand.{number, slot, text_slot, element, use_alone, component, of_components, write_number, builds, lines}

-- so many writes, from the k-th on: each of n rows has its cell
abbrev pub writes_from : ℕ → ℕ → ℕ → List InputSource
writes_from n k zero = []
writes_from n k (suc more) = write_number ((7 * k) % n + 1) k ∷ writes_from n (k + 1) more

-- a list of n rows, each with a cell that holds its number, and n writes
abbrev pub generated : ℕ → Source
generated n =
    of_components
    (component [] (element (codes "ul") (slot (ListOf (number n) (use_alone 1 (Get 0 ∷ [])))))
    ∷ component (UseCell (Get 0) ∷ []) (element (codes "li") (text_slot (Read 1)))
    ∷ [])
    (writes_from n 0 n)

-- the sum of what reports count
abbrev pub total : (Report → ℕ) → List Report → ℕ
total count [] = 0
total count (r ∷ rs) = count r + total count rs

-- the line of the run of n rows
abbrev pub summary_line : ℕ → List Report → Text
summary_line n reports =
    line
    (codes "make " ++ decimal n ++ codes " reports " ++ decimal (length reports) ++ codes " units "
    ++ decimal (total (λ r. r.units) reports) ++ codes " bodies " ++ decimal (total (λ r. r.bodies) reports) ++ codes " edits "
    ++ decimal (total (λ r. r.edits) reports))

-- the line of reports that are finished
abbrev pub summary_of : ℕ → List (List Entry) → Option (List (Told SourceTypes)) → Option Text
summary_of n logs None = None
summary_of n logs (Some told) = if is_finished (meaning_of (generated n)) told then Some (summary_line n (reports_of logs told)) else None

-- the line of the generated application with these logs, where it has them within the usual limits
abbrev pub summed_up : ℕ → List (List Entry) → Option Text
summed_up n logs =
    if is_within usual (generated n) logs
    then summary_of n logs (tell_reports (meaning_of (generated n)) (start_of (generated n)) logs)
    else None

-- the log of each write: the row's own scope reruns
abbrev pub write_logs : ℕ → ℕ → ℕ → List (List Entry)
write_logs n k zero = []
write_logs n k (suc more) = (Taken (k + 1) ∷ Rerun ((7 * k) % n + 4) ∷ []) ∷ write_logs n (k + 1) more

-- the row of ten rows
abbrev pub TenRow : Type 0
TenRow = summed_up 10 (builds 13 ∷ write_logs 10 0 10) ≡ Some (lines (codes "make 10 reports 11 units 10 bodies 24 edits 9" ∷ []))
