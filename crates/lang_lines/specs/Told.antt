-- What the printed line of a report tells of it: all that it counts, and its log.
use Rattle.std.specs.Prelude.{ℕ, ◌^◌, ◌<◌, ◌≡◌}
use Rattle.std.specs.List.{AllByRecursion}
use Rattle.rt_model.specs.Reports.{Report}
use Rattle.rt_language.specs.Lines.{report_line}
use Rattle.rt_language.specs.Small.{IsSmallEntry}

-- so do the numbers of a report
pub record IsSmall (report : Report) : Type 0 where
  pub units : report.units < 2 ^ 64
  pub bodies : report.bodies < 2 ^ 64
  pub edits : report.edits < 2 ^ 64
  pub log : AllByRecursion IsSmallEntry report.log

-- two reports are alike but for whether a default was prevented, which isn't printed
pub record Alike (r s : Report) : Type 0 where
  pub log : r.log ≡ s.log
  pub units : r.units ≡ s.units
  pub bodies : r.bodies ≡ s.bodies
  pub edits : r.edits ≡ s.edits

-- reports of one number with one line are alike
abbrev pub LinesTell : Type 0
LinesTell = (number : ℕ) (r s : Report) → IsSmall r → IsSmall s → report_line number r ≡ report_line number s → Alike r s
