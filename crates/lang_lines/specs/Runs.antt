-- What the printed lines of a run tell: each line its edit, report, fault or message, and all lines the list of these.
use Rattle.std.specs.Prelude.{ℕ, ◌^◌, ◌<◌, ◌≡◌, List, [], ◌∷◌, map, length}
use Rattle.std.specs.List.{AllByRecursion}
use Rattle.rt_model.specs.Lists.{Text, joined}
use Rattle.rt_model.specs.Document.{Edit}
use Rattle.rt_model.specs.State.{Fault}
use Rattle.rt_model.specs.Replay.{Message}
use Rattle.rt_model.specs.Reports.{Report}
use Rattle.rt_language.specs.Lines.{line, edit_text, report_line, fault_text, taken_text, text_of, fault_text_of}
use Rattle.lang_lines.specs.Told.{IsSmall, Alike}
use Rattle.lang_lines.specs.Plain.{IsPlainEdit, IsSmallFault, IsSmallMessage}

-- what has a line
pub data Item : Type 0 where
  EditOf : (e : Edit) → Item
  -- a report with its number
  ReportOf : (number : ℕ) (report : Report) → Item
  FaultOf : (fault : Fault) → Item
  -- a message that the drain of the report with this number took
  TakenOf : (number : ℕ) (m : Message) → Item

-- its line
abbrev pub line_of : Item → Text
line_of (EditOf e) = line (edit_text e)
line_of (ReportOf number report) = report_line number report
line_of (FaultOf fault) = line (fault_text fault)
line_of (TakenOf number m) = line (taken_text number m)

-- its names are names, and its numbers have at most 64 bits
abbrev pub IsPlain : Item → Type 0
IsPlain (EditOf e) = IsPlainEdit e
IsPlain (ReportOf number report) = (number < 2 ^ 64) × IsSmall report
IsPlain (FaultOf fault) = IsSmallFault fault
IsPlain (TakenOf number m) = (number < 2 ^ 64) × IsSmallMessage m

-- two items are equal, but that it isn't told of reports whether a default was prevented
abbrev pub Same : Item → Item → Type 0
Same (EditOf e) (EditOf f) = e ≡ f
Same (ReportOf k r) (ReportOf l s) = (k ≡ l) × Alike r s
Same (FaultOf a) (FaultOf b) = a ≡ b
Same (TakenOf k m) (TakenOf l n) = (k ≡ l) × (m ≡ n)
Same _ _ = ⊥

-- so are all items of two lists, one by one
abbrev pub AllSame : List Item → List Item → Type 0
AllSame [] [] = Unit {0}
AllSame (a ∷ items) (b ∷ others) = Same a b × AllSame items others
AllSame _ _ = ⊥

-- items with one line are the same
abbrev pub ItemsTell : Type 0
ItemsTell = (a b : Item) → IsPlain a → IsPlain b → line_of a ≡ line_of b → Same a b

-- lists of items whose lines make one text are the same
abbrev pub RunsTell : Type 0
RunsTell =
    (items others : List Item) → AllByRecursion IsPlain items → AllByRecursion IsPlain others
    → joined (map line_of items) ≡ joined (map line_of others)
    → AllSame items others

-- all reports are alike, one by one
abbrev pub AllAlike : List Report → List Report → Type 0
AllAlike [] [] = Unit {0}
AllAlike (r ∷ rs) (s ∷ ss) = Alike r s × AllAlike rs ss
AllAlike _ _ = ⊥

-- edits and reports whose numbers, and the numbers of the reports, have at most 64 bits
pub record ArePlain (edits : List Edit) (reports : List Report) : Type 0 where
  pub edited : AllByRecursion IsPlainEdit edits
  pub reported : AllByRecursion IsSmall reports
  pub few : length reports < 2 ^ 64

-- the text of a run that was done tells its edits and its reports
abbrev pub TextsTell : Type 0
TextsTell =
    (edits more : List Edit) (reports others : List Report) → ArePlain edits reports → ArePlain more others
    → text_of edits reports ≡ text_of more others
    → (edits ≡ more) × AllAlike reports others

-- the text of a run that a fault ended tells them, and the fault
abbrev pub FaultTextsTell : Type 0
FaultTextsTell =
    (edits more : List Edit) (reports others : List Report) (a b : Fault)
    → ArePlain edits reports → ArePlain more others → IsSmallFault a → IsSmallFault b
    → fault_text_of edits reports a ≡ fault_text_of more others b
    → (edits ≡ more) × AllAlike reports others × (a ≡ b)

-- no text of a run that was done is the text of one that a fault ended
abbrev pub EndsTell : Type 0
EndsTell =
    (edits more : List Edit) (reports others : List Report) (b : Fault)
    → ArePlain edits reports → ArePlain more others → IsSmallFault b
    → text_of edits reports ≡ fault_text_of more others b
    → ⊥
