-- Recorded logs of a parent that feeds its child.
use Rattle.std.specs.Prelude.{◌≡◌, List, [], ◌∷◌, ◌++◌, codes}
use Rattle.rt_model.specs.Replay.{Entry, Taken, Rerun, Fed}
use Rattle.rt_language.specs.Syntax.{Get, Read, Cat, Source}
use Rattle.rt_language.specs.ChildRows.{parent_and_child}
use Rattle.rt_language.specs.Meaning.{meaning_of, props_of, inputs_of}
use Rattle.rt_language.specs.Shorthand.{words, these, builds}
use Rattle.lang_rows.specs.Verdicts.{Verdict, Accepted, Refused, verdict}

-- the parent counts in a cell and gives its child the count
abbrev pub fed : Source
fed = parent_and_child (Get 0 ∷ Read 0 ∷ []) (Cat (these (Read 0 ∷ words (codes "/") ∷ Get 1 ∷ [])))

-- the verdict on a build and then this list for the one input
abbrev pub judged : List Entry → Verdict
judged log = verdict (meaning_of fed) (props_of fed) (inputs_of fed.inputs) (builds 4 ∷ log ∷ [])

-- the entries as the run has them
abbrev pub AcceptedRow : Type 0
AcceptedRow = judged (Taken 1 ∷ Rerun 3 ∷ Fed 4 ∷ []) ≡ Accepted

-- the child is rerun before its parent
abbrev pub EarlyRow : Type 0
EarlyRow = judged (Taken 1 ∷ Rerun 4 ∷ Rerun 3 ∷ Fed 4 ∷ []) ≡ Refused 1 1

-- the parent isn't rerun at all
abbrev pub LateRow : Type 0
LateRow = judged (Taken 1 ∷ []) ≡ Refused 1 1

-- the parent is rerun, and then the list ends before its child is fed
abbrev pub ShortRow : Type 0
ShortRow = judged (Taken 1 ∷ Rerun 3 ∷ []) ≡ Refused 1 2
