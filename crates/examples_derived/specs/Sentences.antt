-- What a session keeps of the memo and of the resource.
use Rattle.std.specs.Prelude.{List, Option}
use Rattle.rt_author.specs.Causes.{Limits}
use Rattle.rt_author.specs.Edits.{Edit}
use Rattle.rt_author.specs.Headline.{Headline}
use Rattle.rt_author.specs.Program.{application_of}
use Rattle.rt_author.specs.Replay.{Input}
use Rattle.rt_author.specs.Reports.{Report}
use Rattle.rt_author.specs.Sessions.{MemosKept}
use Rattle.rt_author.specs.Words.{as_task}
use Rattle.examples_derived.specs.Meaning.{DerivedTypes, formulas, none, programs}
use Rattle.examples_derived.specs.declared.derived.Component.{Component}

-- after each report of a session whose headline holds the memo's cell is what its formula gives, and the resource loads for its key,
-- as far as nobody else touches their cells and tasks
abbrev pub DerivedAreKept : Type 0
DerivedAreKept =
    (root : Component) (inputs : List (Input DerivedTypes)) (limits : Limits) (taken : Option (List Edit)) (reports : List Report)
    → Headline (application_of (programs root)) none inputs limits taken reports
    → MemosKept formulas (application_of (programs root)) (λ task. as_task task) none inputs limits reports
