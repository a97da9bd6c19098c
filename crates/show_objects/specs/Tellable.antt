-- What the runtime can tell: its numbers have 64 bits, and nothing stands below a text or a placeholder.
use Rattle.std.specs.Prelude.{◌≡◌, ℕ, ◌^◌, ◌<◌, List, [], ◌∷◌}
use Rattle.rt_model.specs.Document.{Content, DocElement, DocText, DocPlaceholder, Forest, Empty, Node, Edit, AppendChildren, ReplaceNodeWith, InsertNodesAfter, RemoveNode, SetNodeText, SetAttribute, CreateEventListener, RemoveEventListener}
use Rattle.rt_model.specs.Replay.{Entry, Build, Taken, Heard, Rerun, Poll, Effects, Made, Fed, Kept, Removed}
use Rattle.rt_model.specs.Reports.{Report}
use Rattle.rt_model.specs.State.{Fault, OutOfTurns, TooDeep, IdsExhausted, HookChanged, NoSuchTask, BadNode}
use Rattle.show_answers.specs.Told.{Told, ToldEdit, ToldFault, ToldRefusal, ToldReport}

-- a number of 64 bits
abbrev pub IsNarrow : ℕ → Type 0
IsNarrow n = n < 2 ^ 64

-- nothing stands below what is no element
abbrev pub IsBelow : Content → Forest → Type 0
IsBelow (DocElement tag namespace attributes listeners) children = Unit {0}
IsBelow (DocText text) children = children ≡ Empty
IsBelow DocPlaceholder children = children ≡ Empty

-- nodes, each with the nodes below it
abbrev pub NodesFit : Forest → Type 0
NodesFit Empty = Unit {0}
NodesFit (Node id content children rest) = IsNarrow id × IsBelow content children × NodesFit children × NodesFit rest

-- an edit
abbrev pub EditFits : Edit → Type 0
EditFits (AppendChildren id nodes) = IsNarrow id × NodesFit nodes
EditFits (ReplaceNodeWith id nodes) = IsNarrow id × NodesFit nodes
EditFits (InsertNodesAfter id nodes) = IsNarrow id × NodesFit nodes
EditFits (RemoveNode id) = IsNarrow id
EditFits (SetNodeText id text) = IsNarrow id
EditFits (SetAttribute id name namespace value) = IsNarrow id
EditFits (CreateEventListener id name) = IsNarrow id
EditFits (RemoveEventListener id name) = IsNarrow id

-- an entry of a log
abbrev pub EntryFits : Entry → Type 0
EntryFits Build = Unit {0}
EntryFits (Taken k) = IsNarrow k
EntryFits (Heard s) = IsNarrow s
EntryFits (Rerun s) = IsNarrow s
EntryFits (Poll t) = IsNarrow t
EntryFits (Effects s) = IsNarrow s
EntryFits (Made s) = IsNarrow s
EntryFits (Fed s) = IsNarrow s
EntryFits (Kept s) = IsNarrow s
EntryFits (Removed s) = IsNarrow s

abbrev pub LogFits : List Entry → Type 0
LogFits [] = Unit {0}
LogFits (entry ∷ log) = EntryFits entry × LogFits log

-- a report
pub record ReportFits (report : Report) : Type 0 where
  pub units : IsNarrow report.units
  pub bodies : IsNarrow report.bodies
  pub edits : IsNarrow report.edits
  pub log : LogFits report.log

-- a fault
abbrev pub FaultFits : Fault → Type 0
FaultFits (OutOfTurns units) = IsNarrow units
FaultFits (TooDeep height) = IsNarrow height
FaultFits (IdsExhausted what) = Unit {0}
FaultFits (HookChanged scope index kept asked) = IsNarrow scope × IsNarrow index × IsNarrow kept × IsNarrow asked
FaultFits (NoSuchTask scope task) = IsNarrow scope × IsNarrow task
FaultFits (BadNode scope) = IsNarrow scope

-- what is told
abbrev pub IsTellable : Told → Type 0
IsTellable (ToldEdit edit) = EditFits edit
IsTellable (ToldReport number report) = IsNarrow number × ReportFits report
IsTellable (ToldFault fault) = FaultFits fault
IsTellable ToldRefusal = Unit {0}
