-- What is read of a recorded run: just the one that is described, or nothing where none is.
use Rattle.std.specs.Prelude.{◌≡◌, ◌+◌, ℕ, List, length, map, Option, Some, None}
use Rattle.serde_json.specs.Data.{Data}
use Rattle.rt_language.specs.Syntax as language
use Rattle.rt_model.specs.Replay.{Entry}
use Rattle.run_reports.specs.Seen.{entry_of}
use Rattle.run_reports.specs.declared.entry.Entry.{Entry as Noted}
use Rattle.lang_syntax.specs.Mirror.{source_of}
use Rattle.lang_syntax.specs.declared.source.Source.{Source}
use Rattle.show_logs.specs.Recorded.{IsRecorded, DescribesRun}
use Rattle.show_logs.specs.declared.reading.Run.{Run}

-- a source and a log are a run where there is a list for the build and one for each input
abbrev pub Gathers : Source → List (List Noted) → Option Run → Type 0
Gathers source log None = length log ≡ length source.inputs + 1 → ⊥
Gathers source log (Some run) = (run ≡ record { source = source; log = log }) × (length log ≡ length source.inputs + 1)

-- the run that a value is
abbrev pub ReadsRun : Data → Option Run → Type 0
ReadsRun d None = (said : language.Source) (log : List (List Entry)) → IsRecorded d said log → ⊥
ReadsRun d (Some run) = IsRecorded d (source_of run.source) (map (map entry_of) run.log)

-- the run that bytes describe
abbrev pub ReadsBytes : List ℕ → Option Run → Type 0
ReadsBytes bytes None = (said : language.Source) (log : List (List Entry)) → DescribesRun bytes said log → ⊥
ReadsBytes bytes (Some run) = DescribesRun bytes (source_of run.source) (map (map entry_of) run.log)
