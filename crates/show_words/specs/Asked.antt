-- What is asked for of an input, and what its bytes have to say.
use Rattle.std.specs.Prelude.{List, [], ℕ, map}
use Rattle.rt_model.specs.Replay.{Entry}
use Rattle.rt_language.specs.Syntax.{Source}
use Rattle.run_reports.specs.Seen.{entry_of}
use Rattle.lang_syntax.specs.Mirror.{source_of}
use Rattle.lang_sources.specs.Describes.{Describes}
use Rattle.show_logs.specs.Recorded.{DescribesRun}
use Rattle.show_logs.specs.declared.reading.Run.{Run as Recorded}
use Rattle.show_words.specs.declared.words.Wish.{Wish}
use Rattle.show_words.specs.declared.words.Wish.TheVariants.{Run, Make, Screen, Audit}

-- a source, and the log that is judged, of no list where none is
pub record Asked : Type 0 where
  pub source : Source
  pub log : List (List Entry)

-- a source without a log
abbrev pub alone : Source → Asked
alone said = record { source = said; log = [] }

-- a recorded run
abbrev pub asked_of : Recorded → Asked
asked_of run = record { source = source_of run.source; log = map (map entry_of) run.log }

-- bytes describe no source
abbrev pub SaysNone : List ℕ → Type 0
SaysNone bytes = (said : Source) → Describes bytes said → ⊥

-- bytes describe no recorded run
abbrev pub RecordsNone : List ℕ → Type 0
RecordsNone bytes = (said : Source) (log : List (List Entry)) → DescribesRun bytes said log → ⊥

-- bytes say nothing of what a wish reads
abbrev pub Lacks : Wish → List ℕ → Type 0
Lacks (Run limits) bytes = SaysNone bytes
Lacks (Make rows) bytes = SaysNone bytes
Lacks (Screen size) bytes = SaysNone bytes
Lacks Audit bytes = RecordsNone bytes
