-- What holds of the memos and resources of each session of a source.
use Rattle.std.specs.Prelude.{List, Option}
use Rattle.rt_model.specs.Replay.{Input}
use Rattle.rt_model.specs.Document.{Edit}
use Rattle.rt_model.specs.Causes.{Limits}
use Rattle.rt_model.specs.Reports.{Report}
use Rattle.rt_model.specs.Headline.{Headline}
use Rattle.law_minding.specs.Sessions.{MemosKept}
use Rattle.rt_language.specs.Syntax.{Source}
use Rattle.rt_language.specs.Values.{Value}
use Rattle.rt_language.specs.Expressions.{Minding, SourceTypes}
use Rattle.rt_language.specs.Formulas.{formulas}
use Rattle.rt_language.specs.Meaning.{meaning_of}

-- where the headline holds of reports of a source, its memos and resources are kept
abbrev pub SourcesKeepMemos : Type 0
SourcesKeepMemos =
    (s : Source) (props : List Value) (inputs : List (Input SourceTypes)) (limits : Limits) (taken : Option (List Edit))
    (reports : List Report)
    → Headline (meaning_of s) props inputs limits taken reports
    → MemosKept formulas (meaning_of s) Minding props inputs limits reports
