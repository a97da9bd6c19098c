-- What holds of the memos and resources of a source in a session of it.
use Rattle.std.specs.Prelude.{List}
use Rattle.rt_model.specs.Reports.{Report}
use Rattle.law_minding.specs.Sessions.{MemosKept}
use Rattle.rt_language.specs.Expressions.{Minding}
use Rattle.rt_language.specs.Formulas.{formulas}
use Rattle.rt_language.specs.Meaning.{meaning_of, props_of, inputs_of}
use Rattle.rt_language.specs.Syntax.{Source}
use Rattle.run_reports.specs.Seen.{limits_of}
use Rattle.run_reports.specs.declared.limits.Limits.{Limits}

-- with these reports of a source within these limits each poll of a memo or of a resource is that of the definitions, and one that nobody else
-- touches is what its expression gives after each report where its task is active
unfoldable pub KeepsMemos : Limits → Source → List Report → Type 0
KeepsMemos limits said reports =
    MemosKept formulas (meaning_of said) Minding (props_of said) (inputs_of said.inputs) (limits_of limits) reports
