-- What holds of every source: its application is lawful, and has memos and resources that only look.
use Rattle.rt_model.specs.Laws.{IsLawful}
use Rattle.author_formulas.specs.Formulas.{FormulasLook}
use Rattle.author_formulas.specs.Memos.{PollsMemos}
use Rattle.rt_language.specs.Syntax.{Source}
use Rattle.rt_language.specs.Expressions.{SourceTypes, Minding}
use Rattle.rt_language.specs.Formulas.{formulas}
use Rattle.rt_language.specs.Meaning.{meaning_of}

-- the application of every source obeys the laws
abbrev pub SourcesAreLawful : Type 0
SourcesAreLawful = (s : Source) → IsLawful SourceTypes (meaning_of s)

-- what is computed of memos and resources only looks, and the test of values decides
abbrev pub ExpressionsLook : Type 0
ExpressionsLook = FormulasLook formulas

-- every source polls its memos and resources as they are defined
abbrev pub SourcesPollMemos : Type 0
SourcesPollMemos = (s : Source) → PollsMemos formulas (meaning_of s) Minding
