-- The law of every application that polls so.
use Rattle.rt_language.specs.Expressions.{Minding}
use Rattle.rt_language.specs.Formulas.{formulas}
use Rattle.rt_language.specs.Meaning.{meaning_of}
use Rattle.rt_language.proofs.Formulas.{expressions_look, sources_poll_memos}
use Rattle.rt_language.proofs.Lawful.{sources_are_lawful}
use Rattle.lang_minding.proofs.laws.sources_keep_memos.Goals as goal

pub returns : goal.returns
returns c = λ s props inputs limits taken reports headline.
    c.sessions_keep_memos.ensures (meaning_of s) formulas Minding (sources_are_lawful s) expressions_look (sources_poll_memos s) props inputs limits taken reports headline
