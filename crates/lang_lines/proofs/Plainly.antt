-- The edits of each session of a source with names are plain.
use Rattle.rt_language.specs.Meaning.{meaning_of, props_of}
use Rattle.rt_language.proofs.Lawful.{sources_are_lawful}
use Rattle.lang_lines.specs.Named.{SourcesWritePlainly}
use Rattle.lang_lines.proofs.NamedAnswers.{sources_answer_named}
use Rattle.lang_lines.proofs.NamedSessions.{session_plain}

pub sources_write_plainly : SourcesWritePlainly
sources_write_plainly s inputs logs told named tells =
    session_plain (meaning_of s) (sources_are_lawful s) (sources_answer_named s named) (props_of s) inputs logs told tells
