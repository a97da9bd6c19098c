-- What is read of the bytes is what they describe, and the other way round.
use Rattle.std.proofs.Common.{rules, ◌≡◌, IfOk, ℕ, List, Option, Some, None, option_map, Result, Ok, Err, ap, ◌∙◌, sym}
use Rattle.std.specs.Prelude.{IfSome}
use Rattle.rt_language.specs.Syntax as language
use Rattle.lang_syntax.specs.declared.source.Source.{Source}
use Rattle.lang_syntax.specs.Mirror.{source_of}
use Rattle.lang_sources.specs.Sources.{application_of}
use Rattle.lang_sources.specs.Describes.{Describes}
use Rattle.lang_sources.proofs.Described.{source_sound, source_complete}
use Rattle.lang_sources.proofs.reading.read_source.Goals as goal

described : {E : Type 0} (bytes : List ℕ) (read : Result (Option Source) E) → IfOk read (λ answer. answer ≡ application_of bytes) →
    IfOk read (λ answer. IfSome answer (λ found. Describes bytes (source_of found)))
described bytes (Ok None) is = tt
described bytes (Ok (Some found)) is = source_sound bytes found (sym is)
described bytes (Err e) is = tt

answered : {E : Type 0} (bytes : List ℕ) (read : Result (Option Source) E) → IfOk read (λ answer. answer ≡ application_of bytes) →
    IfOk read (λ answer. (said : language.Source) → Describes bytes said → option_map source_of answer ≡ Some said)
answered bytes (Ok answer) is = λ said h. ap (option_map source_of) is ∙ source_complete bytes said h
answered bytes (Err e) is = tt

pub returns-clause-described : goal.returns-clause-described
returns-clause-described c =
    let is : IfOk c.text.result (λ answer. answer ≡ application_of c.args.bytes.now) = search rules in described c.args.bytes.now c.text.result is

pub returns-clause-answered : goal.returns-clause-answered
returns-clause-answered c =
    let is : IfOk c.text.result (λ answer. answer ≡ application_of c.args.bytes.now) = search rules in answered c.args.bytes.now c.text.result is
