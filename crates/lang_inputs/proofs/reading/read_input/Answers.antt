-- What is read of the bytes is what they describe, and the other way round.
use Rattle.std.proofs.Common.{rules, ◌≡◌, IfOk, ℕ, List, Option, Some, None, option_map, Result, Ok, Err, ap, ◌∙◌, sym}
use Rattle.std.specs.Prelude.{IfSome}
use Rattle.rt_language.specs.Syntax as language
use Rattle.lang_syntax.specs.declared.source.InputSource.{InputSource}
use Rattle.lang_syntax.specs.Mirror.{input_of}
use Rattle.lang_inputs.specs.Inputs.{one_input_of}
use Rattle.lang_inputs.specs.Describes.{DescribesInput}
use Rattle.lang_inputs.proofs.Described.{input_sound, input_complete}
use Rattle.lang_inputs.proofs.reading.read_input.Goals as goal

described : {E : Type 0} (bytes : List ℕ) (read : Result (Option InputSource) E) → IfOk read (λ answer. answer ≡ one_input_of bytes) →
    IfOk read (λ answer. IfSome answer (λ found. DescribesInput bytes (input_of found)))
described bytes (Ok None) is = tt
described bytes (Ok (Some found)) is = input_sound bytes found (sym is)
described bytes (Err e) is = tt

answered : {E : Type 0} (bytes : List ℕ) (read : Result (Option InputSource) E) → IfOk read (λ answer. answer ≡ one_input_of bytes) →
    IfOk read (λ answer. (said : language.InputSource) → DescribesInput bytes said → option_map input_of answer ≡ Some said)
answered bytes (Ok answer) is = λ said h. ap (option_map input_of) is ∙ input_complete bytes said h
answered bytes (Err e) is = tt

pub returns-clause-described : goal.returns-clause-described
returns-clause-described c =
    let is : IfOk c.text.result (λ answer. answer ≡ one_input_of c.args.bytes.now) = search rules in described c.args.bytes.now c.text.result is

pub returns-clause-answered : goal.returns-clause-answered
returns-clause-answered c =
    let is : IfOk c.text.result (λ answer. answer ≡ one_input_of c.args.bytes.now) = search rules in answered c.args.bytes.now c.text.result is
