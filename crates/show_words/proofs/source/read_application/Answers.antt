-- Bytes that are no source describe none.
use Rattle.std.proofs.Common.{rules, ◌≡◌, ◌∙◌, ℕ, List, Option, Some, None, Err, ap, sym, subst, inr}
use Rattle.std.specs.Prelude.{option_map}
use Rattle.rt_language.specs.Syntax.{Source}
use Rattle.lang_syntax.specs.Mirror.{source_of}
use Rattle.lang_syntax.specs.declared.source.Source as checked
use Rattle.lang_sources.specs.Describes.{Describes}
use Rattle.show_words.specs.Asked.{SaysNone}
use Rattle.show_words.proofs.Reading.{for_any}
use Rattle.show_words.proofs.source.read_application.Goals as goal

nothing_said : (given bytes : List ℕ) (read : Option checked.Source) → given ≡ bytes → read ≡ None →
    ((said : Source) → Describes given said → option_map source_of read ≡ Some said) → (said : Source) → Describes bytes said → ⊥
nothing_said given bytes read same none answered said describes =
    let there : Describes given said = subst (λ (b : List ℕ). Describes b said) (sym same) describes in
    let some : option_map source_of read ≡ Some said = answered said there in
    let nothing : option_map source_of read ≡ None = ap (λ r. option_map source_of r) none in
    absurd (cc (sym nothing ∙ some))

pub returns-in-Ok-None-clause-reads : goal.returns-in-Ok-None-clause-reads
returns-in-Ok-None-clause-reads g c = inr (record {
  bytes = c.in_ok-bytes.bytes;
  whole = search rules;
  none = nothing_said c.as_slice.result.now c.in_ok-bytes.bytes c.in-Ok-None.field-0 (search rules) c.in-Ok-None.field-0-is c.in-Ok-None.ensures.answered;
})

pub returns-in_err-bytes-clause-reads : goal.returns-in_err-bytes-clause-reads
returns-in_err-bytes-clause-reads g c =
    let stopped : c.from_residual.result ≡ Err c.in_err-bytes.field-0.0 = search rules in
    rw stopped (for_any SaysNone (g.S.Source.left c.args.source.now) (g.S.Source.left c.bytes_of.new.source)
    (g.S.Source.faults c.args.source.now) (g.S.Source.faults c.bytes_of.new.source) c.in_err-bytes.field-0.0
    c.in_err-bytes.ensures.reads)
