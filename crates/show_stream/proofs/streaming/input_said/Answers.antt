-- The only one is what is said.
use Rattle.std.proofs.Common.{◌≡◌, List, [], ◌∷◌, ◌++◌, map, IfOk, ap, ◌∙◌, subst}
use Rattle.lang_syntax.specs.Mirror.{input_of as said_input}
use Rattle.lang_syntax.specs.declared.source.InputSource.{InputSource}
use Rattle.rt_language.specs.Meaning.{inputs_of}
use Rattle.run_reports.specs.Seen.{input_of}
use Rattle.show_stream.proofs.streaming.input_said.Goals as goal

pub returns : goal.returns
returns c =
    let one : c.as_slice.result.now ≡ c.args.said ∷ [] =
    c.as_slice.ensures.items ∙ c.in_ok-push.ensures.ok ∙ ap (λ (all : List InputSource). all ++ c.args.said ∷ []) c.new-one.ensures.empty in
    record {
      input =
          subst (λ (all : List InputSource). IfOk c.inputs_of.result (λ inputs. map input_of inputs ≡ inputs_of (map said_input all))) one
          c.inputs_of.ensures.inputs;
    }
