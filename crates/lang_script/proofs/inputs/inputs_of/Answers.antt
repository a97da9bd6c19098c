-- One more, and none.
use Rattle.std.proofs.Common.{rules, arith, refl, map, ◌≡◌, ◌∙◌, ap, sym}
use Rattle.run_reports.specs.Seen as reports
use Rattle.rt_language.specs.Meaning as meanings
use Rattle.lang_syntax.specs.Mirror as mirror
use Rattle.lang_script.specs.Posted.{posted_of}
use Rattle.lang_script.proofs.Taken.{taken-more, taken-all}
use Rattle.lang_script.proofs.inputs.inputs_of.Goals as goal

pub loop-input-preserved : goal.loop-input-preserved
loop-input-preserved c =
    taken-more reports.input_of (λ xs. meanings.inputs_of (map mirror.input_of xs)) c.args.inputs.now c.loop-input.input-index c.input-item.result _ c.push.new.self c.in_ok-read.read (meanings.input_of (mirror.input_of c.input-item.result)) _ (omega arith) c.input-item.is refl
    (search rules) (search rules) c.loop-input.invariant

pub returns : goal.returns
returns c = record { inputs = taken-all reports.input_of (λ xs. meanings.inputs_of (map mirror.input_of xs)) c.args.inputs.now c.loop-input.input-index _ _ (omega arith) refl c.loop-input.invariant }
