-- Its number and name, and the counter.
use Rattle.std.proofs.Common.{◌++◌, codes, ap, ◌∙◌}
use Rattle.rt_language.specs.Lines.{counter_text}
use Rattle.rt_model.specs.Lists.{Text}
use Rattle.run_records.specs.Records.{counter_of}
use Rattle.show_objects.proofs.Onward.{ended, fault_begun, onward, worded_tokens}
use Rattle.show_objects.proofs.faults.put_exhausted.Goals as goal

pub returns : goal.returns
returns c =
    let begun = fault_begun 5 (codes "IdsExhausted") in
    let what = worded_tokens (codes "what") (counter_text (counter_of c.args.what)) in
    let from_what = what ++ ended in
    record {
      fault =
          onward c.close.result c.close.new.self c.begin_fault.new.object c.args.object.now begun from_what
          c.in_ok-begin_fault.ensures.begins
          (onward c.close.result c.close.new.self c.worded.new.self c.begin_fault.new.object what ended
          (c.in_ok-worded.ensures.worded
          ∙ ap (λ (text : Text). c.begin_fault.new.object ++ worded_tokens (codes "what") text) c.counter_name.ensures.name)
          c.close.ensures.ends);
    }
