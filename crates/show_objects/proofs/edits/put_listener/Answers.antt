-- Its word, its node, its name.
use Rattle.std.proofs.Common.{◌++◌, codes, ap, ◌∙◌}
use Rattle.rt_model.specs.Lists.{Text}
use Rattle.show_objects.proofs.Onward.{edit_begun, ended, onward, worded_tokens}
use Rattle.show_objects.proofs.edits.put_listener.Goals as goal

pub returns : goal.returns
returns c =
    let begun = edit_begun c.args.word.now c.args.id in
    let name = worded_tokens (codes "name") c.args.name.now in
    let from_name = name ++ ended in
    record {
      edit =
          onward c.close.result c.close.new.self c.begin_edit.new.object c.args.object.now begun from_name
          c.in_ok-begin_edit.ensures.begins
          (onward c.close.result c.close.new.self c.worded.new.self c.begin_edit.new.object name ended
          (c.in_ok-worded.ensures.worded
          ∙ ap (λ (text : Text). c.begin_edit.new.object ++ worded_tokens (codes "name") text) c.as_str.ensures.text)
          c.close.ensures.ends);
    }
