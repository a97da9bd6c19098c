-- Its node, its name and namespace, and its value.
use Rattle.std.proofs.Common.{◌++◌, codes, ap, ◌∙◌}
use Rattle.rt_model.specs.Lists.{Text}
use Rattle.show_objects.proofs.Onward.{edit_begun, ended, maybe_tokens, onward, worded_tokens}
use Rattle.show_objects.proofs.edits.put_attribute.Goals as goal

pub returns : goal.returns
returns c =
    let begun = edit_begun (codes "attr") c.args.id in
    let name = worded_tokens (codes "name") c.args.name.now in
    let namespace = maybe_tokens (codes "ns") c.args.namespace.now in
    let new = maybe_tokens (codes "value") c.args.value.now in
    let from_new = new ++ ended in
    let from_namespace = namespace ++ from_new in
    let from_name = name ++ from_namespace in
    record {
      edit =
          onward c.close.result c.close.new.self c.begin_edit.new.object c.args.object.now begun from_name
          c.in_ok-begin_edit.ensures.begins
          (onward c.close.result c.close.new.self c.worded.new.self c.begin_edit.new.object name from_namespace
          (c.in_ok-worded.ensures.worded
          ∙ ap (λ (text : Text). c.begin_edit.new.object ++ worded_tokens (codes "name") text) c.as_str.ensures.text)
          (onward c.close.result c.close.new.self c.maybe.new.self c.worded.new.self namespace from_new
          c.in_ok-maybe.ensures.maybe
          (onward c.close.result c.close.new.self c.maybe-2.new.self c.maybe.new.self new ended
          c.in_ok-maybe-2.ensures.maybe
          c.close.ensures.ends)));
    }
