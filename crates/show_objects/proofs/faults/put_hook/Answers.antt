-- Its number and name, its scope and index, and the two kinds.
use Rattle.std.proofs.Common.{◌++◌, codes}
use Rattle.show_objects.proofs.Onward.{counted_tokens, ended, fault_begun, onward}
use Rattle.show_objects.proofs.faults.put_hook.Goals as goal

pub returns : goal.returns
returns c =
    let begun = fault_begun 6 (codes "HookChanged") in
    let scope = counted_tokens (codes "scope") c.args.scope in
    let index = counted_tokens (codes "index") c.args.index in
    let kept = counted_tokens (codes "kept") c.args.kept in
    let asked = counted_tokens (codes "asked") c.args.asked in
    let from_asked = asked ++ ended in
    let from_kept = kept ++ from_asked in
    let from_index = index ++ from_kept in
    let from_scope = scope ++ from_index in
    record {
      fault =
          onward c.close.result c.close.new.self c.begin_fault.new.object c.args.object.now begun from_scope
          c.in_ok-begin_fault.ensures.begins
          (onward c.close.result c.close.new.self c.counted.new.self c.begin_fault.new.object scope from_index
          c.in_ok-counted.ensures.counted
          (onward c.close.result c.close.new.self c.counted-2.new.self c.counted.new.self index from_kept
          c.in_ok-counted-2.ensures.counted
          (onward c.close.result c.close.new.self c.counted-3.new.self c.counted-2.new.self kept from_asked
          c.in_ok-counted-3.ensures.counted
          (onward c.close.result c.close.new.self c.counted-4.new.self c.counted-3.new.self asked ended
          c.in_ok-counted-4.ensures.counted
          c.close.ensures.ends))));
    }
