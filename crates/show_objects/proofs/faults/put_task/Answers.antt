-- Its number and name, its scope and task.
use Rattle.std.proofs.Common.{◌++◌, codes}
use Rattle.show_objects.proofs.Onward.{counted_tokens, ended, fault_begun, onward}
use Rattle.show_objects.proofs.faults.put_task.Goals as goal

pub returns : goal.returns
returns c =
    let begun = fault_begun 7 (codes "NoSuchTask") in
    let scope = counted_tokens (codes "scope") c.args.scope in
    let task = counted_tokens (codes "task") c.args.task in
    let from_task = task ++ ended in
    let from_scope = scope ++ from_task in
    record {
      fault =
          onward c.close.result c.close.new.self c.begin_fault.new.object c.args.object.now begun from_scope
          c.in_ok-begin_fault.ensures.begins
          (onward c.close.result c.close.new.self c.counted.new.self c.begin_fault.new.object scope from_task
          c.in_ok-counted.ensures.counted
          (onward c.close.result c.close.new.self c.counted-2.new.self c.counted.new.self task ended
          c.in_ok-counted-2.ensures.counted
          c.close.ensures.ends));
    }
