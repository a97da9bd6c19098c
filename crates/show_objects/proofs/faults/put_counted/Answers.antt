-- Its number and name, and what it says.
use Rattle.std.proofs.Common.{◌++◌}
use Rattle.show_objects.proofs.Onward.{counted_tokens, ended, fault_begun, onward}
use Rattle.show_objects.proofs.faults.put_counted.Goals as goal

pub returns : goal.returns
returns c =
    let begun = fault_begun c.args.which c.args.name.now in
    let count = counted_tokens c.args.member.now c.args.count in
    let from_count = count ++ ended in
    record {
      fault =
          onward c.close.result c.close.new.self c.begin_fault.new.object c.args.object.now begun from_count
          c.in_ok-begin_fault.ensures.begins
          (onward c.close.result c.close.new.self c.counted.new.self c.begin_fault.new.object count ended
          c.in_ok-counted.ensures.counted
          c.close.ensures.ends);
    }
