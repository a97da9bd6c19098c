-- The line of a fault that says one number is that of the fault.
use Rattle.std.proofs.Common.{◌≡◌, IfOk, option_map, sym, subst}
use Rattle.run_reports.specs.Seen.{fault_of}
use Rattle.show_answers.specs.Told.{ToldFault}
use Rattle.show_objects.specs.Objects.{object_form}
use Rattle.show_objects.proofs.faults.fault_object.Goals as goal

pub returns-in-TooDeep : goal.returns-in-TooDeep
returns-in-TooDeep c = record {
  line =
      subst
      (λ fault. IfOk c.counted_line-in-TooDeep.result (λ line. line ≡ option_map (λ told. object_form (ToldFault told)) (fault_of fault)))
      (sym c.in-TooDeep.is)
      c.counted_line-in-TooDeep.ensures.line;
}

pub returns-in-BadNode : goal.returns-in-BadNode
returns-in-BadNode c = record {
  line =
      subst
      (λ fault. IfOk c.counted_line-in-BadNode.result (λ line. line ≡ option_map (λ told. object_form (ToldFault told)) (fault_of fault)))
      (sym c.in-BadNode.is)
      c.counted_line-in-BadNode.ensures.line;
}
