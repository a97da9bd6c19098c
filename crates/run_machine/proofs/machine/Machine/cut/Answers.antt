use Rattle.std.proofs.Common.{refl, ap}
use Rattle.run_outside.specs.Ends.{fault_in}
use Rattle.run_outside.proofs.Sinks.{ends-caused}
use Rattle.run_machine.proofs.Steps.{no_fault}
use Rattle.run_machine.proofs.Breaking.{never}
use Rattle.run_machine.proofs.machine.Machine.cut.Goals as goal

pub returns-then-wants_memory-clause-ends : goal.returns-then-wants_memory-clause-ends
returns-then-wants_memory-clause-ends g c = λ limits cause. ends-caused limits _ _ _ cause

pub returns-then-wants_memory-clause-cuts : goal.returns-then-wants_memory-clause-cuts
returns-then-wants_memory-clause-cuts g c = λ fault some. no_fault (fault_in c.args.ended) (ap (λ e. fault_in e) (c.wants_memory.ensures.0 c.if-wants_memory.true)) some

pub returns-in-Ok-clause-cuts : goal.returns-in-Ok-clause-cuts
returns-in-Ok-clause-cuts g c = λ fault some. (some, c.in-Ok.ensures.wrote)

pub returns-in-Err-clause-cuts : goal.returns-in-Err-clause-cuts
returns-in-Err-clause-cuts g c = λ fault some. no_fault (fault_in c.in-Err.failed) c.in-Err.ensures.cause some

pub returns-then-wants_memory-clause-part : goal.returns-then-wants_memory-clause-part
returns-then-wants_memory-clause-part g c = record { wants = λ is. (refl, refl); breaks = λ fault some none. no_fault (fault_in c.args.ended) none some }

pub returns-in-Ok-clause-part : goal.returns-in-Ok-clause-part
returns-in-Ok-clause-part g c =
    record {
      wants = λ is. absurd (never c.wants_memory.result (c.wants_memory.ensures.1 is) c.if-wants_memory.false);
      breaks = λ fault some none. no_fault (fault_in c.args.ended) none some;
    }

pub returns-in-Err-clause-part : goal.returns-in-Err-clause-part
returns-in-Err-clause-part g c =
    record {
      wants = λ is. absurd (never c.wants_memory.result (c.wants_memory.ensures.1 is) c.if-wants_memory.false);
      breaks = λ fault some none. c.in-Err.ensures.part;
    }
