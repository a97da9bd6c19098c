-- Nothing failed so far, and a failure is counted.
use Rattle.std.proofs.Common.{ℕ, ◌<◌, ◌≤◌, Ok, sym, subst}
use Rattle.std.specs.Prelude.{IsErrOf}
use Rattle.rt_lemmas.proofs.Numbers.{at_most as same_count}
use Rattle.show_streams.specs.declared.out.OutError.TheVariants as errors
use Rattle.show_streams.proofs.OnePut.{untold}
use Rattle.show_streams.proofs.standard_out.StandardOutOut.put.Goals as goal

pub returns-then-done-bytes : goal.returns-then-done-bytes
returns-then-done-bytes g c = record {
  writes = untold c.args.bytes.now c.args.self.now.faults c.loop.self.faults (Ok tt) (same_count c.loop.invariant.same) (λ failed. absurd (cc failed));
}

pub returns-in_default : goal.returns-in_default
returns-in_default g c = record {
  writes =
      untold c.args.bytes.now c.args.self.now.faults c.failed.new.self.faults c.failed.result
      (subst (λ (n : ℕ). n ≤ c.failed.new.self.faults) c.loop.invariant.same c.failed.ensures.later)
      (λ failed. subst (λ (n : ℕ). n < c.failed.new.self.faults) c.loop.invariant.same (c.failed.ensures.cause failed));
}

pub returns : goal.returns
returns g c = record {
  writes =
      untold c.args.bytes.now c.args.self.now.faults c.failed-2.new.self.faults c.failed-2.result
      (subst (λ (n : ℕ). n ≤ c.failed-2.new.self.faults) c.loop.invariant.same c.failed-2.ensures.later)
      (λ failed. subst (λ (n : ℕ). n < c.failed-2.new.self.faults) c.loop.invariant.same (c.failed-2.ensures.cause failed));
}
