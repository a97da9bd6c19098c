-- What is left gives what the whole gives, and nothing was heard yet.
use Rattle.std.proofs.Common.{◌≡◌, drop}
use Rattle.run_shown.specs.Hearing.{first_heard}
use Rattle.run_shown.proofs.hearing.first_matching.Given as goal

abbrev pub invariant-loop-attribute : goal.invariant-loop-attribute
invariant-loop-attribute g l = record {
  same : l.listeners ≡ l.fn.listeners;
  left : first_heard l.event (drop l.attribute-index l.slot) ≡ first_heard l.event l.slot;
}
