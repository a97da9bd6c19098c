-- What is left gives what the whole gives, and nothing was heard yet.
use Rattle.std.proofs.Common.{◌≡◌, drop}
use Rattle.run_shown.specs.Hearing.{first_listening}
use Rattle.run_shown.proofs.hearing.first_listener.Given as goal

abbrev pub invariant-loop-attribute : goal.invariant-loop-attribute
invariant-loop-attribute g l = record {
  same : l.listeners ≡ l.fn.listeners;
  left : first_listening l.event (drop l.attribute-index l.slot) ≡ first_listening l.event l.slot;
}
