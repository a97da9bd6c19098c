-- What is gathered so far, with what is left, is what the whole gives.
use Rattle.std.proofs.Common.{◌≡◌, [], drop}
use Rattle.run_attributes.specs.Content.{with_all_listeners}
use Rattle.run_attributes.proofs.content.element_listeners.Given as goal

abbrev pub invariant-loop-entry : goal.invariant-loop-entry
invariant-loop-entry g l = with_all_listeners l.given l.all (drop l.entry-index l.entries) ≡ with_all_listeners l.given [] l.entries
