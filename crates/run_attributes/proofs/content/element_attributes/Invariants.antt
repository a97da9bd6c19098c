-- What is gathered so far, with what is left, is what the whole gives.
use Rattle.std.proofs.Common.{◌≡◌, [], drop}
use Rattle.run_attributes.specs.Content.{attributes_of, with_entries}
use Rattle.run_attributes.proofs.content.element_attributes.Given as goal

abbrev pub invariant-loop-entry : goal.invariant-loop-entry
invariant-loop-entry g l = with_entries l.given (attributes_of l.all) (drop l.entry-index l.entries) ≡ with_entries l.given [] l.entries
