-- What was written so far, and what is left, are what the whole gives.
use Rattle.std.proofs.Common.{◌≡◌, ◌++◌, drop}
use Rattle.run_attributes.specs.Given.{edits_of, entries_written, element_written}
use Rattle.run_attributes.proofs.given.write_element.Given as goal

abbrev pub invariant-loop-entry : goal.invariant-loop-entry
invariant-loop-entry g l =
    edits_of l.edits ++ entries_written l.pass l.new l.old l.element.number (drop l.entry-index l.entry-items) ≡
    edits_of l.fn.edits ++ element_written l.pass l.new l.old l.element
