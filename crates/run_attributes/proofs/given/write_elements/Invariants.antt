-- What was written so far, and what is left, are what the whole gives.
use Rattle.std.proofs.Common.{◌≡◌, ◌++◌, drop}
use Rattle.run_attributes.specs.Given.{edits_of, elements_written}
use Rattle.run_attributes.proofs.given.write_elements.Given as goal

abbrev pub invariant-loop-element : goal.invariant-loop-element
invariant-loop-element g l =
    edits_of l.edits ++ elements_written l.pass l.new l.old (drop l.element-index l.elements) ≡ edits_of l.fn.edits ++ elements_written l.pass l.new l.old l.elements
