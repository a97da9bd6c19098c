-- So far each value was copied.
use Rattle.std.proofs.Common.{◌≡◌, take}
use Rattle.lang_script.proofs.caller.held_of.Given as goal

abbrev pub invariant-loop-value : goal.invariant-loop-value
invariant-loop-value l = l.held ≡ take l.value-index l.arguments
