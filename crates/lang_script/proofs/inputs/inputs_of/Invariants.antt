-- What was taken, and what is left, are the whole.
use Rattle.std.proofs.Common.{◌≡◌, ◌++◌, map, drop}
use Rattle.run_reports.specs.Seen as reports
use Rattle.rt_language.specs.Meaning as meanings
use Rattle.lang_syntax.specs.Mirror as mirror
use Rattle.lang_script.specs.Posted.{posted_of}
use Rattle.lang_script.proofs.inputs.inputs_of.Given as goal

abbrev pub invariant-loop-input : goal.invariant-loop-input
invariant-loop-input l = map reports.input_of l.taken ++ meanings.inputs_of (map mirror.input_of (drop l.input-index l.inputs)) ≡ meanings.inputs_of (map mirror.input_of l.inputs)
