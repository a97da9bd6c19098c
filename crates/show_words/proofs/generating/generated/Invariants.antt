-- The writes so far, with those that are still to come, are all writes.
use Rattle.std.proofs.Common.{◌≡◌, ◌++◌, ◌-◌, map}
use Rattle.rt_language.specs.Generated.{writes_from}
use Rattle.lang_syntax.specs.Mirror.{input_of}
use Rattle.show_words.proofs.generating.generated.Given as goal

abbrev pub invariant-loop-write : goal.invariant-loop-write
invariant-loop-write l = map input_of l.inputs ++ writes_from l.rows l.write (l.rows - l.write) ≡ writes_from l.rows 0 l.rows
