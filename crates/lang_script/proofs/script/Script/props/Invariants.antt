-- The values so far, and those that are left, are the whole.
use Rattle.std.proofs.Common.{◌≡◌, ◌++◌, map, drop}
use Rattle.rt_language.specs.Values.{values_of}
use Rattle.lang_syntax.specs.Mirror.{literal_of}
use Rattle.lang_script.proofs.script.Script.props.Given as goal

abbrev pub invariant-loop-literal : goal.invariant-loop-literal
invariant-loop-literal l = l.values ++ values_of (map literal_of (drop l.literal-index (l.self).props)) ≡ values_of (map literal_of (l.self).props)
