-- Which memos and resources only look.
use Rattle.std.specs.Prelude.{Bool}
use Rattle.rt_language.specs.Formulas as meanings
use Rattle.lang_syntax.specs.Expressions.{derived_of}
use Rattle.lang_syntax.specs.declared.derived.Derived.{Derived}

-- whether a value or a key only looks, and what is loaded looks at nothing
abbrev pub derived_looks : Derived → Bool
derived_looks d = meanings.derived_looks (derived_of d)
