-- The expressions that are left decide.
use Rattle.std.proofs.Common.{◌≡◌, drop}
use Rattle.rt_language.specs.Formulas.{all_look}
use Rattle.lang_syntax.specs.Expressions.{arguments_of}
use Rattle.lang_syntax.proofs.glances.+looking.Given as goal

abbrev pub invariant-all_look-loop-expression : goal.invariant-all_look-loop-expression
invariant-all_look-loop-expression l =
    all_look l.may (arguments_of l.expressions) ≡ all_look l.may (arguments_of (drop l.expression-index l.expressions))
