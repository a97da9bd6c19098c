-- Checked expressions of code as those of the language's definitions, and what memos and resources are of.
use Rattle.std.specs.Prelude.{List, [], ◌∷◌, map}
use Rattle.rt_language.specs.Syntax as language
use Rattle.lang_syntax.specs.declared.expression.Literal.{Literal}
use Rattle.lang_syntax.specs.declared.expression.Literal.TheVariants as literals
use Rattle.lang_syntax.specs.declared.expression.Expression.{Expression}
use Rattle.lang_syntax.specs.declared.expression.Expression.TheOpen.{Expression-F}
use Rattle.lang_syntax.specs.declared.expression.Expression.TheFolds.{fold-Expression}
use Rattle.lang_syntax.specs.declared.derived.Derived.{Derived}
use Rattle.lang_syntax.specs.declared.derived.Derived.TheVariants as deriveds

-- a literal
abbrev pub literal_of : Literal → language.Literal
literal_of (literals.Number n) = language.NumberLiteral n
literal_of (literals.Text t) = language.TextLiteral t

-- expressions in a row
abbrev pub in_a_row : List language.Expression → language.Expressions
in_a_row [] = language.NoExpressions
in_a_row (e ∷ es) = language.MoreExpressions e (in_a_row es)

-- one level of an expression
abbrev pub expression_step : Expression-F language.Expression → language.Expression
expression_step (Expression-F.Say l) = language.Say (literal_of l)
expression_step (Expression-F.Get v) = language.Get v
expression_step (Expression-F.Read v) = language.Read v
expression_step (Expression-F.Cat parts) = language.Cat (in_a_row parts)
expression_step (Expression-F.Add a b) = language.Add a b
expression_step (Expression-F.Multiply a b) = language.Multiply a b
expression_step (Expression-F.Equal a b) = language.Equal a b
expression_step (Expression-F.Less a b) = language.Less a b
expression_step (Expression-F.Not e) = language.Not e
expression_step (Expression-F.IsAbsent e) = language.IsAbsent e
expression_step (Expression-F.If test chosen other) = language.If test chosen other
expression_step (Expression-F.Parse e) = language.Parse e
expression_step (Expression-F.LookUp kind) = language.LookUp kind
expression_step Expression-F.OwnScope = language.OwnScope
expression_step Expression-F.Generation = language.Generation
expression_step Expression-F.NearestError = language.NearestError
expression_step Expression-F.Payload = language.Payload
expression_step Expression-F.Me = language.Me

-- an expression
abbrev pub expression_of : Expression → language.Expression
expression_of = fold-Expression language.Expression expression_step

-- arguments and props
abbrev pub arguments_of : List Expression → language.Expressions
arguments_of es = in_a_row (map expression_of es)

-- what a memo or a resource is of
abbrev pub derived_of : Derived → language.Derived
derived_of (deriveds.Value e) = language.ValueOf (expression_of e)
derived_of (deriveds.Load key waits value) = language.LoadOf (expression_of key) waits (expression_of value)
