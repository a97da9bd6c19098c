-- The expression of the code for each of the language: by it a contract can hold one of the language.
use Rattle.std.specs.Prelude.{List, [], ◌∷◌}
use Rattle.rt_language.specs.Syntax as language
use Rattle.lang_syntax.specs.declared.derived.Derived.{Derived}
use Rattle.lang_syntax.specs.declared.derived.Derived.TheVariants as deriveds
use Rattle.lang_syntax.specs.declared.expression.Literal.{Literal}
use Rattle.lang_syntax.specs.declared.expression.Literal.TheVariants as literals
use Rattle.lang_syntax.specs.declared.expression.Expression.{Expression}
use Rattle.lang_syntax.specs.declared.expression.Expression.TheVariants as forms

-- a literal
abbrev pub literal_from : language.Literal → Literal
literal_from (language.NumberLiteral n) = literals.Number n
literal_from (language.TextLiteral t) = literals.Text t

abbrev mutual
  -- an expression
  pub expression_from : language.Expression → Expression
  expression_from (language.Say l) = forms.Say (literal_from l)
  expression_from (language.Get n) = forms.Get n
  expression_from (language.Read n) = forms.Read n
  expression_from (language.Cat parts) = forms.Cat (expressions_from parts)
  expression_from (language.Add a b) = forms.Add (expression_from a) (expression_from b)
  expression_from (language.Multiply a b) = forms.Multiply (expression_from a) (expression_from b)
  expression_from (language.Equal a b) = forms.Equal (expression_from a) (expression_from b)
  expression_from (language.Less a b) = forms.Less (expression_from a) (expression_from b)
  expression_from (language.Not a) = forms.Not (expression_from a)
  expression_from (language.IsAbsent a) = forms.IsAbsent (expression_from a)
  expression_from (language.If test chosen other) = forms.If (expression_from test) (expression_from chosen) (expression_from other)
  expression_from (language.Parse a) = forms.Parse (expression_from a)
  expression_from (language.LookUp kind) = forms.LookUp kind
  expression_from language.OwnScope = forms.OwnScope
  expression_from language.Generation = forms.Generation
  expression_from language.NearestError = forms.NearestError
  expression_from language.Payload = forms.Payload
  expression_from language.Me = forms.Me

  -- expressions in a row
  pub expressions_from : language.Expressions → List Expression
  expressions_from language.NoExpressions = []
  expressions_from (language.MoreExpressions first rest) = expression_from first ∷ expressions_from rest

-- what a memo or a resource is of
abbrev pub derived_from : language.Derived → Derived
derived_from (language.ValueOf value) = deriveds.Value (expression_from value)
derived_from (language.LoadOf key waits value) = deriveds.Load (expression_from key) waits (expression_from value)
