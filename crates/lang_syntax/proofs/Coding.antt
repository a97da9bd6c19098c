-- The expression of the code for one of the language is that one.
use Rattle.std.proofs.Common.{List, [], ◌∷◌, ◌≡◌, refl, ap, ◌∙◌}
use Rattle.rt_language.specs.Syntax as language
use Rattle.lang_syntax.specs.Expressions.{literal_of, expression_of, arguments_of, derived_of}
use Rattle.lang_syntax.specs.Coding.{literal_from, expression_from, expressions_from, derived_from}
use Rattle.lang_syntax.proofs.Forms.{seen-Say, seen-Get, seen-Read, seen-Cat, seen-Add, seen-Multiply, seen-Equal, seen-Less, seen-Not, seen-IsAbsent, seen-If, seen-Parse, seen-LookUp, seen-OwnScope, seen-Generation, seen-NearestError, seen-Payload, seen-Me}

literal_back : (l : language.Literal) → literal_of (literal_from l) ≡ l
literal_back (language.NumberLiteral n) = refl
literal_back (language.TextLiteral t) = refl

mutual
  expression_back : (e : language.Expression) → expression_of (expression_from e) ≡ e
  expression_back (language.Say l) = seen-Say (literal_from l) ∙ ap language.Say (literal_back l)
  expression_back (language.Get n) = seen-Get n
  expression_back (language.Read n) = seen-Read n
  expression_back (language.Cat parts) = seen-Cat (expressions_from parts) ∙ ap language.Cat (expressions_back parts)
  expression_back (language.Add a b) =
      seen-Add (expression_from a) (expression_from b) ∙ (λ i. language.Add (expression_back a i) (expression_back b i))
  expression_back (language.Multiply a b) =
      seen-Multiply (expression_from a) (expression_from b) ∙ (λ i. language.Multiply (expression_back a i) (expression_back b i))
  expression_back (language.Equal a b) =
      seen-Equal (expression_from a) (expression_from b) ∙ (λ i. language.Equal (expression_back a i) (expression_back b i))
  expression_back (language.Less a b) =
      seen-Less (expression_from a) (expression_from b) ∙ (λ i. language.Less (expression_back a i) (expression_back b i))
  expression_back (language.Not a) = seen-Not (expression_from a) ∙ ap language.Not (expression_back a)
  expression_back (language.IsAbsent a) = seen-IsAbsent (expression_from a) ∙ ap language.IsAbsent (expression_back a)
  expression_back (language.If test chosen other) =
      seen-If (expression_from test) (expression_from chosen) (expression_from other)
      ∙ (λ i. language.If (expression_back test i) (expression_back chosen i) (expression_back other i))
  expression_back (language.Parse a) = seen-Parse (expression_from a) ∙ ap language.Parse (expression_back a)
  expression_back (language.LookUp kind) = seen-LookUp kind
  expression_back language.OwnScope = seen-OwnScope
  expression_back language.Generation = seen-Generation
  expression_back language.NearestError = seen-NearestError
  expression_back language.Payload = seen-Payload
  expression_back language.Me = seen-Me

  expressions_back : (es : language.Expressions) → arguments_of (expressions_from es) ≡ es
  expressions_back language.NoExpressions = refl
  expressions_back (language.MoreExpressions first rest) = λ i. language.MoreExpressions (expression_back first i) (expressions_back rest i)

-- so is what a memo or a resource is of
pub derived_back : (d : language.Derived) → derived_of (derived_from d) ≡ d
derived_back (language.ValueOf value) = ap language.ValueOf (expression_back value)
derived_back (language.LoadOf key waits value) = λ i. language.LoadOf (expression_back key i) waits (expression_back value i)
