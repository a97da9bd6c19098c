-- Which expression of the language each form is.
use Rattle.std.proofs.Common.{ℕ, List, ◌≡◌, rules}
use Rattle.rt_language.specs.Syntax as language
use Rattle.lang_syntax.specs.Expressions.{literal_of, expression_of, arguments_of}
use Rattle.lang_syntax.specs.declared.expression.Literal.{Literal}
use Rattle.lang_syntax.specs.declared.expression.Expression.{Expression, the_lemmas}
use Rattle.lang_syntax.specs.declared.expression.Expression.TheVariants as forms

pub seen-Say : (l : Literal) → expression_of (forms.Say l) ≡ language.Say (literal_of l)
seen-Say l = search (rules, the_lemmas)

pub seen-Get : (n : ℕ) → expression_of (forms.Get n) ≡ language.Get n
seen-Get n = search (rules, the_lemmas)

pub seen-Read : (n : ℕ) → expression_of (forms.Read n) ≡ language.Read n
seen-Read n = search (rules, the_lemmas)

pub seen-Cat : (parts : List Expression) → expression_of (forms.Cat parts) ≡ language.Cat (arguments_of parts)
seen-Cat parts = search (rules, the_lemmas)

pub seen-Add : (a b : Expression) → expression_of (forms.Add a b) ≡ language.Add (expression_of a) (expression_of b)
seen-Add a b = search (rules, the_lemmas)

pub seen-Multiply : (a b : Expression) → expression_of (forms.Multiply a b) ≡ language.Multiply (expression_of a) (expression_of b)
seen-Multiply a b = search (rules, the_lemmas)

pub seen-Equal : (a b : Expression) → expression_of (forms.Equal a b) ≡ language.Equal (expression_of a) (expression_of b)
seen-Equal a b = search (rules, the_lemmas)

pub seen-Less : (a b : Expression) → expression_of (forms.Less a b) ≡ language.Less (expression_of a) (expression_of b)
seen-Less a b = search (rules, the_lemmas)

pub seen-Not : (a : Expression) → expression_of (forms.Not a) ≡ language.Not (expression_of a)
seen-Not a = search (rules, the_lemmas)

pub seen-IsAbsent : (a : Expression) → expression_of (forms.IsAbsent a) ≡ language.IsAbsent (expression_of a)
seen-IsAbsent a = search (rules, the_lemmas)

pub seen-If : (test chosen other : Expression) → expression_of (forms.If test chosen other) ≡ language.If (expression_of test) (expression_of chosen) (expression_of other)
seen-If test chosen other = search (rules, the_lemmas)

pub seen-Parse : (a : Expression) → expression_of (forms.Parse a) ≡ language.Parse (expression_of a)
seen-Parse a = search (rules, the_lemmas)

pub seen-LookUp : (kind : ℕ) → expression_of (forms.LookUp kind) ≡ language.LookUp kind
seen-LookUp kind = search (rules, the_lemmas)

pub seen-OwnScope : expression_of forms.OwnScope ≡ language.OwnScope
seen-OwnScope = search (rules, the_lemmas)

pub seen-Generation : expression_of forms.Generation ≡ language.Generation
seen-Generation = search (rules, the_lemmas)

pub seen-NearestError : expression_of forms.NearestError ≡ language.NearestError
seen-NearestError = search (rules, the_lemmas)

pub seen-Payload : expression_of forms.Payload ≡ language.Payload
seen-Payload = search (rules, the_lemmas)

pub seen-Me : expression_of forms.Me ≡ language.Me
seen-Me = search (rules, the_lemmas)
