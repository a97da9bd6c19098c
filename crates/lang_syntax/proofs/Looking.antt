-- Which expressions only look, form by form and one after another.
use Rattle.std.proofs.Common.{ℕ, Bool, true, false, List, [], ◌∷◌, ◌≡◌, refl, sym, ap, ◌∙◌, ◌&&◌, ◌+◌, ◌<◌, ◌≤◌, length, get_or, drop, add-one, drop-cons}
use Rattle.std.proofs.Math.ListN.{drop_of_length-le}
use Rattle.rt_language.specs.Formulas.{looks, all_look}
use Rattle.lang_syntax.specs.Expressions.{expression_of, arguments_of}
use Rattle.lang_syntax.specs.declared.expression.Literal.{Literal}
use Rattle.lang_syntax.specs.declared.expression.Expression.{Expression}
use Rattle.lang_syntax.specs.declared.expression.Expression.TheVariants as forms
use Rattle.lang_syntax.proofs.Forms.{seen-Say, seen-Get, seen-Read, seen-Cat, seen-Add, seen-Multiply, seen-Equal, seen-Less, seen-Not, seen-IsAbsent, seen-If, seen-Parse, seen-LookUp, seen-OwnScope, seen-Generation, seen-NearestError, seen-Payload, seen-Me}

module _ (may : Bool) where
  pub l-Say : (l : Literal) → looks may (expression_of (forms.Say l)) ≡ true
  unfolding looks
  l-Say l = ap (looks may) (seen-Say l)

  pub l-Get : (n : ℕ) → looks may (expression_of (forms.Get n)) ≡ true
  unfolding looks
  l-Get n = ap (looks may) (seen-Get n)

  pub l-Read : (n : ℕ) → looks may (expression_of (forms.Read n)) ≡ may
  unfolding looks
  l-Read n = ap (looks may) (seen-Read n)

  pub l-Cat : (parts : List Expression) → looks may (expression_of (forms.Cat parts)) ≡ all_look may (arguments_of parts)
  unfolding looks
  l-Cat parts = ap (looks may) (seen-Cat parts)

  pub l-Add : (a b : Expression) → looks may (expression_of (forms.Add a b)) ≡ (looks may (expression_of a) && looks may (expression_of b))
  unfolding looks
  l-Add a b = ap (looks may) (seen-Add a b)

  pub l-Multiply : (a b : Expression) → looks may (expression_of (forms.Multiply a b)) ≡ (looks may (expression_of a) && looks may (expression_of b))
  unfolding looks
  l-Multiply a b = ap (looks may) (seen-Multiply a b)

  pub l-Equal : (a b : Expression) → looks may (expression_of (forms.Equal a b)) ≡ (looks may (expression_of a) && looks may (expression_of b))
  unfolding looks
  l-Equal a b = ap (looks may) (seen-Equal a b)

  pub l-Less : (a b : Expression) → looks may (expression_of (forms.Less a b)) ≡ (looks may (expression_of a) && looks may (expression_of b))
  unfolding looks
  l-Less a b = ap (looks may) (seen-Less a b)

  pub l-Not : (a : Expression) → looks may (expression_of (forms.Not a)) ≡ looks may (expression_of a)
  unfolding looks
  l-Not a = ap (looks may) (seen-Not a)

  pub l-IsAbsent : (a : Expression) → looks may (expression_of (forms.IsAbsent a)) ≡ looks may (expression_of a)
  unfolding looks
  l-IsAbsent a = ap (looks may) (seen-IsAbsent a)

  pub l-Parse : (a : Expression) → looks may (expression_of (forms.Parse a)) ≡ looks may (expression_of a)
  unfolding looks
  l-Parse a = ap (looks may) (seen-Parse a)

  pub l-If : (test chosen other : Expression) → looks may (expression_of (forms.If test chosen other)) ≡ (looks may (expression_of test) && (looks may (expression_of chosen) && looks may (expression_of other)))
  unfolding looks
  l-If test chosen other = ap (looks may) (seen-If test chosen other)

  pub l-LookUp : (kind : ℕ) → looks may (expression_of (forms.LookUp kind)) ≡ may
  unfolding looks
  l-LookUp kind = ap (looks may) (seen-LookUp kind)

  pub l-OwnScope : looks may (expression_of forms.OwnScope) ≡ false
  unfolding looks
  l-OwnScope = ap (looks may) seen-OwnScope

  pub l-Generation : looks may (expression_of forms.Generation) ≡ false
  unfolding looks
  l-Generation = ap (looks may) seen-Generation

  pub l-NearestError : looks may (expression_of forms.NearestError) ≡ false
  unfolding looks
  l-NearestError = ap (looks may) seen-NearestError

  pub l-Payload : looks may (expression_of forms.Payload) ≡ false
  unfolding looks
  l-Payload = ap (looks may) seen-Payload

  pub l-Me : looks may (expression_of forms.Me) ≡ false
  unfolding looks
  l-Me = ap (looks may) seen-Me

  next_drop : (es : List Expression) (i : ℕ) (e : Expression) → i < length es → e ≡ get_or es i e → drop i es ≡ e ∷ drop (i + 1) es
  next_drop es i e low is =
      let x : drop i es ≡ get_or es i e ∷ drop (i + 1) es = rw (add-one, drop-cons es i e) refl in
      x ∙ ap (λ y. y ∷ drop (i + 1) es) (sym is)

  -- the expression at a place looks, and so do those behind it
  pub all_look_next : (es : List Expression) (i : ℕ) (e : Expression) → i < length es → e ≡ get_or es i e →
      all_look may (arguments_of (drop i es)) ≡ (looks may (expression_of e) && all_look may (arguments_of (drop (i + 1) es)))
  unfolding all_look
  all_look_next es i e low is = ap (λ (xs : List Expression). all_look may (arguments_of xs)) (next_drop es i e low is)

  -- no expression is left
  pub all_look_end : (es : List Expression) (i : ℕ) → length es ≤ i → all_look may (arguments_of (drop i es)) ≡ true
  unfolding all_look
  all_look_end es i end = ap (λ (xs : List Expression). all_look may (arguments_of xs)) (drop_of_length-le es end)

pub ruleset looking = (
  l-Say,
  l-Get,
  l-Read,
  l-Cat,
  l-Add,
  l-Multiply,
  l-Equal,
  l-Less,
  l-Not,
  l-IsAbsent,
  l-If,
  l-Parse,
  l-LookUp,
  l-OwnScope,
  l-Generation,
  l-NearestError,
  l-Payload,
  l-Me,
  all_look_next,
  all_look_end,
)
