-- What each form of expression is worth that looks at nothing, and several, one after another.
use Rattle.std.proofs.Common.{ℕ, Bool, true, false, List, [], ◌∷◌, ◌++◌, ◌≡◌, refl, sym, ap, ◌∙◌, not, ◌+◌, ◌<◌, ◌≤◌, length, get_or, drop, add-one, drop-cons}
use Rattle.std.proofs.Math.ListN.{drop_of_length-le}
use Rattle.std.proofs.lemmas.List.{append_assoc}
use Rattle.std.specs.Prelude.{if◌then◌else◌}
use Rattle.rt_language.specs.Values.{Value, NoValue, TextValue, value_of, is_true, flag, same_value, is_absent, added, multiplied, compared, parsed, text_of, texts_of}
use Rattle.rt_language.specs.Expressions.{held_by}
use Rattle.rt_language.specs.Formulas.{plain_value, plain_values}
use Rattle.lang_syntax.specs.Mirror.{literal_of, expression_of, arguments_of}
use Rattle.lang_syntax.specs.declared.expression.Literal.{Literal}
use Rattle.lang_syntax.specs.declared.expression.Expression.{Expression}
use Rattle.lang_syntax.specs.declared.expression.Expression.TheVariants as forms
use Rattle.lang_syntax.proofs.Forms.{seen-Say, seen-Get, seen-Read, seen-Cat, seen-Add, seen-Multiply, seen-Equal, seen-Less, seen-Not, seen-IsAbsent, seen-If, seen-Parse, seen-LookUp, seen-OwnScope, seen-Generation, seen-NearestError, seen-Payload, seen-Me}
use Rattle.lang_script.proofs.Expressions.{chosen_by}

module _ (held : List Value) where
  -- the value of an expression
  abbrev worth : Expression → Value
  worth e = plain_value held (expression_of e)

  pub v-Say : (l : Literal) → plain_value held (expression_of (forms.Say l)) ≡ value_of (literal_of l)
  unfolding plain_value
  v-Say l = ap (plain_value held) (seen-Say l)

  pub v-Get : (n : ℕ) → plain_value held (expression_of (forms.Get n)) ≡ held_by held n
  unfolding plain_value
  v-Get n = ap (plain_value held) (seen-Get n)

  pub v-Read : (n : ℕ) → plain_value held (expression_of (forms.Read n)) ≡ NoValue
  unfolding plain_value
  v-Read n = ap (plain_value held) (seen-Read n)

  pub v-Cat : (parts : List Expression) → plain_value held (expression_of (forms.Cat parts)) ≡ TextValue (texts_of (plain_values held (arguments_of parts)))
  unfolding plain_value
  v-Cat parts = ap (plain_value held) (seen-Cat parts)

  pub v-Add : (a b : Expression) → plain_value held (expression_of (forms.Add a b)) ≡ added (worth a) (worth b)
  unfolding plain_value
  v-Add a b = ap (plain_value held) (seen-Add a b)

  pub v-Multiply : (a b : Expression) → plain_value held (expression_of (forms.Multiply a b)) ≡ multiplied (worth a) (worth b)
  unfolding plain_value
  v-Multiply a b = ap (plain_value held) (seen-Multiply a b)

  pub v-Less : (a b : Expression) → plain_value held (expression_of (forms.Less a b)) ≡ compared (worth a) (worth b)
  unfolding plain_value
  v-Less a b = ap (plain_value held) (seen-Less a b)

  pub v-Equal : (a b : Expression) → plain_value held (expression_of (forms.Equal a b)) ≡ flag (same_value (worth a) (worth b))
  unfolding plain_value
  v-Equal a b = ap (plain_value held) (seen-Equal a b)

  pub v-Not : (a : Expression) → plain_value held (expression_of (forms.Not a)) ≡ flag (not (is_true (worth a)))
  unfolding plain_value
  v-Not a = ap (plain_value held) (seen-Not a)

  pub v-IsAbsent : (a : Expression) → plain_value held (expression_of (forms.IsAbsent a)) ≡ flag (is_absent (worth a))
  unfolding plain_value
  v-IsAbsent a = ap (plain_value held) (seen-IsAbsent a)

  pub v-If : (test chosen other : Expression) → plain_value held (expression_of (forms.If test chosen other))
      ≡ (if is_true (worth test) then worth chosen else worth other)
  unfolding plain_value
  v-If test chosen other = ap (plain_value held) (seen-If test chosen other) ∙ chosen_by (is_true (worth test)) (worth chosen) (worth other)

  pub v-Parse : (a : Expression) → plain_value held (expression_of (forms.Parse a)) ≡ parsed (worth a)
  unfolding plain_value
  v-Parse a = ap (plain_value held) (seen-Parse a)

  pub v-LookUp : (kind : ℕ) → plain_value held (expression_of (forms.LookUp kind)) ≡ NoValue
  unfolding plain_value
  v-LookUp kind = ap (plain_value held) (seen-LookUp kind)

  pub v-OwnScope : plain_value held (expression_of forms.OwnScope) ≡ NoValue
  unfolding plain_value
  v-OwnScope = ap (plain_value held) seen-OwnScope

  pub v-Generation : plain_value held (expression_of forms.Generation) ≡ NoValue
  unfolding plain_value
  v-Generation = ap (plain_value held) seen-Generation

  pub v-NearestError : plain_value held (expression_of forms.NearestError) ≡ NoValue
  unfolding plain_value
  v-NearestError = ap (plain_value held) seen-NearestError

  pub v-Payload : plain_value held (expression_of forms.Payload) ≡ NoValue
  unfolding plain_value
  v-Payload = ap (plain_value held) seen-Payload

  pub v-Me : plain_value held (expression_of forms.Me) ≡ NoValue
  unfolding plain_value
  v-Me = ap (plain_value held) seen-Me

  -- the texts of expressions, joined
  abbrev pub joined : List Expression → List ℕ
  joined es = texts_of (plain_values held (arguments_of es))

  next_drop : (es : List Expression) (i : ℕ) (e : Expression) → i < length es → e ≡ get_or es i e → drop i es ≡ e ∷ drop (i + 1) es
  next_drop es i e low is =
      let x : drop i es ≡ get_or es i e ∷ drop (i + 1) es = rw (add-one, drop-cons es i e) refl in
      x ∙ ap (λ y. y ∷ drop (i + 1) es) (sym is)

  texts_next : (e : Expression) (es : List Expression) → joined (e ∷ es) ≡ text_of (worth e) ++ joined es
  unfolding plain_values
  texts_next e es = refl

  -- the text so far, and the text of one more
  pub text_on : (es : List Expression) (i : ℕ) (e : Expression) (text longer : List ℕ) (v : Value)
      → i < length es → e ≡ get_or es i e
      → v ≡ plain_value held (expression_of e)
      → longer ≡ text ++ text_of v
      → text ++ joined (drop i es) ≡ longer ++ joined (drop (i + 1) es)
  text_on es i e text longer v low is worth_of long =
      let rest : List ℕ = joined (drop (i + 1) es) in
      ap (λ (xs : List Expression). text ++ joined xs) (next_drop es i e low is)
      ∙ ap (λ (t : List ℕ). text ++ t) (texts_next e (drop (i + 1) es))
      ∙ ap (λ (x : Value). text ++ (text_of x ++ rest)) (sym worth_of)
      ∙ sym (append_assoc text (text_of v) rest)
      ∙ ap (λ (t : List ℕ). t ++ rest) (sym long)

  append_nil : (t : List ℕ) → t ++ [] ≡ t
  append_nil [] = refl
  append_nil (x ∷ xs) = ap (λ (t : List ℕ). x ∷ t) (append_nil xs)

  -- no expression is left
  pub text_over : (es : List Expression) (i : ℕ) (text : List ℕ) → length es ≤ i → text ++ joined (drop i es) ≡ text
  unfolding plain_values
  text_over es i text end = ap (λ (xs : List Expression). text ++ joined xs) (drop_of_length-le es end) ∙ append_nil text

pub ruleset plainly = (
  v-Say,
  v-Get,
  v-Read,
  v-Cat,
  v-Add,
  v-Multiply,
  v-Less,
  v-Equal,
  v-Not,
  v-IsAbsent,
  v-If,
  v-Parse,
  v-LookUp,
  v-OwnScope,
  v-Generation,
  v-NearestError,
  v-Payload,
  v-Me,
)
