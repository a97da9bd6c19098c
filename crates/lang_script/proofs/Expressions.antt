-- What each form of expression means, and a list of arguments, one after another.
use Rattle.std.proofs.Common.{ℕ, Bool, true, false, List, [], ◌∷◌, ◌++◌, ◌≡◌, refl, sym, ap, ◌∙◌, not, ◌+◌, ◌<◌, ◌≤◌, length, get_or, drop, arith}
use Rattle.std.proofs.Math.ListN.{drop_of_length-le}
use Rattle.std.proofs.lemmas.List.{append_assoc}
use Rattle.std.specs.Prelude.{None, if◌then◌else◌}
use Rattle.rt_lemmas.proofs.Lists.{next_drop, append_nil}
use Rattle.rt_model.specs.Lists.{or_else}
use Rattle.rt_model.specs.Program.{Program, done, current_scope, current_task, error, consume_context, Call}
use Rattle.rt_model.specs.World.{World}
use Rattle.rt_language.specs.Sequence.{go_on}
use Rattle.rt_language.specs.Syntax as language
use Rattle.rt_language.specs.Values.{Value, NoValue, TextValue, value_of, is_true, flag, counted, same_value, is_absent, added, multiplied, compared, parsed, text_of, texts_of}
use Rattle.rt_language.specs.Expressions.{SourceTypes, Caller, held_by, read_from, error_text, task_or_none, generation_for, payload_for, evaluate, evaluate_all}
use Rattle.lang_syntax.specs.Mirror.{literal_of, expression_of, arguments_of}
use Rattle.lang_syntax.specs.declared.expression.Literal.{Literal}
use Rattle.lang_syntax.specs.declared.expression.Expression.{Expression}
use Rattle.lang_syntax.specs.declared.expression.Expression.TheVariants as forms
use Rattle.lang_syntax.proofs.Forms.{seen-Say, seen-Get, seen-Read, seen-Cat, seen-Add, seen-Multiply, seen-Equal, seen-Less, seen-Not, seen-IsAbsent, seen-If, seen-Parse, seen-LookUp, seen-OwnScope, seen-Generation, seen-NearestError, seen-Payload, seen-Me}
use Rattle.author_programs.specs.Came.{Came, came, reached}
use Rattle.author_programs.proofs.Steps.{on, at_done, at_scope, at_task, at_generation, at_read, at_error, at_consume_context}

-- a choice by a test
pub chosen_by : {A : Type 0} (b : Bool) (p q : A) → (elim b [ true ↦ p | false ↦ q ]) ≡ (if b then p else q)
chosen_by true p q = refl
chosen_by false p q = refl

module _ (by : Caller) (held : List Value) where
  pub e-Say : (l : Literal) → evaluate by held (expression_of (forms.Say l)) ≡ done (value_of (literal_of l))
  unfolding evaluate
  e-Say l = ap (evaluate by held) (seen-Say l)

  pub e-Get : (n : ℕ) → evaluate by held (expression_of (forms.Get n)) ≡ done (held_by held n)
  unfolding evaluate
  e-Get n = ap (evaluate by held) (seen-Get n)

  pub e-Read : (n : ℕ) → evaluate by held (expression_of (forms.Read n)) ≡ read_from (held_by held n)
  unfolding evaluate
  e-Read n = ap (evaluate by held) (seen-Read n)

  pub e-Cat : (parts : List Expression) → evaluate by held (expression_of (forms.Cat parts)) ≡ evaluate by held (language.Cat (arguments_of parts))
  e-Cat parts = ap (evaluate by held) (seen-Cat parts)

  pub e-Add : (a b : Expression) → evaluate by held (expression_of (forms.Add a b))
      ≡ go_on (evaluate by held (expression_of a)) (λ v. go_on (evaluate by held (expression_of b)) (λ u. done (added v u)))
  unfolding evaluate
  e-Add a b = ap (evaluate by held) (seen-Add a b)

  pub e-Multiply : (a b : Expression) → evaluate by held (expression_of (forms.Multiply a b))
      ≡ go_on (evaluate by held (expression_of a)) (λ v. go_on (evaluate by held (expression_of b)) (λ u. done (multiplied v u)))
  unfolding evaluate
  e-Multiply a b = ap (evaluate by held) (seen-Multiply a b)

  pub e-Equal : (a b : Expression) → evaluate by held (expression_of (forms.Equal a b))
      ≡ go_on (evaluate by held (expression_of a)) (λ v. go_on (evaluate by held (expression_of b)) (λ u. done (flag (same_value v u))))
  unfolding evaluate
  e-Equal a b = ap (evaluate by held) (seen-Equal a b)

  pub e-Less : (a b : Expression) → evaluate by held (expression_of (forms.Less a b))
      ≡ go_on (evaluate by held (expression_of a)) (λ v. go_on (evaluate by held (expression_of b)) (λ u. done (compared v u)))
  unfolding evaluate
  e-Less a b = ap (evaluate by held) (seen-Less a b)

  pub e-Not : (a : Expression) → evaluate by held (expression_of (forms.Not a)) ≡ go_on (evaluate by held (expression_of a)) (λ v. done (flag (not (is_true v))))
  unfolding evaluate
  e-Not a = ap (evaluate by held) (seen-Not a)

  pub e-IsAbsent : (a : Expression) → evaluate by held (expression_of (forms.IsAbsent a)) ≡ go_on (evaluate by held (expression_of a)) (λ v. done (flag (is_absent v)))
  unfolding evaluate
  e-IsAbsent a = ap (evaluate by held) (seen-IsAbsent a)

  pub e-If : (test chosen other : Expression) → evaluate by held (expression_of (forms.If test chosen other))
      ≡ go_on (evaluate by held (expression_of test)) (λ v. if is_true v then evaluate by held (expression_of chosen) else evaluate by held (expression_of other))
  unfolding evaluate
  e-If test chosen other =
      ap (evaluate by held) (seen-If test chosen other) ∙
      (λ i. go_on (evaluate by held (expression_of test)) (λ v. chosen_by (is_true v) (evaluate by held (expression_of chosen)) (evaluate by held (expression_of other)) i))

  pub e-Parse : (a : Expression) → evaluate by held (expression_of (forms.Parse a)) ≡ go_on (evaluate by held (expression_of a)) (λ v. done (parsed v))
  unfolding evaluate
  e-Parse a = ap (evaluate by held) (seen-Parse a)

  pub e-LookUp : (kind : ℕ) → evaluate by held (expression_of (forms.LookUp kind)) ≡ consume_context None kind (λ found. done (or_else NoValue found))
  unfolding evaluate
  e-LookUp kind = ap (evaluate by held) (seen-LookUp kind)

  pub e-OwnScope : evaluate by held (expression_of forms.OwnScope) ≡ current_scope (λ s. done (counted s))
  unfolding evaluate
  e-OwnScope = ap (evaluate by held) seen-OwnScope

  pub e-Generation : evaluate by held (expression_of forms.Generation) ≡ generation_for by
  unfolding evaluate
  e-Generation = ap (evaluate by held) seen-Generation

  pub e-NearestError : evaluate by held (expression_of forms.NearestError) ≡ error (λ e. done (error_text e))
  unfolding evaluate
  e-NearestError = ap (evaluate by held) seen-NearestError

  pub e-Payload : evaluate by held (expression_of forms.Payload) ≡ done (payload_for by)
  unfolding evaluate
  e-Payload = ap (evaluate by held) seen-Payload

  pub e-Me : evaluate by held (expression_of forms.Me) ≡ current_task (λ t. done (task_or_none t))
  unfolding evaluate
  e-Me = ap (evaluate by held) seen-Me

  -- arguments, one after another

  pub e-joined : (parts : List Expression) → evaluate by held (language.Cat (arguments_of parts)) ≡ go_on (evaluate_all by held (arguments_of parts)) (λ vs. done (TextValue (texts_of vs)))
  unfolding evaluate
  e-joined parts = refl

  first_then : {A : Type 0} (w : World SourceTypes) (e : Expression) (es : List Expression) (k : List Value → Program SourceTypes A) (v : Value) (c d : Call SourceTypes)
      → came w (evaluate by held (expression_of e)) c ≡ reached v d
      → came w (go_on (evaluate_all by held (arguments_of (e ∷ es))) k) c ≡ came w (go_on (evaluate_all by held (arguments_of es)) (λ vs. k (v ∷ vs))) d
  unfolding evaluate_all
  first_then {A} w e es k v c d h =
      let rest : Program SourceTypes (List Value) = evaluate_all by held (arguments_of es) in
      let then_all : Value → Program SourceTypes (List Value) = λ x. go_on rest (λ xs. done (x ∷ xs)) in
      let tail : Came SourceTypes (List Value) = came w rest d in
      let whole : came w (evaluate_all by held (arguments_of (e ∷ es))) c ≡ reached (v ∷ tail.answer) tail.call =
      on w (evaluate by held (expression_of e)) then_all c ∙
      ap (λ (x : Came SourceTypes Value). came w (then_all x.answer) x.call) h ∙
      on w rest (λ xs. done (v ∷ xs)) d ∙
      at_done w (v ∷ tail.answer) tail.call in
      on w (evaluate_all by held (arguments_of (e ∷ es))) k c ∙
      ap (λ (x : Came SourceTypes (List Value)). came w (k x.answer) x.call) whole ∙
      sym (on w rest (λ xs. k (v ∷ xs)) d)

-- one more argument
pub one_argument : {A : Type 0} (w : World SourceTypes) (by : Caller) (held : List Value) (es : List Expression) (i : ℕ) (e : Expression) (k : List Value → Program SourceTypes A) (v : Value) (c d : Call SourceTypes)
    → i < length es → e ≡ get_or es i e
    → came w (evaluate by held (expression_of e)) c ≡ reached v d
    → came w (go_on (evaluate_all by held (arguments_of (drop i es))) k) c ≡ came w (go_on (evaluate_all by held (arguments_of (drop (i + 1) es))) (λ vs. k (v ∷ vs))) d
one_argument w by held es i e k v c d low is h =
    ap (λ (xs : List Expression). came w (go_on (evaluate_all by held (arguments_of xs)) k) c) (next_drop es i e low is) ∙
    first_then by held w e (drop (i + 1) es) k v c d h

-- no argument is left
pub no_argument : {A : Type 0} (w : World SourceTypes) (by : Caller) (held : List Value) (es : List Expression) (i : ℕ) (k : List Value → Program SourceTypes A) (c : Call SourceTypes)
    → length es ≤ i → came w (go_on (evaluate_all by held (arguments_of (drop i es))) k) c ≡ came w (k []) c
unfolding evaluate_all go_on
no_argument w by held es i k c end =
    ap (λ (xs : List Expression). came w (go_on (evaluate_all by held (arguments_of xs)) k) c) (drop_of_length-le es end)

-- the text of values, after a text that was there
unfoldable pub then_text : List ℕ → List Value → Program SourceTypes Value
then_text text vs = done (TextValue (text ++ texts_of vs))

-- values, after values that were there
unfoldable pub then_values : List Value → List Value → Program SourceTypes (List Value)
then_values values vs = done (values ++ vs)

-- parts are joined from no text on
pub text_start : (by : Caller) (held : List Value) (parts : List Expression) → evaluate by held (language.Cat (arguments_of parts)) ≡ go_on (evaluate_all by held (arguments_of parts)) (then_text [])
unfolding evaluate then_text
text_start by held parts = refl

-- one more part
pub text_more : (w : World SourceTypes) (by : Caller) (held : List Value) (es : List Expression) (i : ℕ) (e : Expression) (text longer : List ℕ) (v : Value) (c d : Call SourceTypes)
    → i < length es → e ≡ get_or es i e
    → came w (evaluate by held (expression_of e)) c ≡ reached v d
    → longer ≡ text ++ text_of v
    → came w (go_on (evaluate_all by held (arguments_of (drop i es))) (then_text text)) c ≡ came w (go_on (evaluate_all by held (arguments_of (drop (i + 1) es))) (then_text longer)) d
unfolding then_text
text_more w by held es i e text longer v c d low is h long =
    let rest : Program SourceTypes (List Value) = evaluate_all by held (arguments_of (drop (i + 1) es)) in
    one_argument w by held es i e (then_text text) v c d low is h ∙
    (λ j. came w (go_on rest (λ vs. done (TextValue (sym (append_assoc text (text_of v) (texts_of vs)) j)))) d) ∙
    ap (λ t. came w (go_on rest (then_text t)) d) (sym long)

-- no part is left
pub text_end : (w : World SourceTypes) (by : Caller) (held : List Value) (es : List Expression) (i : ℕ) (text : List ℕ) (c : Call SourceTypes)
    → length es ≤ i → came w (go_on (evaluate_all by held (arguments_of (drop i es))) (then_text text)) c ≡ reached (TextValue text) c
unfolding then_text
text_end w by held es i text c end =
    no_argument w by held es i (then_text text) c end ∙ at_done w (TextValue (text ++ [])) c ∙ ap (λ t. reached (TextValue t) c) (append_nil text)

-- values are gathered from none on
pub values_start : (w : World SourceTypes) (by : Caller) (held : List Value) (es : List Expression) (c : Call SourceTypes)
    → came w (evaluate_all by held (arguments_of es)) c ≡ came w (go_on (evaluate_all by held (arguments_of es)) (then_values [])) c
unfolding then_values
values_start w by held es c =
    let x : Came SourceTypes (List Value) = came w (evaluate_all by held (arguments_of es)) c in
    sym (on w (evaluate_all by held (arguments_of es)) (then_values []) c ∙ at_done w x.answer x.call)

-- one more value
pub values_more : (w : World SourceTypes) (by : Caller) (held : List Value) (es : List Expression) (i : ℕ) (e : Expression) (values longer : List Value) (v : Value) (c d : Call SourceTypes)
    → i < length es → e ≡ get_or es i e
    → came w (evaluate by held (expression_of e)) c ≡ reached v d
    → longer ≡ values ++ v ∷ []
    → came w (go_on (evaluate_all by held (arguments_of (drop i es))) (then_values values)) c ≡ came w (go_on (evaluate_all by held (arguments_of (drop (i + 1) es))) (then_values longer)) d
unfolding then_values
values_more w by held es i e values longer v c d low is h long =
    let rest : Program SourceTypes (List Value) = evaluate_all by held (arguments_of (drop (i + 1) es)) in
    one_argument w by held es i e (then_values values) v c d low is h ∙
    (λ j. came w (go_on rest (λ vs. done (sym (append_assoc values (v ∷ []) vs) j))) d) ∙
    ap (λ t. came w (go_on rest (then_values t)) d) (sym long)

-- no value is left
pub values_end : (w : World SourceTypes) (by : Caller) (held : List Value) (es : List Expression) (i : ℕ) (values : List Value) (c : Call SourceTypes)
    → length es ≤ i → came w (go_on (evaluate_all by held (arguments_of (drop i es))) (then_values values)) c ≡ reached values c
unfolding then_values
values_end w by held es i values c end =
    no_argument w by held es i (then_values values) c end ∙ at_done w (values ++ []) c ∙ ap (λ t. reached t c) (append_nil values)

-- one value alone
pub values_one : (w : World SourceTypes) (by : Caller) (held : List Value) (es : List Expression) (e : Expression) (v : Value) (c d : Call SourceTypes)
    → length es ≡ 1 → e ≡ get_or es 0 e
    → came w (evaluate by held (expression_of e)) c ≡ reached v d
    → came w (evaluate_all by held (arguments_of es)) c ≡ reached (v ∷ []) d
values_one w by held es e v c d one is h =
    values_start w by held es c
    ∙ values_more w by held es 0 e [] (v ∷ []) v c d (omega (arith, one)) is h refl
    ∙ values_end w by held es 1 (v ∷ []) d (omega (arith, one))

pub ruleset evaluating = (on, at_done, at_scope, at_task, at_error, at_consume_context, e-Say, e-Get, e-Read, e-Cat, e-Add, e-Multiply, e-Equal, e-Less, e-Not, e-IsAbsent, e-If, e-Parse, e-LookUp, e-OwnScope, e-Generation, e-NearestError, e-Payload, e-Me, text_start, values_start)
