-- What is computed of memos and resources only looks, and each source polls them as they are defined.
use Rattle.std.proofs.Common.{ℕ, Bool, true, false, List, [], ◌∷◌, ◌≡◌, ◌&&◌, refl}
use Rattle.std.specs.Prelude.{Option, Some, None}
use Rattle.rt_lemmas.proofs.Bools.{never as no}
use Rattle.rt_model.specs.Program.{Program, done, read, consume_context}
use Rattle.rt_model.proofs.Conjunctions.{and-left, and-right}
use Rattle.author_programs.specs.Sequence.{go_on}
use Rattle.author_formulas.specs.Looking.{Looks}
use Rattle.author_formulas.proofs.Looking.{looks_on}
use Rattle.rt_language.specs.Syntax.{Expression, Say, Get, Read, Cat, Add, Multiply, Equal, Less, Not, IsAbsent, If, Parse, LookUp, OwnScope, Generation, NearestError, Payload, Me, Expressions, NoExpressions, MoreExpressions}
use Rattle.rt_language.specs.Values.{Value, NoValue, NumberValue, TextValue, CellValue, TaskValue, is_true}
use Rattle.rt_language.specs.Expressions.{Deriving, SourceTypes, AnotherCall, Evaluation, evaluate, evaluate_all, read_from, held_by, of_one, of_two}
use Rattle.rt_language.specs.Formulas.{looks, all_look, computed_of, only}
use Rattle.rt_language.specs.Laws.{ExpressionsLook, SourcesPollMemos}
use Rattle.rt_language.proofs.Lawful.{value}

done_looks : {A : Type 0} (a : A) → Looks {K = SourceTypes} (done a)
unfolding Looks
done_looks a = tt

one_looks : (p : Evaluation) (f : Value → Value) → Looks p → Looks (of_one p f)
one_looks p f h = looks_on p (λ v. done (f v)) h (λ v. done_looks (f v))

two_look : (p q : Evaluation) (f : Value → Value → Value) → Looks p → Looks q → Looks (of_two p q f)
two_look p q f h k = looks_on p (λ v. go_on q (λ u. done (f v u))) h (λ v. looks_on q (λ u. done (f v u)) k (λ u. done_looks (f v u)))

read_looks : (v : Value) → Looks (read_from v)
unfolding Looks
read_looks (CellValue c) = λ o. tt
read_looks NoValue = tt
read_looks (NumberValue n) = tt
read_looks (TextValue t) = tt
read_looks (TaskValue t) = tt

either_looks : (b : Bool) (p q : Evaluation) → Looks p → Looks q → Looks (elim b [ true ↦ p | false ↦ q ])
either_looks true p q h k = h
either_looks false p q h k = k

mutual
  unfolding looks all_look evaluate evaluate_all Looks

  expression_looks : (held : List Value) (e : Expression) → looks true e ≡ true → Looks (evaluate AnotherCall held e)
  expression_looks held (Say literal) h = tt
  expression_looks held (Get n) h = tt
  expression_looks held (Read n) h = read_looks (held_by held n)
  expression_looks held (Cat parts) h = looks_on (evaluate_all AnotherCall held parts) _ (all_expressions held parts h) (λ vs. tt)
  expression_looks held (Add a b) h = two_look _ _ _ (expression_looks held a (and-left (looks true a) (looks true b) h)) (expression_looks held b (and-right (looks true a) (looks true b) h))
  expression_looks held (Multiply a b) h = two_look _ _ _ (expression_looks held a (and-left (looks true a) (looks true b) h)) (expression_looks held b (and-right (looks true a) (looks true b) h))
  expression_looks held (Equal a b) h = two_look _ _ _ (expression_looks held a (and-left (looks true a) (looks true b) h)) (expression_looks held b (and-right (looks true a) (looks true b) h))
  expression_looks held (Less a b) h = two_look _ _ _ (expression_looks held a (and-left (looks true a) (looks true b) h)) (expression_looks held b (and-right (looks true a) (looks true b) h))
  expression_looks held (Not a) h = one_looks _ _ (expression_looks held a h)
  expression_looks held (IsAbsent a) h = one_looks _ _ (expression_looks held a h)
  expression_looks held (If test chosen other) h =
      let rest = and-right (looks true test) (looks true chosen && looks true other) h in
      looks_on (evaluate AnotherCall held test) _ (expression_looks held test (and-left (looks true test) (looks true chosen && looks true other) h))
      (λ v. either_looks (is_true v) _ _ (expression_looks held chosen (and-left (looks true chosen) (looks true other) rest)) (expression_looks held other (and-right (looks true chosen) (looks true other) rest)))
  expression_looks held (Parse a) h = one_looks _ _ (expression_looks held a h)
  expression_looks held (LookUp kind) h = λ o. tt
  expression_looks held OwnScope h = no h
  expression_looks held Generation h = no h
  expression_looks held NearestError h = no h
  expression_looks held Payload h = no h
  expression_looks held Me h = no h

  all_expressions : (held : List Value) (es : Expressions) → all_look true es ≡ true → Looks (evaluate_all AnotherCall held es)
  all_expressions held NoExpressions h = tt
  all_expressions held (MoreExpressions first rest) h =
      looks_on (evaluate AnotherCall held first) _ (expression_looks held first (and-left (looks true first) (all_look true rest) h))
      (λ v. looks_on (evaluate_all AnotherCall held rest) _ (all_expressions held rest (and-right (looks true first) (all_look true rest) h)) (λ vs. tt))

only_looks : (b : Bool) (p : Evaluation) → (b ≡ true → Looks p) → Looks (only b p)
only_looks true p h = h refl
only_looks false p h = done_looks NoValue

-- what is computed only looks
computed_looks : (d : Deriving) → Looks (only (looks true (computed_of d.derived)) (evaluate AnotherCall d.held (computed_of d.derived)))
computed_looks d =
    only_looks (looks true (computed_of d.derived)) (evaluate AnotherCall d.held (computed_of d.derived)) (λ h. expression_looks d.held (computed_of d.derived) h)

pub expressions_look : ExpressionsLook
expressions_look = record { looks = computed_looks; values = value }

-- the poll of a memo or of a resource is its poll
pub sources_poll_memos : SourcesPollMemos
sources_poll_memos s task w = refl
