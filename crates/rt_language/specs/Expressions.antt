-- What an expression means, as a program: the calls by which it comes to its value.
use Rattle.std.specs.Prelude.{ℕ, true, false, not, List, [], ◌∷◌, Option, Some, None}
use Rattle.rt_model.specs.Lists.{nth, or_else}
use Rattle.rt_model.specs.Tree.{Types, CapturedError}
use Rattle.rt_model.specs.Program.{Program, done, current_scope, current_task, generation, read, error, consume_context}
use Rattle.rt_model.specs.OneLog.{types}
use Rattle.author_formulas.specs.Memos.{MemoTask}
use Rattle.rt_language.specs.Syntax.{Variable, Derived, Expression, Say, Get, Read, Cat, Add, Multiply, Equal, Less, Not, IsAbsent, If, Parse, LookUp, OwnScope, Generation, NearestError, Payload, Me, Expressions, NoExpressions, MoreExpressions}
use Rattle.rt_language.specs.Values.{Value, NoValue, NumberValue, TextValue, CellValue, TaskValue, value_of, is_true, flag, counted, same_value, texts_of, added, multiplied, compared, is_absent, parsed}
use Rattle.author_programs.specs.Sequence.{go_on}

-- an action with its arguments: what a listener, an effect, a clean-up or a callback does
pub record Doing : Type 0 where
  pub action : ℕ
  pub arguments : List Value

-- where a task that runs its steps stands between two polls
pub record Standing : Type 0 where
  pub task : ℕ
  pub arguments : List Value
  -- the step that the next poll runs
  pub step : ℕ

-- what a memo or a resource is of, with what the variables held at its first use
pub record Deriving : Type 0 where
  pub held : List Value
  pub derived : Derived

-- where a task stands between two polls: one that runs its steps, or one that keeps the cell of a memo or of a resource
pub data TaskState : Type 0 where
  Stepping : (standing : Standing) → TaskState
  Minding : (task : MemoTask Value Deriving) → TaskState

-- the types of an application that a source describes: a component is its place, an event carries a value
abbrev pub SourceTypes : Types
SourceTypes = types ℕ (List Value) Value Doing TaskState Doing Value

-- who evaluates: a body, a listener with what its event carries, or another call
pub data Caller : Type 0 where
  ABody : Caller
  AListener : (payload : Value) → Caller
  AnotherCall : Caller

-- a program that comes to a value
abbrev pub Evaluation : Type 0
Evaluation = Program SourceTypes Value

-- what a variable holds
abbrev pub held_by : List Value → Variable → Value
held_by held n = or_else NoValue (nth held n)

-- the value of a cell that a variable holds, none where it is gone
abbrev pub read_from : Value → Evaluation
read_from (CellValue c) = read c (λ found. done (or_else NoValue found))
read_from NoValue = done NoValue
read_from (NumberValue n) = done NoValue
read_from (TextValue t) = done NoValue
read_from (TaskValue t) = done NoValue

-- the text of an error
abbrev pub error_text : Option CapturedError → Value
error_text None = NoValue
error_text (Some e) = TextValue (e.text)

-- the task that is polled
abbrev pub task_or_none : Option ℕ → Value
task_or_none None = NoValue
task_or_none (Some t) = TaskValue t

-- the render count, which only a body has
abbrev pub generation_for : Caller → Evaluation
generation_for ABody = generation (λ n. done (counted n))
generation_for (AListener payload) = done NoValue
generation_for AnotherCall = done NoValue

-- what the event carries, which only a listener has
abbrev pub payload_for : Caller → Value
payload_for ABody = NoValue
payload_for (AListener payload) = payload
payload_for AnotherCall = NoValue

-- an operand's program, and the value that comes of its value
abbrev pub of_one : Evaluation → (Value → Value) → Evaluation
of_one p f = go_on p (λ v. done (f v))

-- two operands, the left one first
abbrev pub of_two : Evaluation → Evaluation → (Value → Value → Value) → Evaluation
of_two p q f = go_on p (λ v. go_on q (λ u. done (f v u)))

unfoldable mutual
  -- the value of an expression, where the variables hold these values
  pub evaluate : Caller → List Value → Expression → Evaluation
  evaluate by held (Say literal) = done (value_of literal)
  evaluate by held (Get n) = done (held_by held n)
  evaluate by held (Read n) = read_from (held_by held n)
  evaluate by held (Cat parts) = go_on (evaluate_all by held parts) (λ vs. done (TextValue (texts_of vs)))
  evaluate by held (Add a b) = of_two (evaluate by held a) (evaluate by held b) added
  evaluate by held (Multiply a b) = of_two (evaluate by held a) (evaluate by held b) multiplied
  evaluate by held (Equal a b) = of_two (evaluate by held a) (evaluate by held b) (λ v u. flag (same_value v u))
  evaluate by held (Less a b) = of_two (evaluate by held a) (evaluate by held b) compared
  evaluate by held (Not a) = of_one (evaluate by held a) (λ v. flag (not (is_true v)))
  evaluate by held (IsAbsent a) = of_one (evaluate by held a) (λ v. flag (is_absent v))
  evaluate by held (If test chosen other) =
      go_on (evaluate by held test) (λ v. elim (is_true v) [ true ↦ evaluate by held chosen | false ↦ evaluate by held other ])
  evaluate by held (Parse a) = of_one (evaluate by held a) parsed
  evaluate by held (LookUp kind) = consume_context None kind (λ found. done (or_else NoValue found))
  evaluate by held OwnScope = current_scope (λ s. done (counted s))
  evaluate by held Generation = generation_for by
  evaluate by held NearestError = error (λ e. done (error_text e))
  evaluate by held Payload = done (payload_for by)
  evaluate by held Me = current_task (λ t. done (task_or_none t))

  -- the values of expressions, from left to right
  pub evaluate_all : Caller → List Value → Expressions → Program SourceTypes (List Value)
  evaluate_all by held NoExpressions = done []
  evaluate_all by held (MoreExpressions first rest) =
      go_on (evaluate by held first) (λ v. go_on (evaluate_all by held rest) (λ vs. done (v ∷ vs)))
