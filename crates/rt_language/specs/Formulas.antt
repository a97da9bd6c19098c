-- What memos and resources of a source are of: which expressions only look, and the value of one that looks at nothing.
use Rattle.std.specs.Prelude.{ℕ, Bool, true, false, ◌&&◌, not, nat_lt, List, [], ◌∷◌, ◌++◌, Option, Some, None}
use Rattle.rt_model.specs.Program.{Program, done}
use Rattle.author_programs.specs.Cells.{Keeping}
use Rattle.author_formulas.specs.Formulas.{Formulas, Load, wait, loaded}
use Rattle.author_formulas.specs.Memos.{own_memo}
use Rattle.rt_language.specs.Syntax.{Expression, Say, Get, Read, Cat, Add, Multiply, Equal, Less, Not, IsAbsent, If, Parse, LookUp, OwnScope, Generation, NearestError, Payload, Me, Expressions, NoExpressions, MoreExpressions, Derived, ValueOf, LoadOf}
use Rattle.rt_language.specs.Values.{Value, NoValue, NumberValue, TextValue, CellValue, TaskValue, value_of, is_true, flag, same_value, texts_of, added, multiplied, compared, is_absent, parsed}
use Rattle.rt_language.specs.Expressions.{Deriving, TaskState, Minding, SourceTypes, AnotherCall, Evaluation, evaluate, held_by}

unfoldable mutual
  -- whether an expression only looks: it names no error, payload, render count, scope or task, and cells and contexts where it may
  pub looks : Bool → Expression → Bool
  looks may (Say literal) = true
  looks may (Get n) = true
  looks may (Read n) = may
  looks may (Cat parts) = all_look may parts
  looks may (Add a b) = looks may a && looks may b
  looks may (Multiply a b) = looks may a && looks may b
  looks may (Equal a b) = looks may a && looks may b
  looks may (Less a b) = looks may a && looks may b
  looks may (Not a) = looks may a
  looks may (IsAbsent a) = looks may a
  looks may (If test chosen other) = looks may test && (looks may chosen && looks may other)
  looks may (Parse a) = looks may a
  looks may (LookUp kind) = may
  looks may OwnScope = false
  looks may Generation = false
  looks may NearestError = false
  looks may Payload = false
  looks may Me = false

  -- whether all of some do
  pub all_look : Bool → Expressions → Bool
  all_look may NoExpressions = true
  all_look may (MoreExpressions first rest) = looks may first && all_look may rest

-- whether a value or a key only looks, and what is loaded looks at nothing
abbrev pub derived_looks : Derived → Bool
derived_looks (ValueOf value) = looks true value
derived_looks (LoadOf key waits value) = looks true key && looks false value

unfoldable mutual
  -- the value of an expression that looks at nothing
  pub plain_value : List Value → Expression → Value
  plain_value held (Say literal) = value_of literal
  plain_value held (Get n) = held_by held n
  plain_value held (Read n) = NoValue
  plain_value held (Cat parts) = TextValue (texts_of (plain_values held parts))
  plain_value held (Add a b) = added (plain_value held a) (plain_value held b)
  plain_value held (Multiply a b) = multiplied (plain_value held a) (plain_value held b)
  plain_value held (Equal a b) = flag (same_value (plain_value held a) (plain_value held b))
  plain_value held (Less a b) = compared (plain_value held a) (plain_value held b)
  plain_value held (Not a) = flag (not (is_true (plain_value held a)))
  plain_value held (IsAbsent a) = flag (is_absent (plain_value held a))
  plain_value held (If test chosen other) =
      elim (is_true (plain_value held test)) [ true ↦ plain_value held chosen | false ↦ plain_value held other ]
  plain_value held (Parse a) = parsed (plain_value held a)
  plain_value held (LookUp kind) = NoValue
  plain_value held OwnScope = NoValue
  plain_value held Generation = NoValue
  plain_value held NearestError = NoValue
  plain_value held Payload = NoValue
  plain_value held Me = NoValue

  -- the values of such expressions
  pub plain_values : List Value → Expressions → List Value
  plain_values held NoExpressions = []
  plain_values held (MoreExpressions first rest) = plain_value held first ∷ plain_values held rest

-- the expression that is computed: the value of a memo, the key of a resource
abbrev pub computed_of : Derived → Expression
computed_of (ValueOf value) = value
computed_of (LoadOf key waits value) = key

-- it is a resource
abbrev pub is_loaded : Derived → Bool
is_loaded (ValueOf value) = false
is_loaded (LoadOf key waits value) = true

-- a program, and none in place of one that does more than to look
abbrev pub only : Bool → Evaluation → Evaluation
only true p = p
only false p = done NoValue

-- what is loaded at a step: nothing before the last one of those that wait
abbrev pub value_at : Bool → Value → Load Value
value_at true v = wait
value_at false v = loaded v

-- what is loaded for a key at a step
abbrev pub load_of : List Value → Derived → Value → ℕ → Load Value
load_of held (ValueOf value) key step = wait
load_of held (LoadOf of waits value) key step = value_at (nat_lt step waits) (plain_value (held ++ key ∷ []) value)

-- what is computed of a memo or of a resource
abbrev pub computed_by : Deriving → Evaluation
computed_by d = only (looks true (computed_of d.derived)) (evaluate AnotherCall d.held (computed_of d.derived))

-- the formulas of a source
abbrev pub formulas : Formulas SourceTypes Deriving
formulas =
    record {
      computes = λ d. computed_by d;
      loads = λ d key step. load_of d.held d.derived key step;
      empty = NoValue;
      same = same_value;
    }

-- the number of a cell
abbrev pub cell_in : Value → Option ℕ
cell_in (CellValue c) = Some c
cell_in NoValue = None
cell_in (NumberValue n) = None
cell_in (TextValue t) = None
cell_in (TaskValue t) = None

-- how hooks keep cells
abbrev pub keeping : Keeping Value
keeping = record { kind = 3; keeps = CellValue; kept = cell_in }

-- the cell of a memo or of a resource, which is made with its task on first use and kept
abbrev pub derived_cell : List Value → Derived → Program SourceTypes (Option ℕ)
derived_cell held derived =
    let of : Deriving = record { held = held; derived = derived } in
    own_memo {K = SourceTypes} {F = Deriving} keeping (λ task. Minding task) NoValue of (is_loaded derived)
