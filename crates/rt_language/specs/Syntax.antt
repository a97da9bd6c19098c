-- What a source says, checked: every name is a place, counted from 0.
use Rattle.std.specs.Prelude.{ℕ, ℤ, List, Option}
use Rattle.rt_model.specs.Lists.{Text}

-- a variable is its place among those that are bound: the params first, then each name in the order of binding
abbrev pub Variable : Type 0
Variable = ℕ

-- what a source may say outright
pub data Literal : Type 0 where
  NumberLiteral : (number : ℤ) → Literal
  TextLiteral : (text : Text) → Literal

mutual
  -- what is worth a value
  pub data Expression : Type 0 where
    Say : (literal : Literal) → Expression
    Get : (variable : Variable) → Expression
    Read : (variable : Variable) → Expression
    Cat : (parts : Expressions) → Expression
    Add : (left right : Expression) → Expression
    Multiply : (left right : Expression) → Expression
    Equal : (left right : Expression) → Expression
    Less : (left right : Expression) → Expression
    Not : (operand : Expression) → Expression
    IsAbsent : (operand : Expression) → Expression
    If : (test chosen other : Expression) → Expression
    Parse : (operand : Expression) → Expression
    LookUp : (kind : ℕ) → Expression
    OwnScope : Expression
    Generation : Expression
    NearestError : Expression
    Payload : Expression
    Me : Expression

  -- expressions in a row: operands, arguments, props
  pub data Expressions : Type 0 where
    NoExpressions : Expressions
    MoreExpressions : (first : Expression) → (rest : Expressions) → Expressions

-- what the cell of a memo or of a resource is kept to: the value of an expression, or what is loaded for the value of one, the key:
-- it waits for so many steps, and then it is the value of an expression that has the key as its last variable
pub data Derived : Type 0 where
  ValueOf : (value : Expression) → Derived
  LoadOf : (key : Expression) → (waits : ℕ) → (value : Expression) → Derived

-- when a body's hook calls its action
pub data HookTime : Type 0 where
  AtRemoval : HookTime
  BeforeRender : HookTime
  AfterRender : HookTime

-- what kind of task is spawned
pub data SpawnKind : Type 0 where
  Client : SpawnKind
  Isomorphic : SpawnKind
  Forever : SpawnKind

-- what may be done to a task
pub data TaskAct : Type 0 where
  WakeUp : TaskAct
  Cancel : TaskAct
  Pause : TaskAct
  Resume : TaskAct

mutual
  -- what a body, an action or a step does
  pub data Statement : Type 0 where
    Let : (value : Expression) → Statement
    UseCell : (first : Expression) → Statement
    UseHook : (first : Expression) → Statement
    UseDerived : (derived : Derived) → Statement
    SpawnTask : (task : ℕ) → (arguments : Expressions) → (kind : SpawnKind) → Statement
    CallAt : (time : HookTime) → (action : ℕ) → (arguments : Expressions) → Statement
    EffectOf : (action : ℕ) → (arguments : Expressions) → Statement
    OnResolved : (action : ℕ) → (arguments : Expressions) → Statement
    FreezeBoundary : Statement
    When : (test : Expression) → (statements : Statements) → Statement
    ProvideAs : (kind : ℕ) → (value : Expression) → Statement
    WriteTo : (variable : Variable) → (value : Expression) → Statement
    Forget : (variable : Variable) → Statement
    ActOn : (act : TaskAct) → (variable : Variable) → Statement
    MarkScopeOf : (scope : Expression) → Statement
    ThrowText : (text : Expression) → Statement
    ClearError : Statement
    FailWith : (text : Expression) → Statement
    SuspendOn : (variable : Variable) → Statement
    Stop : Statement
    Prevent : Statement
    Stay : Statement

  -- statements in a row
  pub data Statements : Type 0 where
    NoStatements : Statements
    MoreStatements : (first : Statement) → (rest : Statements) → Statements

-- a component with what it is handed
pub record ComponentUse : Type 0 where
  pub component : ℕ
  pub props : Expressions

-- an attribute of an element: it stands in the template, a slot gives it, or a listener of that name stands in a slot
pub data ViewAttribute : Type 0 where
  StaticAttribute : (name : Text) → (value : Text) → ViewAttribute
  SlotAttribute : (name : Text) → (value : Expression) → ViewAttribute
  ListenerAttribute : (name : Text) → (action : ℕ) → (arguments : Expressions) → ViewAttribute

mutual
  -- view nodes in a row, each with those after it
  pub data View : Type 0 where
    NoViews : View
    TextView : (text : Text) → (rest : View) → View
    -- attributes in order of name, then listeners in order of name
    ElementView : (tag : Text) → (namespace : Option Text) → (attributes : List ViewAttribute) → (kids rest : View) → View
    SlotView : (slot : ViewSlot) → (rest : View) → View

  -- what a view puts in a slot of its template
  pub data ViewSlot : Type 0 where
    TextOf : (text : Expression) → ViewSlot
    UseOf : (handed : ComponentUse) → ViewSlot
    ListOf : (count : Expression) → (item : View) → ViewSlot
    PickOf : (test : Expression) → (chosen other : View) → ViewSlot
    FragmentOf : (children : View) → ViewSlot
    ErrorBoundaryOf : (kids : View) → (handler : Option ComponentUse) → ViewSlot
    SuspenseBoundaryOf : (kids : View) → (fallback : Option ComponentUse) → ViewSlot
    Hole : ViewSlot

-- a component: what its body does, and what it shows
pub record ComponentSource : Type 0 where
  pub statements : Statements
  pub view : View

-- what a message asks for
pub data PostSource : Type 0 where
  PostMark : (scope : ℕ) → PostSource
  PostWake : (task : ℕ) → PostSource
  PostAll : PostSource

-- what comes from outside
pub data InputSource : Type 0 where
  EventInput : (name : Text) → (element : ℕ) → (payload : Option Literal) → (bubbles : Option ℤ) → InputSource
  WakeInput : (task : ℕ) → InputSource
  WriteInput : (cell : ℕ) → (value : Literal) → InputSource
  MarkInput : (scope : ℕ) → InputSource
  DrainInput : (posts : List PostSource) → InputSource

-- a whole source: components, actions and tasks in the order of their names
pub record Source : Type 0 where
  pub components : List ComponentSource
  pub root : ℕ
  -- of the root
  pub props : List Literal
  pub actions : List Statements
  -- each by its steps
  pub tasks : List (List Statements)
  pub inputs : List InputSource
  -- by poster
  pub posts : List (List PostSource)
