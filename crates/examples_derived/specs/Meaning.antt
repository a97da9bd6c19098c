-- What the calls are, what the memos and resources are of, and that the tests decide.
use Rattle.std.proofs.Common.{◌≡◌, refl, ap, zero, suc}
use Rattle.std.specs.Prelude.{ℕ, ◌++◌, Bool, true, false, codes, nat_eq, nat_lt, List, Option, Some, None, if◌then◌else◌}
use Rattle.rt_author.specs.Memos as memos
use Rattle.rt_author.specs.Words.{Bodied, Element, Formulas, FormulasLook, Keeping, Load, MemoTask, NoData, Program, Programs, ProgramsDecide, TaskStep, Types, VNode}
use Rattle.rt_author.specs.Words.{as_task, coded_tests, done, loaded, memo_polled, nothing, own_cell, own_memo, pending, placeholder_tree, plain_tests, rendered, shown, task_of, tree_of, types, view, wait}
use Rattle.rt_author.specs.Looking.{Looks}
use Rattle.rt_author.specs.Sequence.{go_on}
use Rattle.rt_author.specs.Signals.{get}
use Rattle.rt_author.proofs.Rules.{as_defined, looks_on}
use Rattle.examples_derived.specs.Values as values
use Rattle.examples_derived.specs.declared.parts.Value.{Value}
use Rattle.examples_derived.specs.declared.parts.Value.TheVariants.{Number, Words}
use Rattle.examples_derived.specs.declared.derived.Derived.{Derived}
use Rattle.examples_derived.specs.declared.derived.Formula.{Formula}
use Rattle.examples_derived.specs.declared.derived.Formula.TheVariants.{Chosen, Greeting}
use Rattle.examples_derived.specs.declared.derived.Component.{Component}
use Rattle.examples_derived.specs.declared.derived.Component.TheVariants as components

-- where a task stands, and the types
abbrev pub Tasks : Type 0
Tasks = MemoTask Value Formula

abbrev pub DerivedTypes : Types
DerivedTypes = types Component NoData Value NoData Tasks NoData NoData

-- a tree of the application, and a body that answers one
abbrev pub DerivedTree : Type 0
DerivedTree =
    VNode (Bodied Derived Component NoData Value NoData Tasks NoData NoData) Component NoData Value NoData Tasks NoData NoData

abbrev pub Body : Type 0
Body = Program DerivedTypes (Element DerivedTypes)

abbrev pub tree : DerivedTree → Body
tree t = done (rendered (tree_of t))

-- hooks keep the numbers of cells as numbers
abbrev pub keeping : Keeping Value
keeping = record { kind = 0; keeps = λ n. Number n; kept = values.cell_in }

-- the value of a cell; no words where it is gone
abbrev pub value_in : ℕ → Program DerivedTypes Value
value_in cell = go_on (get cell) (λ read. done (values.or_empty read))

-- the value of a cell, unless it isn't asked for: then 0
abbrev pub value_unless : Bool → ℕ → Program DerivedTypes Value
value_unless true cell = done (Number 0)
value_unless false cell = value_in cell

-- the second of two cells, where the first one is a number other than 0, else 0
abbrev pub chosen : ℕ → ℕ → Program DerivedTypes Value
chosen first second = go_on (value_in first) (λ v. value_unless (values.is_zero v) second)

-- what is computed: a memo's value, a resource's key
abbrev pub computes : Formula → Program DerivedTypes Value
computes (Chosen first second) = chosen first second
computes (Greeting cell) = value_in cell

-- a greeting
abbrev pub greeting : Value → Value
greeting key = Words (codes "got " ++ values.words key)

-- what is loaded for a key, at the second step
abbrev pub loads : Value → ℕ → Load Value
loads key step = if nat_lt step 1 then wait else loaded (greeting key)

abbrev pub formulas : Formulas DerivedTypes Formula
formulas = record { computes = computes; loads = λ f key step. loads key step; empty = values.empty; same = values.same }

-- each of them only looks
value_looks : (cell : ℕ) → Looks (value_in cell)
unfolding Looks go_on
value_looks cell = λ v. tt

unless_looks : (off : Bool) (cell : ℕ) → Looks (value_unless off cell)
unfolding Looks
unless_looks true cell = tt
unless_looks false cell = value_looks cell

each_looks : (f : Formula) → Looks (computes f)
each_looks (Chosen first second) =
    looks_on
    (value_in first) (λ v. value_unless (values.is_zero v) second)
    (value_looks first) (λ v. unless_looks (values.is_zero v) second)
each_looks (Greeting cell) = value_looks cell

pub looks : FormulasLook formulas
looks = record { looks = each_looks; values = values.decides }

-- what is shown of a cell
abbrev pub face : Option Value → DerivedTree
face None = placeholder_tree
face (Some value) = view (shown (values.words value))

abbrev pub showing : ℕ → Body
showing cell = go_on (get cell) (λ read. tree (face read))

abbrev pub showing_of : Option ℕ → Body
showing_of None = tree placeholder_tree
showing_of (Some cell) = showing cell

-- a cell that a task keeps
abbrev pub kept : Formula → Bool → Program DerivedTypes (Option ℕ)
kept f loads = own_memo keeping (λ m. as_task m) values.empty f loads

-- a memo that is shown, and a resource
abbrev pub memo_of : Formula → Body
memo_of f = go_on (kept f false) (λ cell. showing_of cell)

abbrev pub resource_of : Formula → Body
resource_of f = go_on (kept f true) (λ cell. showing_of cell)

-- two cells, and a memo of them
abbrev pub with_second : ℕ → Option ℕ → Body
with_second first None = tree placeholder_tree
with_second first (Some second) = memo_of (Chosen first second)

abbrev pub choosing_of : ℕ → Body
choosing_of first = go_on (own_cell keeping (Number 0)) (λ second. with_second first second)

abbrev pub with_first : Option ℕ → Body
with_first None = tree placeholder_tree
with_first (Some first) = choosing_of first

abbrev pub choosing : Body
choosing = go_on (own_cell keeping (Number 0)) (λ first. with_first first)

-- who is greeted first
abbrev pub first_name : Value
first_name = Words (codes "a")

-- a cell, and what is loaded for it
abbrev pub with_name : Option ℕ → Body
with_name None = tree placeholder_tree
with_name (Some name) = resource_of (Greeting name)

abbrev pub loading : Body
loading = go_on (own_cell keeping first_name) (λ name. with_name name)

abbrev pub body : Component → Body
body components.Chosen = choosing
body components.Loaded = loading

-- components by number, and back
abbrev pub number : Component → ℕ
number components.Chosen = 0
number components.Loaded = 1

abbrev component : ℕ → Component
component zero = components.Chosen
component (suc n) = components.Loaded

back : (c : Component) → component (number c) ≡ c
back components.Chosen = refl
back components.Loaded = refl

-- the props
abbrev pub none : NoData
none = record {}

-- a poll
abbrev pub polled : memos.MemoTask Value Formula → Program DerivedTypes (TaskStep DerivedTypes)
polled m = go_on (memo_polled formulas m) (λ next. done (pending (as_task next)))

-- the calls of an application with this component at its top
abbrev pub programs : Component → Programs DerivedTypes
programs root =
    record {
      root = root;
      same_component = λ a b. nat_eq (number a) (number b);
      same_props = λ a b. true;
      same_value = values.same;
      same_handler = λ a b. true;
      memoize = λ c p q. true;
      body = λ c p. body c;
      poll = λ task. polled (task_of task);
      effect = λ e. done nothing;
      handle = λ handler event. done event;
    }

pub decides : (root : Component) → ProgramsDecide DerivedTypes (programs root)
decides root =
    record {
      memoized = λ c p q. refl;
      components = coded_tests number component nat_eq back plain_tests.numbers;
      props = (λ a b h. refl, λ a. refl);
      values = values.decides;
      handlers = (λ a b h. refl, λ a. refl);
    }

-- its polls are those of its memos and resources
pub polls : (root : Component) (m : memos.MemoTask Value Formula) → (programs root).poll (as_task m) ≡ polled m
polls root m = ap (λ n. polled n) (as_defined m)
