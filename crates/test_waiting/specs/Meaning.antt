-- What the calls of the application that waits mean.
use Rattle.std.specs.Prelude.{ℕ, List, [], ◌∷◌, false, nat_eq, if◌then◌else◌, Option, Some, None}
use Rattle.tree_mirror.specs.Mirror.{tree_of}
use Rattle.rt_model.specs.OneLog.{types}
use Rattle.rt_model.specs.Program.{Program, done, read, write, spawn, queue_effect, use_effect, Programs, application_of}
use Rattle.rt_model.specs.Tree.{Types, Element, placeholder_tree, rendered}
use Rattle.rt_model.specs.World.{Application, Event, Nothing, clean_up_kind, nothing, ready}
use Rattle.tree_nodes.specs.Shown as trees
use Rattle.tree_nodes.specs.declared.vnode.DynamicNode.TheVariants as slots
use Rattle.tree_nodes.specs.declared.vnode.VComponent.TheVariants.{App}
use Rattle.tree_nodes.specs.declared.vnode.VNode.{VNode}
use Rattle.author_programs.specs.Cells.{Keeping, own_cell}
use Rattle.author_programs.specs.Sequence.{go_on}
use Rattle.test_waiting.specs.declared.waiting.Waiting.{Waiting}

abbrev pub WaitingTypes : Types
WaitingTypes = types ℕ ℕ ℕ ℕ ℕ ℕ ℕ

-- hooks keep the numbers of cells as they are
abbrev pub keeping : Keeping ℕ
keeping = record { kind = 0; keeps = λ n. n; kept = λ n. Some n }

-- the child in a slot
abbrev pub child : ℕ → VNode Waiting ℕ ℕ ℕ ℕ ℕ ℕ ℕ
child cell = record trees.placeholder_tree { dynamic_nodes = slots.Component (App 1 cell) ∷ [] }

-- the child is shown where the cell holds 0, else nothing
abbrev pub element_by : ℕ → Option ℕ → Element WaitingTypes
element_by cell (Some held) = if nat_eq held 0 then rendered (tree_of (child cell)) else rendered placeholder_tree
element_by cell None = rendered placeholder_tree

abbrev pub by_cell : Option ℕ → Program WaitingTypes (Element WaitingTypes)
by_cell None = done (rendered placeholder_tree)
by_cell (Some cell) = read cell (λ value. done (element_by cell value))

-- the bodies of the root and of the child
abbrev pub root_body : Program WaitingTypes (Element WaitingTypes)
root_body = go_on (own_cell keeping 0) (λ cell. by_cell cell)

-- a clean-up is kept, a task is spawned, and an effect is queued that writes a cell
abbrev pub keeps : Program WaitingTypes Nothing
keeps = use_effect clean_up_kind 1000000 (λ stood. done nothing)

abbrev pub spawns : Program WaitingTypes Nothing
spawns = spawn 0 false false (λ task. done nothing)

abbrev pub queues : ℕ → Program WaitingTypes Nothing
queues cell = queue_effect cell (done nothing)

abbrev pub child_body : ℕ → Program WaitingTypes (Element WaitingTypes)
child_body cell = go_on keeps (λ _. go_on spawns (λ _. go_on (queues cell) (λ _. done (rendered placeholder_tree))))

-- the body of a component
abbrev pub body : ℕ → ℕ → Program WaitingTypes (Element WaitingTypes)
body component props = if nat_eq component 0 then root_body else child_body props

-- an effect writes its cell, the clean-up nothing
abbrev pub done_effect : ℕ → Program WaitingTypes Nothing
done_effect effect = if nat_eq effect 1000000 then done nothing else write effect 1 (done nothing)

-- its calls
abbrev pub programs : Programs WaitingTypes
programs =
    record {
      root = 0;
      same_component = nat_eq;
      same_props = nat_eq;
      same_value = nat_eq;
      same_handler = nat_eq;
      memoize = λ c p q. nat_eq p q;
      body = body;
      poll = λ s. done ready;
      effect = done_effect;
      handle = λ h event. done event;
    }

-- what they mean
abbrev pub meaning : Waiting → Application WaitingTypes
meaning _ = application_of programs
