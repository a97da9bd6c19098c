-- The words of a call and what is kept of a scope, as the model has them.
use Rattle.std.specs.Prelude.{ℕ, List, [], ◌∷◌, map, Option, Some, None, option_map, option_and_then}
use Rattle.rt_cells.specs.Held.{value_at}
use Rattle.rt_cells.specs.declared.sources.Source.{Source}
use Rattle.rt_cells.specs.declared.sources.Source.TheVariants as sources
use Rattle.rt_cells.specs.declared.sources.Target.{Target}
use Rattle.rt_cells.specs.declared.sources.Target.TheVariants as targets
use Rattle.rt_values.specs.declared.names.ScopeId.{ScopeId}
use Rattle.rt_model.specs.Lists.{at}
use Rattle.rt_model.specs.OneLog.{types}
use Rattle.rt_model.specs.World as model
use Rattle.tree_mirror.specs.Mirror.{error_of}
use Rattle.run_records.specs.World.{CallWorld, provided}
use Rattle.run_records.specs.declared.world.Firsts.{Firsts}
use Rattle.run_records.specs.declared.rows.Hook.{Hook}
use Rattle.run_records.specs.declared.rows.Hook.TheVariants as hooks
use Rattle.run_records.specs.declared.rows.ScopeRow.{ScopeRow}
use Rattle.run_records.specs.declared.command.Command.{Command}
use Rattle.run_records.specs.declared.command.Command.TheVariants as commands
use Rattle.run_records.specs.declared.faults.Counter.{Counter}
use Rattle.run_records.specs.declared.faults.Counter.TheVariants as counters

-- what a list comes to, its items put on one after another
unfoldable pub gathered : {X A : Type 0} → (X → A → A) → List X → A → A
gathered step [] a = a
gathered step (x ∷ xs) a = gathered step xs (step x a)

-- an item in front of a list
abbrev pub in_front : {X Y : Type 0} → (X → Y) → X → List Y → List Y
in_front f x ys = f x ∷ ys

-- the items of a list put through a change, the newest first
abbrev pub newest_first : {X Y : Type 0} → (X → Y) → List X → List Y
newest_first f xs = gathered (in_front f) xs []

-- what a reader reads
abbrev pub source_of : Source → model.Source
source_of (sources.Cell n) = model.Cell n
source_of (sources.Error s) = model.Error s.0
source_of (sources.Context kind s) = model.Context kind s.0

-- the next number of each counter
abbrev pub firsts_of : Firsts → model.Firsts
firsts_of f = record { tasks = f.tasks; cells = f.cells; contexts = f.contexts; elements = f.elements; errors = f.errors }

-- whom a reactive context tells
abbrev pub target_of : Target → model.Target
target_of (targets.Scope s) = model.ScopeTarget s.0
target_of (targets.Task t) = model.TaskTarget t.0

-- a counter
abbrev pub counter_of : Counter → model.Counter
counter_of counters.Scopes = model.Scopes
counter_of counters.Tasks = model.Tasks
counter_of counters.Cells = model.Cells
counter_of counters.Contexts = model.Contexts
counter_of counters.Elements = model.Elements
counter_of counters.Errors = model.Errors
counter_of counters.Renders = model.Renders

-- the number of a scope, where there is one
abbrev pub number_of : Option ScopeId → Option ℕ
number_of None = None
number_of (Some s) = Some s.0

module _ {P C Q V H T E L : Type 0} where
  -- a hook with its kind
  abbrev pub hook_of : Hook P C Q V H T E L → model.Hook (types C Q V H T E L)
  hook_of (hooks.Value kind value) = model.HookValue kind value
  hook_of (hooks.Effect kind effect) = model.HookEffect kind effect

  -- what a call asks for
  abbrev pub command_of : Command P C Q V H T E L → model.Command (types C Q V H T E L)
  command_of (commands.KeepHook hook) = model.KeepHook (hook_of hook)
  command_of (commands.NewCell cell value) = model.NewCell cell value
  command_of (commands.Write cell value) = model.Write cell value
  command_of (commands.DropCell cell) = model.DropCell cell
  command_of (commands.NewContext context target) = model.NewContext context.0 (target_of target)
  command_of (commands.Reset context) = model.Reset context.0
  command_of (commands.ReadInto context source) = model.ReadInto context.0 (source_of source)
  command_of (commands.Spawn task state forever isomorphic) = model.Spawn task.0 state forever isomorphic
  command_of (commands.RemoveFuture task) = model.RemoveFuture task.0
  command_of (commands.Wake task) = model.Wake task.0
  command_of (commands.SetActive task active) = model.SetActive task.0 active
  command_of (commands.QueueEffect effect) = model.QueueEffect effect
  command_of (commands.Provide root kind value) = model.Provide root kind value
  command_of (commands.Update scope) = model.Update scope.0
  command_of (commands.Throw error) = model.Throw (error_of error)
  command_of commands.ClearErrors = model.ClearErrors
  command_of (commands.Resolved effect) = model.Resolved effect
  command_of commands.Freeze = model.Freeze

  -- the parent of each live scope
  abbrev pub parents_of : List (ℕ × ScopeRow P C Q V H T E L) → List (ℕ × Option ℕ)
  parents_of [] = []
  parents_of (entry ∷ rows) = (entry.0, number_of (entry.1).parent) ∷ parents_of rows

  -- how often a scope's body answered a tree
  abbrev pub renders_of : Option (ScopeRow P C Q V H T E L) → ℕ
  renders_of None = 0
  renders_of (Some row) = row.renders

  -- the hooks of a scope
  abbrev pub hooks_of : Option (ScopeRow P C Q V H T E L) → List (model.Hook (types C Q V H T E L))
  hooks_of None = []
  hooks_of (Some row) = map hook_of row.hooks

  -- what a call is given, but for the values that it reads
  abbrev pub given_of : CallWorld P C Q V H T E L → model.Given (types C Q V H T E L)
  given_of w =
      record {
        scope = (w.scope).0;
        parents = parents_of w.rows;
        boundaries = w.boundaries;
        renders = renders_of (at w.rows (w.scope).0);
        hooks = hooks_of (at w.rows (w.scope).0);
        next = firsts_of w.next;
        task = option_map (λ t. t.0) w.task;
        rendering = w.rendering;
      }

  -- the present values of the sources
  abbrev pub values_of : CallWorld P C Q V H T E L → model.Values (types C Q V H T E L)
  values_of w =
      record {
        cell = λ n. value_at n w.cells;
        error = λ s. option_map error_of (option_and_then (λ row. row.error) (at w.rows s));
        context = λ kind s. option_and_then (λ row. provided row.contexts kind) (at w.rows s);
      }

  -- the world of a call
  abbrev pub world_of : CallWorld P C Q V H T E L → model.World (types C Q V H T E L)
  world_of w = record { given = given_of w; values = values_of w }
