-- Components, actions and tasks.
use Rattle.std.specs.Prelude.{ℕ, List, [], ◌∷◌, Option, None, option_map, option_and_then, if◌then◌else◌, codes}
use Rattle.serde_json.specs.Data.{Data, Items}
use Rattle.serde_json.specs.Find.{get, as_array}
use Rattle.lang_expressions.specs.Keys.{is_object_of}
use Rattle.lang_expressions.specs.Fields.{list_at, list_or_empty}
use Rattle.lang_expressions.specs.Lists.{read_each, each_member}
use Rattle.lang_expressions.specs.declared.signatures.Names.{Names}
use Rattle.lang_sources.specs.declared.forms.Place.{Place}
use Rattle.lang_sources.specs.declared.forms.Place.TheVariants.{Body, Action, Step}
use Rattle.lang_sources.specs.Statements.{block_in}
use Rattle.lang_syntax.specs.declared.statement.Statement.{Statement}
use Rattle.lang_syntax.specs.declared.source.ComponentSource.{ComponentSource}
use Rattle.lang_expressions.specs.Views.{view_in}
use Rattle.lang_sources.specs.Signatures.{params_in}

-- the statements of a body with its view, which has the names in reach at the end of the body
abbrev pub shown : Names → Data → (List (List ℕ) × List Statement) → Option ComponentSource
shown names d body =
    option_map (λ view. record { statements = body.1; view = view })
    (option_and_then (view_in names body.0) (list_at (codes "view") d))

-- a component: perhaps `params` and `do`, and `view`
unfoldable pub component_in : Names → Data → Option ComponentSource
component_in names d =
    if is_object_of (codes "params" ∷ codes "do" ∷ codes "view" ∷ []) d
    then option_and_then (λ params.
    option_and_then (shown names d) (option_and_then (block_in names Body params) (list_or_empty (codes "do") d))) (params_in d) else None

-- the statements of a list in a place
abbrev pub done_in : Names → Place → List (List ℕ) → Items → Option (List Statement)
done_in names place params items = option_map (λ block. block.1) (block_in names place params items)

-- an action: perhaps `params`, and `do`
unfoldable pub action_in : Names → Data → Option (List Statement)
action_in names d =
    if is_object_of (codes "params" ∷ codes "do" ∷ []) d
    then option_and_then (λ params. option_and_then (done_in names Action params) (list_at (codes "do") d)) (params_in d) else None

-- a step of a task is a list of statements
unfoldable pub step_in : Names → List (List ℕ) → Data → Option (List Statement)
step_in names params d = option_and_then (done_in names Step params) (as_array d)

-- a task: perhaps `params`, and `steps`, which share the params alone
unfoldable pub task_in : Names → Data → Option (List (List Statement))
task_in names d =
    if is_object_of (codes "params" ∷ codes "steps" ∷ []) d
    then option_and_then (λ params. option_and_then (read_each (step_in names params)) (list_at (codes "steps") d)) (params_in d) else None

-- the components in order of name
unfoldable pub components_at : Names → Data → Option (List ComponentSource)
components_at names d = each_member (λ _. component_in names) (get (codes "components") d)

-- the actions in order of name
unfoldable pub actions_at : Names → Data → Option (List (List Statement))
actions_at names d = each_member (λ _. action_in names) (get (codes "actions") d)

-- the tasks in order of name
unfoldable pub tasks_at : Names → Data → Option (List (List (List Statement)))
tasks_at names d = each_member (λ _. task_in names) (get (codes "tasks") d)
