-- The source that a value of JSON is.
use Rattle.std.specs.Prelude.{ℕ, List, [], ◌∷◌, length, nat_lt, ◌==◌, Option, Some, None, option_map, option_and_then, if◌then◌else◌, codes}
use Rattle.serde_json.specs.Data.{Data}
use Rattle.lang_expressions.specs.Keys.{is_object_of}
use Rattle.lang_expressions.specs.Fields.{text_at, list_or_empty}
use Rattle.lang_expressions.specs.Lists.{read_each}
use Rattle.lang_expressions.specs.declared.signatures.Names.{Names}
use Rattle.lang_expressions.specs.Signatures.{signature_of}
use Rattle.lang_syntax.specs.declared.expression.Literal.{Literal}
use Rattle.lang_syntax.specs.declared.statement.Statement.{Statement}
use Rattle.lang_syntax.specs.declared.source.ComponentSource.{ComponentSource}
use Rattle.lang_syntax.specs.declared.source.PostSource.{PostSource}
use Rattle.lang_syntax.specs.declared.source.InputSource.{InputSource}
use Rattle.lang_syntax.specs.declared.source.Source.{Source}
use Rattle.lang_sources.specs.Inputs.{literal_in, poster_in, input_in}
use Rattle.lang_sources.specs.Signatures.{names_in}
use Rattle.lang_sources.specs.Definitions.{components_at, actions_at, tasks_at}
use Rattle.lang_sources.specs.declared.whole.TheConstants.{POSTERS_LIMIT}

-- the place of the root component, and how many params it has
unfoldable pub root_in : Names → Data → Option (ℕ × ℕ)
root_in names d = option_and_then (signature_of names.components) (text_at (codes "root") d)

-- just so many literals
abbrev pub just : ℕ → List Literal → Option (List Literal)
just params props = if length props == params then Some props else None

-- the props of the root, as many as it has params
unfoldable pub props_in : ℕ → Data → Option (List Literal)
props_in params d = option_and_then (just params) (option_and_then (read_each literal_in) (list_or_empty (codes "props") d))

-- what comes from outside
unfoldable pub inputs_in : Data → Option (List InputSource)
inputs_in d = option_and_then (read_each input_in) (list_or_empty (codes "inputs") d)

-- so many posters are not too many
abbrev pub within_posters : List (List PostSource) → Option (List (List PostSource))
within_posters posts = if nat_lt POSTERS_LIMIT (length posts) then None else Some posts

-- the messages of each poster
unfoldable pub posts_in : Data → Option (List (List PostSource))
posts_in d = option_and_then within_posters (option_and_then (read_each poster_in) (list_or_empty (codes "posts") d))

-- a source by its parts
abbrev pub gathered : ℕ → List Literal → List ComponentSource → List (List Statement) → List (List (List Statement)) →
    List InputSource → List (List PostSource) → Source
gathered root props components actions tasks inputs posts = record {
  components = components;
  root = root;
  props = props;
  actions = actions;
  tasks = tasks;
  inputs = inputs;
  posts = posts;
}

-- a source with what it defines, and with its inputs and posts
abbrev pub ended : ℕ → Data → List Literal → List ComponentSource → List (List Statement) → List (List (List Statement)) → Option Source
ended root d props components actions tasks =
    option_and_then (λ inputs. option_map (gathered root props components actions tasks inputs) (posts_in d)) (inputs_in d)

-- a source with these names, a root, and what that is handed
unfoldable pub source_with : Names → ℕ → Data → List Literal → Option Source
source_with names root d props =
    option_and_then (λ components. option_and_then (λ actions. option_and_then (ended root d props components actions) (tasks_at names d))
    (actions_at names d)) (components_at names d)

-- a source with these names
abbrev pub source_named : Data → Names → Option Source
source_named d names = option_and_then (λ root. option_and_then (source_with names root.0 d) (props_in root.1 d)) (root_in names d)

-- the keys of a source
abbrev pub top_keys : List (List ℕ)
top_keys = codes "components" ∷ codes "root" ∷ codes "props" ∷ codes "actions" ∷ codes "tasks" ∷ codes "inputs" ∷ codes "posts" ∷ []

-- an object of `components`, `root`, and perhaps `props`, `actions`, `tasks`, `inputs` and `posts`
unfoldable pub source_in : Data → Option Source
source_in d =
    if is_object_of top_keys d then option_and_then (source_named d) (names_in d) else None
