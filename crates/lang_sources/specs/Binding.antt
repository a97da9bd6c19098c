-- Statements that bind a name.
use Rattle.std.specs.Prelude.{ℕ, List, [], ◌∷◌, ◌++◌, Option, Some, None, option_map, option_and_then, if◌then◌else◌, bytes_eq, codes}
use Rattle.serde_json.specs.Data.{Data}
use Rattle.serde_json.specs.Find.{get, as_str}
use Rattle.lang_expressions.specs.Keys.{is_object_of}
use Rattle.lang_expressions.specs.Fields.{text_at, whole_at}
use Rattle.lang_expressions.specs.declared.signatures.Names.{Names}
use Rattle.lang_expressions.specs.Calls.{expression_at, call_at}
use Rattle.lang_syntax.specs.Looking.{derived_looks}
use Rattle.lang_syntax.specs.declared.derived.Derived.{Derived}
use Rattle.lang_syntax.specs.declared.derived.Derived.TheVariants as deriveds
use Rattle.lang_syntax.specs.declared.expression.Expression.{Expression}
use Rattle.lang_syntax.specs.declared.statement.SpawnKind.{SpawnKind}
use Rattle.lang_syntax.specs.declared.statement.SpawnKind.TheVariants.{Client, Isomorphic, Forever}
use Rattle.lang_syntax.specs.declared.statement.Simple.TheVariants as simple
use Rattle.lang_syntax.specs.declared.statement.Statement.{Statement}
use Rattle.lang_syntax.specs.declared.statement.Statement.TheVariants as s
use Rattle.lang_sources.specs.declared.forms.Binder.{Binder}
use Rattle.lang_sources.specs.declared.forms.Binder.TheVariants.{Let, Cell, Hook, Memo, Resource}

-- the name at one key of an object, and the expression at its only other key
abbrev pub bound_by : Names → List (List ℕ) → List ℕ → List ℕ → Data → Option (List ℕ × Expression)
bound_by names variables name_key key d =
    if is_object_of (name_key ∷ key ∷ []) d
    then option_and_then (λ name. option_map (λ e. (name, e)) (expression_at names variables key d)) (text_at name_key d) else None

-- a memo or a resource behind its name, where it only looks
abbrev pub kept_to : List ℕ → Derived → Option (List ℕ × Statement)
kept_to name derived = if derived_looks derived then Some (name, s.UseDerived derived) else None

-- a memo: the name at `memo`, and the expression at `be`, which only looks
abbrev pub memo_of : Names → List (List ℕ) → Data → Option (List ℕ × Statement)
memo_of names variables d = option_and_then (λ b. kept_to b.0 (deriveds.Value b.1)) (bound_by names variables (codes "memo") (codes "be") d)

-- the expression at `be`, with one name more in reach
abbrev pub loaded : Names → List (List ℕ) → List ℕ → Data → Option Expression
loaded names variables last d = expression_at names (variables ++ last ∷ []) (codes "be") d

-- a resource: the name at `resource`, the expression at `key`, which only looks, the whole number at `waits`, and the expression at `be`,
-- which looks at nothing, and in which the name at `as` is in reach besides
abbrev pub resource_of : Names → List (List ℕ) → Data → Option (List ℕ × Statement)
resource_of names variables d =
    if is_object_of (codes "resource" ∷ codes "key" ∷ codes "waits" ∷ codes "as" ∷ codes "be" ∷ []) d
    then option_and_then (λ name. option_and_then (λ last. option_and_then (λ waits. option_and_then (λ key.
    option_and_then (λ value. kept_to name (deriveds.Load key waits value)) (loaded names variables last d))
    (expression_at names variables (codes "key") d)) (whole_at (codes "waits") d)) (text_at (codes "as") d)) (text_at (codes "resource") d)
    else None

-- what binds a name to what expressions give, behind that name
abbrev pub binding : Names → List (List ℕ) → Binder → Data → Option (List ℕ × Statement)
binding names variables Let d = option_map (λ b. (b.0, s.Does (simple.Let b.1))) (bound_by names variables (codes "let") (codes "be") d)
binding names variables Cell d = option_map (λ b. (b.0, s.UseCell b.1)) (bound_by names variables (codes "cell") (codes "init") d)
binding names variables Hook d = option_map (λ b. (b.0, s.UseHook b.1)) (bound_by names variables (codes "hook") (codes "init") d)
binding names variables Memo d = memo_of names variables d
binding names variables Resource d = resource_of names variables d

-- what kind of task a word names
unfoldable pub spawn_word : List ℕ → Option SpawnKind
spawn_word word =
    if bytes_eq word (codes "client") then Some Client else
    if bytes_eq word (codes "isomorphic") then Some Isomorphic else
    if bytes_eq word (codes "forever") then Some Forever else None

-- the kind where a word may stand: a client's where none does
abbrev pub kind_or_client : Option Data → Option SpawnKind
kind_or_client None = Some Client
kind_or_client (Some d) = option_and_then spawn_word (as_str d)

-- what kind of task is spawned
abbrev pub spawn_kind : Data → Option SpawnKind
spawn_kind d = kind_or_client (get (codes "as") d)

-- a task with what it is handed, spawned, behind the name that it binds
abbrev pub spawn_of : List ℕ → SpawnKind → (ℕ × List Expression) → (List ℕ × Statement)
spawn_of name kind call = (name, s.SpawnTask call.0 call.1 kind)

-- what spawns a task, behind the name that it binds
abbrev pub spawned : Names → List (List ℕ) → Data → Option (List ℕ × Statement)
spawned names variables d =
    if is_object_of (codes "spawn" ∷ codes "task" ∷ codes "args" ∷ codes "as" ∷ []) d
    then option_and_then (λ name. option_and_then (λ kind.
    option_map (spawn_of name kind) (call_at names variables names.tasks (codes "task") d)) (spawn_kind d)) (text_at (codes "spawn") d)
    else None

-- the names in reach behind a statement that binds this name, or none
abbrev pub with_bound : List (List ℕ) → Option (List ℕ) → List (List ℕ)
with_bound variables None = variables
with_bound variables (Some name) = variables ++ name ∷ []
