-- The statements that a list of JSON is, with the names in reach behind each.
use Rattle.std.specs.Prelude.{ℕ, zero, suc, List, [], ◌∷◌, ◌++◌, Option, Some, None, option_map, option_and_then, if◌then◌else◌, codes}
use Rattle.serde_json.specs.Data.{Data, Items}
use Rattle.lang_expressions.specs.Keys.{is_object_of}
use Rattle.lang_expressions.specs.Fields.{list_at}
use Rattle.lang_expressions.specs.Lists.{steps}
use Rattle.lang_expressions.specs.declared.signatures.Names.{Names}
use Rattle.lang_expressions.specs.Calls.{expression_at}
use Rattle.lang_syntax.specs.declared.statement.Statement.{Statement}
use Rattle.lang_syntax.specs.declared.statement.Statement.TheVariants as s
use Rattle.lang_sources.specs.declared.forms.Place.{Place}
use Rattle.lang_sources.specs.declared.forms.StatementForm.{StatementForm}
use Rattle.lang_sources.specs.declared.forms.StatementForm.TheVariants.{Binds, Spawn, When, Does}
use Rattle.lang_sources.specs.Forms.{stands, form_in}
use Rattle.lang_sources.specs.Readings.{binding_in, spawned_in, plain_in}
use Rattle.lang_sources.specs.Binding.{with_bound}

-- one more statement: the names in reach behind it, and all statements so far
abbrev pub one_more : (List (List ℕ) → Data → Option (Option (List ℕ) × Statement)) → (List (List ℕ) × List Statement) → Data →
    Option (List (List ℕ) × List Statement)
one_more reading so_far d = option_map (λ read. (with_bound so_far.0 read.0, so_far.1 ++ read.1 ∷ [])) (reading so_far.0 d)

-- the statements of a list, each with the names that those before it bind, behind the names in reach at its end
abbrev pub block_of : (List (List ℕ) → Data → Option (Option (List ℕ) × Statement)) → List (List ℕ) → Items →
    Option (List (List ℕ) × List Statement)
block_of reading variables = steps (one_more reading) (variables, [])

-- a list of statements under a test; the names that it binds end with it
abbrev pub when_of : (List (List ℕ) → Items → Option (List (List ℕ) × List Statement)) → Names → List (List ℕ) → Data → Option Statement
when_of block names variables d =
    if is_object_of (codes "when" ∷ codes "do" ∷ []) d
    then option_and_then (λ test. option_map (λ b. s.When test b.1) (option_and_then (block variables) (list_at (codes "do") d)))
    (expression_at names variables (codes "when") d)
    else None

-- the statement of a form, with a list of statements in it read by a function, behind the name that it binds
abbrev pub formed : (List (List ℕ) → Items → Option (List (List ℕ) × List Statement)) → Names → List (List ℕ) → List ℕ → StatementForm →
    Data → Option (Option (List ℕ) × Statement)
formed block names variables key (Binds binder) d = option_map (λ b. (Some b.0, b.1)) (binding_in names variables binder d)
formed block names variables key Spawn d = option_map (λ b. (Some b.0, b.1)) (spawned_in names variables d)
formed block names variables key When d = option_map (λ done. (None, done)) (when_of block names variables d)
formed block names variables key (Does plain) d = option_map (λ done. (None, done)) (plain_in names variables key plain d)

-- a statement of a form that may stand in its place
abbrev pub statement_step : (List (List ℕ) → Items → Option (List (List ℕ) × List Statement)) → Names → Place → List (List ℕ) → Data →
    Option (Option (List ℕ) × Statement)
statement_step block names place variables d =
    option_and_then (λ form. if stands place form.1 then formed block names variables form.0 form.1 d else None) (form_in d)

-- the statement of a value that nests at most so many levels, behind the name that it binds
unfoldable pub statement_of : ℕ → Names → Place → List (List ℕ) → Data → Option (Option (List ℕ) × Statement)
statement_of zero names place variables d = None
statement_of (suc levels) names place variables d = statement_step (block_of (statement_of levels names place)) names place variables d

-- the statements of a list in a place, behind the names in reach at its end; JSON nests fewer levels than these
abbrev pub block_in : Names → Place → List (List ℕ) → Items → Option (List (List ℕ) × List Statement)
block_in names place = block_of (statement_of 128 names place)
