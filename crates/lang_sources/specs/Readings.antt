-- What is read of the forms without statements in them, one word a kind of form.
use Rattle.std.specs.Prelude.{ℕ, List, Option}
use Rattle.serde_json.specs.Data.{Data}
use Rattle.lang_expressions.specs.declared.signatures.Names.{Names}
use Rattle.lang_syntax.specs.declared.statement.Statement.{Statement}
use Rattle.lang_sources.specs.declared.forms.Binder.{Binder}
use Rattle.lang_sources.specs.declared.forms.Plain.{Plain}
use Rattle.lang_sources.specs.Binding.{binding, spawned}
use Rattle.lang_sources.specs.Plain.{plain_of}

-- what binds a name to what expressions give, behind that name
unfoldable pub binding_in : Names → List (List ℕ) → Binder → Data → Option (List ℕ × Statement)
binding_in names variables binder d = binding names variables binder d

-- what spawns a task, behind the name that it binds
unfoldable pub spawned_in : Names → List (List ℕ) → Data → Option (List ℕ × Statement)
spawned_in names variables d = spawned names variables d

-- what binds no name
unfoldable pub plain_in : Names → List (List ℕ) → List ℕ → Plain → Data → Option Statement
plain_in names variables key plain d = plain_of names variables key plain d
