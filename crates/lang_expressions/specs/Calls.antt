-- Expressions, variables and calls under the keys of an object.
use Rattle.std.specs.Prelude.{ℕ, List, length, ◌==◌, Option, Some, None, option_and_then, if◌then◌else◌, codes}
use Rattle.serde_json.specs.Data.{Data, Items}
use Rattle.serde_json.specs.Find.{get}
use Rattle.lang_expressions.specs.Fields.{text_at, list_at}
use Rattle.lang_expressions.specs.Lists.{read_each}
use Rattle.lang_expressions.specs.Names.{place_of}
use Rattle.lang_syntax.specs.declared.expression.Expression.{Expression}
use Rattle.lang_expressions.specs.declared.signatures.Names.{Names}
use Rattle.lang_expressions.specs.declared.signatures.Signature.{Signature}
use Rattle.lang_expressions.specs.Signatures.{signature_of}
use Rattle.lang_expressions.specs.Expressions.{expression_in}

-- the expression at a key
abbrev pub expression_at : Names → List (List ℕ) → List ℕ → Data → Option Expression
expression_at names variables key d = option_and_then (expression_in names variables) (get key d)

-- the place of the variable that is named at a key
abbrev pub variable_at : List (List ℕ) → List ℕ → Data → Option ℕ
variable_at variables key d = option_and_then (place_of variables) (text_at key d)

-- what is handed to what has a place and so many params, where it is as many values
abbrev pub handed : (ℕ × ℕ) → Option (List Expression) → Option (ℕ × List Expression)
handed signature values = option_and_then (λ es. if length es == signature.1 then Some (signature.0, es) else None) values

-- the place of what is used by a name, and what it is handed: as many values as it has params
abbrev pub call_in : Names → List (List ℕ) → List Signature → List ℕ → Items → Option (ℕ × List Expression)
call_in names variables signatures name items =
    option_and_then (λ signature. handed signature (read_each (expression_in names variables) items)) (signature_of signatures name)

-- what is used by the name at a key, and what it is handed by the list at `args`
abbrev pub call_at : Names → List (List ℕ) → List Signature → List ℕ → Data → Option (ℕ × List Expression)
call_at names variables signatures key d =
    option_and_then (λ name. option_and_then (call_in names variables signatures name) (list_at (codes "args") d)) (text_at key d)
