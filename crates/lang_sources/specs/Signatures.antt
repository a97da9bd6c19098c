-- The names of a source.
use Rattle.std.specs.Prelude.{ℕ, List, [], length, Option, Some, None, option_map, option_and_then, codes}
use Rattle.serde_json.specs.Data.{Data}
use Rattle.serde_json.specs.Find.{get, as_object}
use Rattle.lang_expressions.specs.Fields.{list_or_empty}
use Rattle.lang_expressions.specs.Lists.{each_member}
use Rattle.lang_expressions.specs.Names.{distinct_texts}
use Rattle.lang_expressions.specs.declared.signatures.Signature.{Signature}
use Rattle.lang_expressions.specs.declared.signatures.Names.{Names}
use Rattle.lang_expressions.specs.Kinds.{kinds_in}

-- the params of a component, an action or a task: names that differ
abbrev pub params_in : Data → Option (List (List ℕ))
params_in d = option_and_then distinct_texts (list_or_empty (codes "params") d)

-- a name with the count of params under it
abbrev pub signature_in : List ℕ → Data → Option Signature
signature_in name d = option_map (λ params. record { name = name; params = length params }) (params_in d)

-- the names in an object at a key, in order
abbrev pub signatures_at : List ℕ → Data → Option (List Signature)
signatures_at key d = each_member signature_in (get key d)

-- the names of a source: its keys of contexts, and what its components, actions and tasks are called
abbrev pub names_in : Data → Option Names
names_in d =
    option_and_then (λ components. option_and_then (λ actions.
    option_map (λ tasks. record { kinds = kinds_in d; components = components; actions = actions; tasks = tasks })
    (signatures_at (codes "tasks") d)) (signatures_at (codes "actions") d))
    (signatures_at (codes "components") d)
