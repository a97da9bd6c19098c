-- Rows of nodes under the scopes that they are given for.
use Rattle.std.specs.Prelude.{ℕ, List, [], ◌∷◌, Option, Some, None}
use Rattle.rt_values.specs.declared.names.ScopeId.{ScopeId}
use Rattle.rt_edits.specs.declared.doc_node.DocNode.{DocNode}
use Rattle.rt_model.specs.Document.{Forest}
use Rattle.run_shown.specs.Given.{rows_under}

-- rows under the scopes that they were given for, in order
abbrev pub paired : List ScopeId → List (List DocNode) → List (ℕ × List DocNode)
paired [] rows = []
paired (s ∷ scopes) [] = []
paired (s ∷ scopes) (row ∷ rows) = (s.0, row) ∷ paired scopes rows

-- one row under a scope, if there is one
abbrev pub put_under : Option ScopeId → List DocNode → List (ℕ × List DocNode)
put_under None row = []
put_under (Some s) row = (s.0, row) ∷ []

-- what a scope shows, where the scopes have these rows in order
abbrev pub rows_given : List ScopeId → List (List DocNode) → ℕ → Forest
rows_given scopes rows t = rows_under (paired scopes rows) t
