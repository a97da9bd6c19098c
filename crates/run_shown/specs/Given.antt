-- Rows of nodes that were given, each for a child scope.
use Rattle.std.specs.Prelude.{ℕ, nat_eq, if◌then◌else◌, List, [], ◌∷◌}
use Rattle.rt_edits.specs.declared.doc_node.DocNode.{DocNode}
use Rattle.rt_model.specs.Document.{Forest, Empty}
use Rattle.tree_edits.specs.Documents.{forest_of}
use Rattle.run_shown.specs.declared.asked.GivenRows.{GivenRows}

-- the first row under a number, nothing where there is none
abbrev pub rows_under : List (ℕ × List DocNode) → ℕ → Forest
rows_under [] t = Empty
rows_under (r ∷ rows) t = if nat_eq r.0 t then forest_of r.1 else rows_under rows t

-- what was given for a scope
abbrev pub given_to : GivenRows → ℕ → Forest
given_to given t = rows_under given.rows t
