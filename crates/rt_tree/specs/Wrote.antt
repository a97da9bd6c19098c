-- What a mark that is only written leads to.
use Rattle.std.specs.Prelude.{List, [], ◌∷◌, ◌≡◌}
use Rattle.rt_values.specs.declared.names.ScopeId.{ScopeId}
use Rattle.rt_edits.specs.declared.edit.Edit.{Edit}
use Rattle.rt_tree.specs.declared.turning.Wrote.{Wrote}
use Rattle.rt_tree.specs.declared.turning.Wrote.TheVariants as w
use Rattle.rt_tree.specs.Awaits.{Awaited, no_answer, nodes_of}

-- what the patch waits for then
abbrev pub wrote_awaits : Wrote → Awaited
wrote_awaits (w.Asks scope) = nodes_of scope
wrote_awaits (w.First edit) = no_answer
wrote_awaits w.Nothing = no_answer

-- what holds unless a scope is asked
abbrev pub UnlessAsks : Wrote → Type 0 → Type 0
UnlessAsks (w.Asks scope) fact = Unit {0}
UnlessAsks (w.First edit) fact = fact
UnlessAsks w.Nothing fact = fact

-- what holds where nothing is written
abbrev pub IfNothing : Wrote → Type 0 → Type 0
IfNothing (w.Asks scope) fact = Unit {0}
IfNothing (w.First edit) fact = Unit {0}
IfNothing w.Nothing fact = fact

-- the first of these edits, with those behind it
abbrev pub FirstOf : List Edit → Wrote → List Edit → Type 0
FirstOf edits (w.Asks scope) rest = ⊥
FirstOf edits (w.First edit) rest = edits ≡ edit ∷ rest
FirstOf edits w.Nothing rest = (edits ≡ []) × (rest ≡ [])

-- what holds where a scope is asked
abbrev pub IfAsks : Wrote → Type 0 → Type 0
IfAsks (w.Asks scope) fact = fact
IfAsks (w.First edit) fact = Unit {0}
IfAsks w.Nothing fact = Unit {0}

-- what holds of the scope that is asked
abbrev pub IfAsksFor : Wrote → (ScopeId → Type 0) → Type 0
IfAsksFor (w.Asks scope) fact = fact scope
IfAsksFor (w.First edit) fact = Unit {0}
IfAsksFor w.Nothing fact = Unit {0}
