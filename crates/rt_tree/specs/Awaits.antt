-- What a patch waits for.
use Rattle.std.specs.Prelude.{◌≡◌}
use Rattle.rt_values.specs.declared.names.ScopeId.{ScopeId}
use Rattle.rt_tree.specs.declared.patch.Phase.{Phase}
use Rattle.rt_tree.specs.declared.patch.Phase.TheVariants as phase
use Rattle.rt_tree.specs.declared.step.PatchStep.{PatchStep}
use Rattle.rt_tree.specs.declared.step.PatchStep.TheVariants as s

-- what a patch may wait for
pub data Awaited : Type 0 where
  no_answer : Awaited
  a_scope : Awaited
  nodes_of : (scope : ScopeId) → Awaited

-- what it waits for in a phase
abbrev pub awaited : Phase → Awaited
awaited phase.Free = no_answer
awaited (phase.Make place) = a_scope
awaited (phase.Asked scope) = nodes_of scope

-- whether the nodes of this scope answer it
abbrev pub IsFor : ScopeId → Awaited → Type 0
IsFor scope no_answer = ⊥
IsFor scope a_scope = Unit {0}
IsFor scope (nodes_of named) = named ≡ scope

module _ {P Component Props Value Handler TaskState Effect Payload : Type 0} where
  -- what a step waits for: no answer, the scope that is made, or the nodes of a scope
  abbrev pub awaits : PatchStep P Component Props Value Handler TaskState Effect Payload → Awaited
  awaits (s.Make component) = a_scope
  awaits (s.Nodes scope) = nodes_of scope
  awaits (s.Feed scope component) = no_answer
  awaits (s.Edit edit) = no_answer
  awaits (s.Remove scope) = no_answer
  awaits (s.Drawn id places path) = no_answer
  awaits (s.Gone id) = no_answer
  awaits s.Done = no_answer
