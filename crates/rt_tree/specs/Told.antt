-- What may be said of one step.
use Rattle.rt_values.specs.declared.element.ElementId.{ElementId}
use Rattle.rt_values.specs.declared.names.ScopeId.{ScopeId}
use Rattle.rt_tree.specs.declared.step.PatchStep.{PatchStep}
use Rattle.rt_tree.specs.declared.step.PatchStep.TheVariants as s

module _ {P Component Props Value Handler TaskState Effect Payload : Type 0} where
  -- what holds of the number that a step draws
  abbrev pub IfDrawn : PatchStep P Component Props Value Handler TaskState Effect Payload → (ElementId → Type 0) → Type 0
  IfDrawn (s.Drawn id places path) fact = fact id
  IfDrawn (s.Edit edit) fact = Unit {0}
  IfDrawn (s.Make component) fact = Unit {0}
  IfDrawn (s.Feed scope component) fact = Unit {0}
  IfDrawn (s.Nodes scope) fact = Unit {0}
  IfDrawn (s.Remove scope) fact = Unit {0}
  IfDrawn (s.Gone id) fact = Unit {0}
  IfDrawn s.Done fact = Unit {0}

  -- what holds where a step draws no number
  abbrev pub UnlessDrawn : PatchStep P Component Props Value Handler TaskState Effect Payload → Type 0 → Type 0
  UnlessDrawn (s.Drawn id places path) fact = Unit {0}
  UnlessDrawn (s.Edit edit) fact = fact
  UnlessDrawn (s.Make component) fact = fact
  UnlessDrawn (s.Feed scope component) fact = fact
  UnlessDrawn (s.Nodes scope) fact = fact
  UnlessDrawn (s.Remove scope) fact = fact
  UnlessDrawn (s.Gone id) fact = fact
  UnlessDrawn s.Done fact = fact

  -- what holds where a step is an edit
  abbrev pub IfEdit : PatchStep P Component Props Value Handler TaskState Effect Payload → Type 0 → Type 0
  IfEdit (s.Drawn id places path) fact = Unit {0}
  IfEdit (s.Edit edit) fact = fact
  IfEdit (s.Make component) fact = Unit {0}
  IfEdit (s.Feed scope component) fact = Unit {0}
  IfEdit (s.Nodes scope) fact = Unit {0}
  IfEdit (s.Remove scope) fact = Unit {0}
  IfEdit (s.Gone id) fact = Unit {0}
  IfEdit s.Done fact = Unit {0}

  -- what holds at the last step
  abbrev pub IfDone : PatchStep P Component Props Value Handler TaskState Effect Payload → Type 0 → Type 0
  IfDone (s.Drawn id places path) fact = Unit {0}
  IfDone (s.Edit edit) fact = Unit {0}
  IfDone (s.Make component) fact = Unit {0}
  IfDone (s.Feed scope component) fact = Unit {0}
  IfDone (s.Nodes scope) fact = Unit {0}
  IfDone (s.Remove scope) fact = Unit {0}
  IfDone (s.Gone id) fact = Unit {0}
  IfDone s.Done fact = fact

  -- what holds of the scope that a step asks
  abbrev pub IfNodes : PatchStep P Component Props Value Handler TaskState Effect Payload → (ScopeId → Type 0) → Type 0
  IfNodes (s.Nodes scope) fact = fact scope
  IfNodes (s.Drawn id places path) fact = Unit {0}
  IfNodes (s.Edit edit) fact = Unit {0}
  IfNodes (s.Make component) fact = Unit {0}
  IfNodes (s.Feed scope component) fact = Unit {0}
  IfNodes (s.Remove scope) fact = Unit {0}
  IfNodes (s.Gone id) fact = Unit {0}
  IfNodes s.Done fact = Unit {0}

  -- what holds where a step brings nothing new and asks nothing
  abbrev pub UnlessNew : PatchStep P Component Props Value Handler TaskState Effect Payload → Type 0 → Type 0
  UnlessNew (s.Drawn id places path) fact = Unit {0}
  UnlessNew (s.Make component) fact = Unit {0}
  UnlessNew (s.Feed scope component) fact = Unit {0}
  UnlessNew (s.Nodes scope) fact = Unit {0}
  UnlessNew (s.Edit edit) fact = fact
  UnlessNew (s.Remove scope) fact = fact
  UnlessNew (s.Gone id) fact = fact
  UnlessNew s.Done fact = fact
