-- What the views of a source mean, in the form in which plans mean it.
use Rattle.std.specs.Prelude.{List, [], map}
use Rattle.rt_model.specs.Program.{done}
use Rattle.rt_model.specs.Tree.{Slot}
use Rattle.rt_language.specs.Expressions.{SourceTypes}
use Rattle.rt_language.specs.Sequence.{go_on}
use Rattle.rt_language.specs.Syntax as language
use Rattle.rt_language.specs.Syntax.{View, Statements}
use Rattle.rt_language.specs.Views.{Filling, filled_on, given_by, is_empty, tree_of, fill, fill_slot}
use Rattle.lang_syntax.specs.Mirror.{node_step, slot_step, statements_of}
use Rattle.lang_syntax.specs.declared.view.ViewSlot.{ViewSlot}
use Rattle.lang_syntax.specs.declared.view.ViewNode.TheFolds.{fold-ViewSlot}
use Rattle.lang_views.specs.Plans.{Held, Planned, planned, filled, fill_of}
use Rattle.lang_views.specs.declared.plan.ComponentPlan.{ComponentPlan}
use Rattle.lang_views.specs.declared.plan.Fill.{Fill}

-- a slot of a view
abbrev pub slot_of : ViewSlot → language.ViewSlot
slot_of = fold-ViewSlot (View → View) language.ViewSlot node_step slot_step

-- slots of one part, and then those of another
unfoldable pub then_filled : Held Filling → Held Filling → Held Filling
then_filled a b by held = go_on (a by held) (λ f. go_on (b by held) (λ g. done (filled_on f g)))

-- slots by what fills each, in order
unfoldable pub filled_by : List Fill → Held Filling
filled_by fills = filled (map fill_of fills)

-- the slots of a view
unfoldable pub view_filled : View → Held Filling
view_filled view by held = fill by held view

-- the attribute slots of an element
unfoldable pub attributes_filled : List language.ViewAttribute → Held Filling
attributes_filled attributes by held = go_on (given_by by held attributes) (λ own. done (record { attributes = own; slots = [] }))

-- one slot
unfoldable pub slot_filled : language.ViewSlot → Held (Slot SourceTypes)
slot_filled slot by held = fill_slot by held slot

-- a view
unfoldable pub view_meant : View → Planned
view_meant view = record { is_empty = is_empty view; tree = λ by held. tree_of view (fill by held view) }

-- what a component does, and what its view means
pub record Component : Type 0 where
  pub statements : Statements
  pub view : Planned

-- a component made ready
abbrev pub plan_meant : ComponentPlan → Component
plan_meant plan = record { statements = statements_of plan.statements; view = planned plan.view }

-- a component of a source
abbrev pub component_meant : language.ComponentSource → Component
component_meant c = record { statements = c.statements; view = view_meant c.view }
