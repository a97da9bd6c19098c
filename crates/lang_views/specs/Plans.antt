-- What a plan means: the tree of its template, and the programs that fill its slots.
use Rattle.std.specs.Prelude.{Bool, true, false, List, [], ◌∷◌, ◌++◌, Option, Some, None, pos, option_map, is_none}
use Rattle.tree_nodes.specs.declared.template.TemplateParts.{TemplateParts as Template}
use Rattle.rt_model.specs.Tree.{Attribute, block, placeholder_tree, Tree, Slot, text_slot, placeholder_slot, component_slot, fragment_slot, Own, Fragment, ErrorBoundary, SuspenseBoundary, rendered, listener}
use Rattle.rt_model.specs.Program.{Program, done, current_scope}
use Rattle.tree_mirror.specs.Sealed.{template_of}
use Rattle.rt_language.specs.Values.{Value, NumberValue, is_true, text_of, item_count}
use Rattle.rt_language.specs.Sequence.{go_on}
use Rattle.rt_language.specs.Expressions.{SourceTypes, Caller, evaluate, evaluate_all}
use Rattle.rt_language.specs.Statements.{doing}
use Rattle.rt_language.specs.Views.{Filling, nothing_filled, filled_on, attribute_value, attribute_of, use_or_none, slots_from, items_from, picked}
use Rattle.lang_syntax.specs.Mirror.{expression_of, arguments_of, use_of}
use Rattle.lang_views.specs.declared.plan.Plan.{Plan}
use Rattle.lang_views.specs.declared.plan.Fill.{Fill}
use Rattle.lang_views.specs.declared.plan.SlotPlan.{SlotPlan}
use Rattle.lang_views.specs.declared.plan.Fill.TheOpen.{Fill-F, SlotPlan-F, Plan-F}
use Rattle.lang_views.specs.declared.plan.Fill.TheFolds.{fold-Fill, fold-SlotPlan, fold-Plan}

-- a program of the language, of whoever evaluates and what the variables hold
abbrev pub Held : Type 0 → Type 0
Held A = Caller → List Value → Program SourceTypes A

-- what a plan means
pub record Planned : Type 0 where
  -- its view has no node
  pub is_empty : Bool
  pub tree : Held (Tree SourceTypes)

-- one attribute slot
abbrev pub one_attribute : Attribute SourceTypes → Filling
one_attribute a = record { attributes = (a ∷ []) ∷ []; slots = [] }

-- one node slot
abbrev pub one_slot : Slot SourceTypes → Filling
one_slot v = record { attributes = []; slots = v ∷ [] }

-- what fills one slot
abbrev pub fill_step : Fill-F (Held Filling) (Held (Slot SourceTypes)) Planned → Held Filling
fill_step (Fill-F.Attribute name value) by held =
    go_on (evaluate by held (expression_of value)) (λ v. done (one_attribute (attribute_of name (attribute_value v))))
fill_step (Fill-F.Listener name action arguments) by held =
    go_on
    (evaluate_all by held (arguments_of arguments))
    (λ vs. current_scope (λ s. done (one_attribute (attribute_of name (listener s (doing action vs))))))
fill_step (Fill-F.Node slot) by held = go_on (slot by held) (λ v. done (one_slot v))

-- slots, filled one after another
abbrev pub filled : List (Held Filling) → Held Filling
filled [] by held = done nothing_filled
filled (first ∷ rest) by held = go_on (first by held) (λ f. go_on (filled rest by held) (λ after. done (filled_on f after)))

-- the tree of a template whose slots are filled
abbrev pub tree_with : Option Template → Filling → Tree SourceTypes
tree_with None f = placeholder_tree
tree_with (Some template) f = block (template_of template) f.attributes (slots_from f.slots)

-- a plan whose slots are understood
abbrev pub plan_step : Plan-F (Held Filling) (Held (Slot SourceTypes)) Planned → Planned
plan_step plan =
    record {
      is_empty = is_none plan.template;
      tree = λ by held. go_on (filled plan.fills by held) (λ f. done (tree_with plan.template f));
    }

-- what fills a node slot
abbrev pub slot_step : SlotPlan-F (Held Filling) (Held (Slot SourceTypes)) Planned → Held (Slot SourceTypes)
slot_step (SlotPlan-F.TextOf e) by held = go_on (evaluate by held (expression_of e)) (λ v. done (text_slot (text_of v)))
slot_step (SlotPlan-F.UseOf u) by held =
    go_on (evaluate_all by held (arguments_of u.props)) (λ props. done (component_slot (Own u.component props)))
slot_step (SlotPlan-F.ListOf count item) by held =
    go_on
    (evaluate by held (expression_of count))
    (λ v. go_on (items_from (λ i. item.tree by (held ++ NumberValue (pos i) ∷ [])) 0 (item_count v)) (λ items. done (fragment_slot items)))
slot_step (SlotPlan-F.PickOf test chosen other) by held =
    go_on
    (evaluate by held (expression_of test))
    (λ v. elim (is_true v) [ true ↦ picked chosen.is_empty (chosen.tree by held) | false ↦ picked other.is_empty (other.tree by held) ])
slot_step (SlotPlan-F.FragmentOf children) by held =
    go_on (children.tree by held) (λ t. done (component_slot (Fragment (rendered t))))
slot_step (SlotPlan-F.ErrorBoundaryOf kids handler) by held =
    go_on
    (kids.tree by held)
    (λ t. go_on (use_or_none by held (option_map use_of handler)) (λ h. done (component_slot (ErrorBoundary (rendered t) h))))
slot_step (SlotPlan-F.SuspenseBoundaryOf kids fallback) by held =
    go_on
    (kids.tree by held)
    (λ t. go_on (use_or_none by held (option_map use_of fallback)) (λ h. done (component_slot (SuspenseBoundary (rendered t) h))))
slot_step SlotPlan-F.Hole by held = done placeholder_slot

-- what fills one slot
unfoldable pub fill_of : Fill → Held Filling
fill_of = fold-Fill (Held Filling) (Held (Slot SourceTypes)) Planned fill_step slot_step plan_step

-- what fills one node slot
unfoldable pub slot_program : SlotPlan → Held (Slot SourceTypes)
slot_program = fold-SlotPlan (Held Filling) (Held (Slot SourceTypes)) Planned fill_step slot_step plan_step

-- a plan
unfoldable pub planned : Plan → Planned
planned = fold-Plan (Held Filling) (Held (Slot SourceTypes)) Planned fill_step slot_step plan_step
