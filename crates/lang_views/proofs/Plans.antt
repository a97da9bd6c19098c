-- What each kind of fill, slot and plan means.
use Rattle.std.proofs.Common.{ℕ, List, ◌≡◌, map, rules}
use Rattle.std.specs.Prelude.{Option}
use Rattle.rt_model.specs.Tree.{Slot}
use Rattle.rt_language.specs.Expressions.{SourceTypes}
use Rattle.rt_language.specs.Views.{Filling}
use Rattle.lang_syntax.specs.declared.expression.Expression.{Expression}
use Rattle.lang_syntax.specs.declared.view.ComponentUse.{ComponentUse}
use Rattle.lang_views.specs.Plans.{Held, Planned, planned, fill_of, slot_program, fill_step, slot_step as slot_plan_step, plan_step}
use Rattle.lang_views.specs.declared.plan.Plan.{Plan}
use Rattle.lang_views.specs.declared.plan.SlotPlan.{SlotPlan}
use Rattle.lang_views.specs.declared.plan.Fill.{the_lemmas}
use Rattle.lang_views.specs.declared.plan.Fill.TheVariants as fills
use Rattle.lang_views.specs.declared.plan.SlotPlan.TheVariants as plans
use Rattle.lang_views.specs.declared.plan.Fill.TheOpen.{Fill-F, SlotPlan-F}
use Rattle.lang_views.specs.declared.plan.Fill.TheFolds.{fold_out-Plan}

pub fill-is-Attribute : (name : List ℕ) (value : Expression) → fill_of (fills.Attribute name value) ≡ fill_step (Fill-F.Attribute name value)
unfolding fill_of
fill-is-Attribute name value = search (rules, the_lemmas)

pub fill-is-Listener : (name : List ℕ) (action : ℕ) (arguments : List Expression) → fill_of (fills.Listener name action arguments) ≡ fill_step (Fill-F.Listener name action arguments)
unfolding fill_of
fill-is-Listener name action arguments = search (rules, the_lemmas)

pub fill-is-Node : (slot : SlotPlan) → fill_of (fills.Node slot) ≡ fill_step (Fill-F.Node (slot_program slot))
unfolding fill_of slot_program
fill-is-Node slot = search (rules, the_lemmas)

pub slot-is-TextOf : (e : Expression) → slot_program (plans.TextOf e) ≡ slot_plan_step (SlotPlan-F.TextOf e)
unfolding slot_program
slot-is-TextOf e = search (rules, the_lemmas)

pub slot-is-UseOf : (u : ComponentUse) → slot_program (plans.UseOf u) ≡ slot_plan_step (SlotPlan-F.UseOf u)
unfolding slot_program
slot-is-UseOf u = search (rules, the_lemmas)

pub slot-is-ListOf : (count : Expression) (item : Plan) → slot_program (plans.ListOf count item) ≡ slot_plan_step (SlotPlan-F.ListOf count (planned item))
unfolding slot_program planned
slot-is-ListOf count item = search (rules, the_lemmas)

pub slot-is-PickOf : (test : Expression) (chosen other : Plan) → slot_program (plans.PickOf test chosen other) ≡ slot_plan_step (SlotPlan-F.PickOf test (planned chosen) (planned other))
unfolding slot_program planned
slot-is-PickOf test chosen other = search (rules, the_lemmas)

pub slot-is-FragmentOf : (children : Plan) → slot_program (plans.FragmentOf children) ≡ slot_plan_step (SlotPlan-F.FragmentOf (planned children))
unfolding slot_program planned
slot-is-FragmentOf children = search (rules, the_lemmas)

pub slot-is-ErrorBoundaryOf : (kids : Plan) (handler : Option ComponentUse) → slot_program (plans.ErrorBoundaryOf kids handler) ≡ slot_plan_step (SlotPlan-F.ErrorBoundaryOf (planned kids) handler)
unfolding slot_program planned
slot-is-ErrorBoundaryOf kids handler = search (rules, the_lemmas)

pub slot-is-SuspenseBoundaryOf : (kids : Plan) (fallback : Option ComponentUse) → slot_program (plans.SuspenseBoundaryOf kids fallback) ≡ slot_plan_step (SlotPlan-F.SuspenseBoundaryOf (planned kids) fallback)
unfolding slot_program planned
slot-is-SuspenseBoundaryOf kids fallback = search (rules, the_lemmas)

pub slot-is-Hole : slot_program plans.Hole ≡ slot_plan_step SlotPlan-F.Hole
unfolding slot_program
slot-is-Hole = search (rules, the_lemmas)

pub plan-is : (plan : Plan) → planned plan ≡ plan_step (record { template = plan.template; fills = map fill_of plan.fills })
unfolding planned fill_of
plan-is plan = fold_out-Plan (Held Filling) (Held (Slot SourceTypes)) Planned fill_step slot_plan_step plan_step plan
