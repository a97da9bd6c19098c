-- The slots of each kind of node, what stands in each kind of slot, and the plan of all.
use Rattle.std.proofs.Common.{◌≡◌, ◌∷◌, [], length, sym, ap, ◌∙◌, arith}
use Rattle.std.specs.Vec.Iter.{into_iter_items}
use Rattle.rt_language.specs.Views as views
use Rattle.lang_syntax.specs.Mirror.{view_of}
use Rattle.lang_views.specs.Meant.{then_filled, filled_by, view_filled}
use Rattle.lang_views.proofs.Filled.{then-no-view}
use Rattle.lang_views.proofs.Taken.{nothing_left}
use Rattle.lang_views.proofs.Views.{filled-Text, filled-Element, filled-Slot, plan-means, means-TextOf, means-UseOf, means-ListOf, means-PickOf, means-FragmentOf, means-ErrorBoundaryOf, means-SuspenseBoundaryOf, means-Hole}
use Rattle.lang_views.proofs.planning.+planning.Goals as goal

pub plan_node-returns-in-Text : goal.plan_node-returns-in-Text
plan_node-returns-in-Text t c = record { filled = λ rest. filled-Text c.args.node c.in-Text._text c.args.fills.now rest c.in-Text.is }

pub plan_node-returns-in_ok-plan_nodes-in-Element : goal.plan_node-returns-in_ok-plan_nodes-in-Element
plan_node-returns-in_ok-plan_nodes-in-Element t c =
    record {
      filled = λ rest.
          filled-Element c.args.node c.in-Element._tag c.in-Element._namespace c.in-Element.attributes c.in-Element.kids c.args.fills.now c.plan_attributes.new.fills c.plan_nodes.new.fills rest
          c.in-Element.is c.in_ok-plan_attributes-in-Element.ensures.filled c.in_ok-plan_nodes-in-Element.ensures.filled;
    }

pub plan_node-returns-in_ok-push-in-Slot : goal.plan_node-returns-in_ok-push-in-Slot
plan_node-returns-in_ok-push-in-Slot t c =
    record { filled = λ rest. filled-Slot c.args.node c.in-Slot.slot c.in_ok-slot-in-Slot.slot c.args.fills.now c.push.new.self rest c.in-Slot.is c.in_ok-slot-in-Slot.ensures.plan c.in_ok-push-in-Slot.ensures.ok }

pub plan_nodes-loop-node-preserved : goal.plan_nodes-loop-node-preserved
plan_nodes-loop-node-preserved t c =
    let steps : into_iter_items c.loop-node.node-iterator ≡ c.in-Some.node ∷ into_iter_items c.next.new.self = c.in-Some.ensures.steps.0 in
    record {
      filled =
          c.in_ok-plan_node.ensures.filled (view_of (into_iter_items c.next.new.self))
          ∙ ap (λ xs. then_filled (filled_by c.loop-node.fills) (view_filled (view_of xs))) (sym steps)
          ∙ c.loop-node.invariant.filled;
      count =
          let was = c.loop-node.invariant.count in
          let gone = c.in-Some.ensures.steps.1 in
          let short = ap length steps in
          omega arith;
    }

pub plan_nodes-returns : goal.plan_nodes-returns
plan_nodes-returns t c =
    let empty : into_iter_items c.loop-node.node-iterator ≡ [] = nothing_left _ (sym c.loop-node.invariant.count ∙ c.in-None.ensures.steps.0) in
    record {
      filled =
          sym (ap (λ xs. then_filled (filled_by c.loop-node.fills) (view_filled (view_of xs))) empty ∙ then-no-view (filled_by c.loop-node.fills))
          ∙ c.loop-node.invariant.filled;
    }

pub plan_of-returns : goal.plan_of-returns
plan_of-returns t c =
    let same : c.as_slice.result.now ≡ c.args.nodes = c.as_slice.ensures.items in
    record {
      plan =
          plan-means c.in_ok-template.template c.plan_nodes.new.fills (view_of c.args.nodes) c.new-fills.result
          (c.in_ok-template.ensures.empty ∙ ap (λ xs. views.is_empty (view_of xs)) same)
          (λ f. c.in_ok-template.ensures.tree f ∙ ap (λ xs. views.tree_with (view_of xs) f) same)
          c.new-fills.ensures.empty
          c.in_ok-plan_nodes.ensures.filled;
    }

pub plan_slot-returns-in-TextOf : goal.plan_slot-returns-in-TextOf
plan_slot-returns-in-TextOf t c = record { plan = means-TextOf c.args.slot c.in-TextOf.text c.in-TextOf.is }

pub plan_slot-returns-in-UseOf : goal.plan_slot-returns-in-UseOf
plan_slot-returns-in-UseOf t c = record { plan = means-UseOf c.args.slot c.in-UseOf.component c.in-UseOf.is }

pub plan_slot-returns-in_ok-item-in-ListOf : goal.plan_slot-returns-in_ok-item-in-ListOf
plan_slot-returns-in_ok-item-in-ListOf t c =
    record { plan = means-ListOf c.args.slot c.in-ListOf.count c.in-ListOf.item c.in_ok-item-in-ListOf.item c.in-ListOf.is c.in_ok-item-in-ListOf.ensures.plan }

pub plan_slot-returns-in_ok-other-in-PickOf : goal.plan_slot-returns-in_ok-other-in-PickOf
plan_slot-returns-in_ok-other-in-PickOf t c =
    record {
      plan = means-PickOf c.args.slot c.in-PickOf.test c.in-PickOf.chosen c.in-PickOf.other c.in_ok-chosen-in-PickOf.chosen c.in_ok-other-in-PickOf.other c.in-PickOf.is c.in_ok-chosen-in-PickOf.ensures.plan c.in_ok-other-in-PickOf.ensures.plan;
    }

pub plan_slot-returns-in_ok-children-in-FragmentOf : goal.plan_slot-returns-in_ok-children-in-FragmentOf
plan_slot-returns-in_ok-children-in-FragmentOf t c =
    record { plan = means-FragmentOf c.args.slot c.in-FragmentOf.children c.in_ok-children-in-FragmentOf.children c.in-FragmentOf.is c.in_ok-children-in-FragmentOf.ensures.plan }

pub plan_slot-returns-in_ok-kids-in-ErrorBoundaryOf : goal.plan_slot-returns-in_ok-kids-in-ErrorBoundaryOf
plan_slot-returns-in_ok-kids-in-ErrorBoundaryOf t c =
    record { plan = means-ErrorBoundaryOf c.args.slot c.in-ErrorBoundaryOf.kids c.in-ErrorBoundaryOf.handler c.in_ok-kids-in-ErrorBoundaryOf.kids c.in-ErrorBoundaryOf.is c.in_ok-kids-in-ErrorBoundaryOf.ensures.plan }

pub plan_slot-returns-in_ok-kids-in-SuspenseBoundaryOf : goal.plan_slot-returns-in_ok-kids-in-SuspenseBoundaryOf
plan_slot-returns-in_ok-kids-in-SuspenseBoundaryOf t c =
    record { plan = means-SuspenseBoundaryOf c.args.slot c.in-SuspenseBoundaryOf.kids c.in-SuspenseBoundaryOf.fallback c.in_ok-kids-in-SuspenseBoundaryOf.kids c.in-SuspenseBoundaryOf.is c.in_ok-kids-in-SuspenseBoundaryOf.ensures.plan }

pub plan_slot-returns-in-Hole : goal.plan_slot-returns-in-Hole
plan_slot-returns-in-Hole t c = record { plan = means-Hole c.args.slot c.in-Hole.is }
