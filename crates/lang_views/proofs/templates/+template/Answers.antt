-- Each kind of node, and one more node of a row.
use Rattle.std.proofs.Common.{rules, ◌≡◌, ◌<◌, ◌++◌, ◌∷◌, ◌+◌, [], ℕ, List, ap, ◌∙◌, drop, length, arith, subst}
use Rattle.rt_language.specs.Views.{step_of}
use Rattle.lang_syntax.specs.Mirror.{view_of}
use Rattle.lang_syntax.specs.declared.view.ViewNode.{ViewNode}
use Rattle.lang_views.specs.declared.templates.Paths.{Paths}
use Rattle.lang_views.proofs.Rows.{RowSoFar, text-built, hole-built, element-built, popped, row-more}
use Rattle.lang_views.proofs.Taken.{next_drop}
use Rattle.tree_nodes.specs.declared.template.TemplateNode.TheVariants as made
use Rattle.lang_views.proofs.templates.+template.Goals as goal

pub node_of-returns-in_ok-copy-in-Text : goal.node_of-returns-in_ok-copy-in-Text
node_of-returns-in_ok-copy-in-Text t c =
    record { built = text-built c.args.paths.now c.args.node.now c.in-Text.text _ c.in-Text.is (ap made.Text c.in_ok-copy-in-Text.ensures.copy) }

pub node_of-returns-in_ok-copy-in-Element-2 : goal.node_of-returns-in_ok-copy-in-Element-2
node_of-returns-in_ok-copy-in-Element-2 t c =
    record {
      built =
          element-built c.args.paths.now c.attributes_of.new.paths c.kids_of.new.paths c.args.node.now c.in-Element.tag c.in-Element.namespace c.in-Element.attributes c.in-Element.kids c.in_ok-attrs-in-Element.attrs c.in_ok-children-in-Element.children _
          c.in-Element.is
          (λ i. made.Element (c.in_ok-copy-in-Element.ensures.copy i) (c.in_ok-copy-in-Element-2.ensures.copy i) c.in_ok-attrs-in-Element.attrs c.in_ok-children-in-Element.children)
          (search rules)
          (search rules);
    }

pub node_of-returns-in_ok-push-in-Slot : goal.node_of-returns-in_ok-push-in-Slot
node_of-returns-in_ok-push-in-Slot t c =
    let before : Paths = c.args.paths.now in
    record {
      built =
          hole-built before _ c.args.node.now c.in-Slot.field-0 _ c.in-Slot.is (ap made.Dynamic c.len-id.ensures.items)
          (ap (λ paths. record before { node_paths = paths }) (c.in_ok-push-in-Slot.ensures.ok ∙ ap (λ path. before.node_paths ++ path ∷ []) c.in_ok-path-in-Slot.ensures.copy));
    }

pub row_of-loop-node-preserved : goal.row_of-loop-node-preserved
row_of-loop-node-preserved t c =
    let xs : List ViewNode = c.args.nodes.now in
    let i : ℕ = c.loop-node.node-index in
    let same : c.loop-node.index ≡ i = c.loop-node.invariant.index in
    let low : i < length xs = omega arith in
    record {
      index = omega (arith, same, c.saturating_add-index.ensures);
      built =
          let so_far = c.loop-node.invariant.built in
          let left : drop i xs ≡ c.node-item.result ∷ drop (i + 1) xs = next_drop xs i c.node-item.result low c.node-item.is in
          let step : c.step_of.result ≡ step_of i = c.step_of.ensures.step ∙ ap step_of same in
          row-more c.args.paths.now c.loop-node.paths (record (c.loop-node.paths) { path = c.push.new.self }) c.node_of.new.paths _ (view_of xs) (view_of (drop (i + 1) xs)) c.node-item.result c.loop-node.made c.push-in-loop-node.new.self c.in_ok-node.node i
          (λ _. c.loop-node.paths.node_paths) (λ _. c.loop-node.paths.attr_paths)
          (c.in_ok-push.ensures.ok ∙ ap (λ (k : ℕ). c.loop-node.paths.path ++ k ∷ []) step)
          c.in_ok-node.ensures.built
          (λ _. c.node_of.new.paths.node_paths) (λ _. c.node_of.new.paths.attr_paths)
          (popped c.pop-step.result c.node_of.new.paths.path c.pop-step.new.self c.args.paths.now.path (step_of i) c.pop-step.ensures.last)
          c.in_ok-push-2.ensures.ok
          (subst (λ ys. RowSoFar c.args.paths.now c.loop-node.paths (view_of xs) (view_of ys) c.loop-node.made i) left so_far);
    }
