-- One more slot, or item, and none.
use Rattle.std.proofs.Common.{rules, refl, sym, take, subst, ◌≡◌, ◌++◌, ◌∷◌, [], ◌∙◌, ◌<◌, ◌≤◌, List, ℕ, arith, ap, length, get_or, map}
use Rattle.std.specs.Prelude.{pos}
use Rattle.run_records.specs.Records.{world_of}
use Rattle.author_calls.specs.Calls.{call_of}
use Rattle.tree_mirror.specs.Sealed as mirror
use Rattle.rt_model.specs.Program.{Program, done}
use Rattle.rt_model.specs.Tree.{Tree}
use Rattle.rt_language.specs.Expressions.{SourceTypes}
use Rattle.rt_language.specs.Sequence.{go_on}
use Rattle.rt_language.specs.Values.{Value, NumberValue}
use Rattle.rt_language.specs.Views.{Filling, filled_on, items_from}
use Rattle.author_programs.specs.Came.{came, reached}
use Rattle.lang_script.specs.Fills.{filling_of}
use Rattle.lang_views.specs.Plans.{planned, fill_of}
use Rattle.lang_script.specs.Seen.{ScriptWorld, caller_of}
use Rattle.lang_script.specs.declared.caller.Frame.{Frame}
use Rattle.lang_views.specs.declared.plan.Fill.{Fill}
use Rattle.lang_views.specs.declared.plan.Plan.{Plan}
use Rattle.tree_mirror.specs.Mirror.{trees_from}
use Rattle.lang_script.proofs.Fills.{tree-more, tree-end, items-more, items-end, tree-none, tree-some, list-filled, moved-frame, map-append}
use Rattle.lang_script.proofs.Statements.{take_front}
use Rattle.lang_script.proofs.filling.+filling.Goals as goal

pub tree_of-loop-fill-preserved : goal.tree_of-loop-fill-preserved
tree_of-loop-fill-preserved t c =
    let inv = c.loop-fill.invariant in
    let xs : List Fill = (c.args.plan.now).fills in
    let all : c.as_slice-fill-items.result.now ≡ xs = c.as_slice-fill-items.ensures.items in
    let low : c.loop-fill.fill-index < length xs = omega (arith, ap length all) in
    let is : c.fill-item.result ≡ get_or xs c.loop-fill.fill-index c.fill-item.result = c.fill-item.is ∙ ap (λ (ys : List Fill). get_or ys c.loop-fill.fill-index c.fill-item.result) all in
    let p : Frame → Program SourceTypes Filling = λ f. go_on (fill_of c.fill-item.result (caller_of f.by) f.held) (λ more. done (filled_on (filling_of c.loop-fill.filling) more)) in
    let h : came (world_of c.args.cx.now.world) (p c.args.frame.now) (call_of c.loop-fill.cx) ≡ reached (filling_of c.put.new.filling) (call_of c.put.new.cx) =
    moved-frame c.loop-fill.cx c.put.new.cx _ c.loop-fill.frame c.args.frame.now p (filling_of c.put.new.filling) inv.1 inv.2 c.in_ok-put.ensures.came in
    (inv.0 ∙ tree-more _ _ _ _ xs _ _ _ _ _ _ low is h, c.in_ok-put.ensures.world ∙ inv.1, c.in_ok-put.ensures.frame ∙ inv.2)

pub items-loop-number-preserved : goal.items-loop-number-preserved
items-loop-number-preserved t c =
    let inv = c.loop-number.invariant in
    let f : Frame = c.args.frame.now in
    let v : Value = NumberValue (pos c.loop-number.number) in
    let one : Frame = record f { held = f.held ++ v ∷ [] } in
    let number : c.numbered.result ≡ v = c.numbered.ensures.value in
    let bound : c.bind.new.self ≡ one =
    c.in_ok-bind.ensures.bound
    ∙ ap (λ (x : Frame). record x { held = x.held ++ c.numbered.result ∷ [] }) inv.2
    ∙ ap (λ (x : Value). record f { held = f.held ++ x ∷ [] }) number in
    let p : Frame → Program SourceTypes (Tree SourceTypes) = λ x. (planned c.args.item.now).tree (caller_of x.by) x.held in
    let h : came (world_of c.args.cx.now.world) (p one) (call_of c.loop-number.cx) ≡ reached (mirror.tree_of c.in_ok-tree.tree) (call_of c.tree_of.new.cx) =
    moved-frame c.loop-number.cx c.tree_of.new.cx _ c.bind.new.self one p (mirror.tree_of c.in_ok-tree.tree) inv.1 bound c.in_ok-tree.ensures.came in
    let pushed : c.push.new.self ≡ c.loop-number.trees ++ c.in_ok-tree.tree ∷ [] = search rules in
    let front : take c.len-bound.result (f.held ++ v ∷ []) ≡ f.held = ap (λ (m : ℕ). take m (f.held ++ v ∷ [])) c.len-bound.ensures.items ∙ take_front f.held (v ∷ []) in
    let kept : c.keep.new.self ≡ f =
    c.keep.ensures.kept
    ∙ ap (λ (x : Frame). record x { held = take c.len-bound.result x.held }) (c.in_ok-tree.ensures.frame ∙ bound)
    ∙ ap (λ (xs : List Value). record f { held = xs }) front in (
      inv.0
          ∙ items-more _ (λ i. (planned c.args.item.now).tree (caller_of f.by) (f.held ++ NumberValue (pos i) ∷ [])) c.loop-number.number c.args.count _ _ (mirror.tree_of c.in_ok-tree.tree) _ _ (omega arith) h
          (ap (map mirror.tree_of) pushed ∙ map-append mirror.tree_of c.loop-number.trees (c.in_ok-tree.tree ∷ [])),
      c.in_ok-tree.ensures.world ∙ inv.1,
      kept,
    )

pub items-returns-clause-came : goal.items-returns-clause-came
items-returns-clause-came t c =
    c.loop-number.invariant.0
    ∙ items-end _ _ c.loop-number.number c.args.count _ _ (omega arith)
    ∙ ap (λ trees. reached (trees_from (map mirror.tree_of trees)) (call_of c.loop-number.cx)) (sym c.in_ok-finished.ensures.items)

pub node_of-returns-in_ok-trees-in-ListOf-clause-came : goal.node_of-returns-in_ok-trees-in-ListOf-clause-came
node_of-returns-in_ok-trees-in-ListOf-clause-came t c =
    let f : Frame = c.args.frame.now in
    let n : ℕ = c.item_count-count.result in
    let h = c.in_ok-trees-in-ListOf.ensures.came in
    let k = subst (λ (it : Plan). came (world_of c.evaluate-in-ListOf.new.cx.world) (items_from (λ i. (planned it).tree (caller_of f.by) (f.held ++ NumberValue (pos i) ∷ [])) 0 n) (call_of c.evaluate-in-ListOf.new.cx)
    ≡ reached (trees_from (map mirror.tree_of c.in_ok-trees-in-ListOf.trees)) (call_of c.items.new.cx)) c.get.ensures.value h in
    let m = subst (λ (u : ScriptWorld). came (world_of u) (items_from (λ i. (planned c.in-ListOf.item).tree (caller_of f.by) (f.held ++ NumberValue (pos i) ∷ [])) 0 n) (call_of c.evaluate-in-ListOf.new.cx)
    ≡ reached (trees_from (map mirror.tree_of c.in_ok-trees-in-ListOf.trees)) (call_of c.items.new.cx)) c.in_ok-evaluate-in-ListOf.ensures.world k in
    list-filled _ (caller_of f.by) f.held c.args.slot.now c.in-ListOf.count c.in-ListOf.item n c.in_ok-evaluate-in-ListOf.field-0 c.in_ok-trees-in-ListOf.trees _ _ _ c.in-ListOf.is c.in_ok-evaluate-in-ListOf.ensures.came c.item_count-count.ensures m

pub tree_of-returns-in_ok-placeholder-in-None-clause-came : goal.tree_of-returns-in_ok-placeholder-in-None-clause-came
tree_of-returns-in_ok-placeholder-in-None-clause-came t c =
    let xs : List Fill = (c.args.plan.now).fills in
    let end : length xs ≤ c.loop-fill.fill-index = omega (arith, ap length c.as_slice-fill-items.ensures.items) in
    c.loop-fill.invariant.0
    ∙ tree-end _ _ _ _ xs _ _ _ end
    ∙ ap (λ (x : Tree SourceTypes). reached x (call_of c.loop-fill.cx)) (tree-none (c.args.plan.now).template (filling_of c.loop-fill.filling) c.in_ok-placeholder-in-None.field-0 c.in-None.is c.in_ok-placeholder-in-None.ensures.tree)

pub tree_of-returns-in_ok-tree-in-Some-clause-came : goal.tree_of-returns-in_ok-tree-in-Some-clause-came
tree_of-returns-in_ok-tree-in-Some-clause-came t c =
    let xs : List Fill = (c.args.plan.now).fills in
    let end : length xs ≤ c.loop-fill.fill-index = omega (arith, ap length c.as_slice-fill-items.ensures.items) in
    c.loop-fill.invariant.0
    ∙ tree-end _ _ _ _ xs _ _ _ end
    ∙ ap (λ (x : Tree SourceTypes). reached x (call_of c.loop-fill.cx)) (tree-some (c.args.plan.now).template c.in-Some.template c.in-Some.template c.loop-fill.filling c.in-Some.is refl)
    ∙ ap (λ tree. reached (mirror.tree_of tree) (call_of c.loop-fill.cx)) (sym c.in_ok-tree-in-Some.ensures.tree)
