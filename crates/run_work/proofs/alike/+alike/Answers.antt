-- Trees are alike slot by slot, fragments item by item.
use Rattle.std.proofs.Common.{arith, length, subst, sym, ap, ◌<◌, ◌≤◌, ◌∙◌}
use Rattle.run_work.specs.declared.turning.Turn.TheVariants as turns
use Rattle.run_work.specs.Alike.{AlikeTrees, AlikeValues}
use Rattle.run_work.specs.Grounds.{value_turn}
use Rattle.run_work.proofs.Likened.{fragment_alike, tree_alike, trees_done, trees_more, values_done, values_more}
use Rattle.run_work.proofs.Turns.{value_Text}
use Rattle.run_work.proofs.alike.+alike.Goals as goal

pub trees_alike-returns : goal.trees_alike-returns
trees_alike-returns g t c =
    tree_alike c.args.old.now c.args.new.now (c.same.ensures.0 c.if-not-same.false)
    (subst (λ xs. AlikeValues xs (c.args.new.now).dynamic_nodes) c.as_slice-olds.ensures.items
    (subst (λ ys. AlikeValues c.as_slice-olds.result.now ys) c.as_slice-news.ensures.items c.in_ok-slots_alike.ensures))

pub slots_alike-loop-index-init : goal.slots_alike-loop-index-init
slots_alike-loop-index-init g t c = λ h. h

pub slots_alike-loop-index-preserved : goal.slots_alike-loop-index-preserved
slots_alike-loop-index-preserved g t c =
    let little : c.loop-index.index < length c.args.new.now = omega (arith, c.loop-index-test.true, c.if-old-new.false) in
    values_more c.args.old.now c.args.new.now c.loop-index.index c.index-old-index.result c.index-new-index.result c.loop-index-test.true c.index-old-index.is little c.index-new-index.is
    c.loop-index.invariant c.in_ok-values_alike.ensures

pub slots_alike-returns : goal.slots_alike-returns
slots_alike-returns g t c =
    let also : length c.args.new.now ≤ c.loop-index.index = omega (arith, c.loop-index-test.false, c.if-old-new.false) in
    values_done c.args.old.now c.args.new.now c.loop-index.index c.loop-index-test.false also c.loop-index.invariant

pub items_alike-loop-index-init : goal.items_alike-loop-index-init
items_alike-loop-index-init g t c = λ h. h

pub items_alike-loop-index-preserved : goal.items_alike-loop-index-preserved
items_alike-loop-index-preserved g t c =
    let little : c.loop-index.index < length c.args.new.now = omega (arith, c.loop-index-test.true, c.if-old-new.false) in
    trees_more c.args.old.now c.args.new.now c.loop-index.index c.index-old-index.result c.index-new-index.result c.loop-index-test.true c.index-old-index.is little c.index-new-index.is
    c.loop-index.invariant c.in_ok-trees_alike.ensures

pub items_alike-returns : goal.items_alike-returns
items_alike-returns g t c =
    let also : length c.args.new.now ≤ c.loop-index.index = omega (arith, c.loop-index-test.false, c.if-old-new.false) in
    trees_done c.args.old.now c.args.new.now c.loop-index.index c.loop-index-test.false also c.loop-index.invariant

pub values_alike-returns-in-Text-Text : goal.values_alike-returns-in-Text-Text
values_alike-returns-in-Text-Text g t c = λ place.
    ap (λ v. value_turn turns.Comes v place) c.in-Text-Text.is-0
    ∙ value_Text _ turns.Comes _ place
    ∙ sym (value_Text _ turns.Comes _ place)
    ∙ sym (ap (λ v. value_turn turns.Comes v place) c.in-Text-Text.is-1)

pub values_alike-returns-in_ok-items_alike-in-Fragment-Fragment : goal.values_alike-returns-in_ok-items_alike-in-Fragment-Fragment
values_alike-returns-in_ok-items_alike-in-Fragment-Fragment g t c = λ place.
    let were = c.in-Fragment-Fragment.were in
    let are = c.in-Fragment-Fragment.are in
    ap (λ v. value_turn turns.Comes v place) c.in-Fragment-Fragment.is-0
    ∙ fragment_alike were are
    (subst (λ xs. AlikeTrees xs are) c.as_slice-olds.ensures.items
    (subst (λ ys. AlikeTrees c.as_slice-olds.result.now ys) c.as_slice-news.ensures.items c.in_ok-items_alike-in-Fragment-Fragment.ensures))
    place
    ∙ sym (ap (λ v. value_turn turns.Comes v place) c.in-Fragment-Fragment.is-1)
