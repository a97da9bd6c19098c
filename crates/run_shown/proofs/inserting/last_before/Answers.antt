-- From behind, an item that shows no node leaves the last one to those before it, and one that shows some has it.
use Rattle.std.proofs.Common.{ℕ, ◌+◌, ◌-◌, ◌<◌, [], ◌≡◌, ◌≢◌, ◌∙◌, refl, sym, ap, length, take, arith}
use Rattle.std.proofs.lemmas.Bool.{true≢false}
use Rattle.tree_edits.specs.Documents.{forest_of}
use Rattle.rt_model.specs.Caused as caused
use Rattle.run_places.specs.Trails.{place_on}
use Rattle.run_places.proofs.Trails.{on_Item}
use Rattle.run_shown.specs.Units.{last_among}
use Rattle.run_shown.proofs.ItemsWrite.{last_here, last_passed}
use Rattle.run_shown.proofs.inserting.last_before.Goals as goal

pub loop-back-preserved : goal.loop-back-preserved
loop-back-preserved g c =
    let shown = c.args.sides.now.new.now in
    let place = place_on c.args.place.now in
    let trees = c.args.trees.now in
    let i : ℕ = length trees - 1 - c.loop-back.back in
    let low : i < length trees = omega (arith, c.loop-back-test.true) in
    let here : length trees - c.loop-back.back ≡ i + 1 = omega (arith, c.loop-back-test.true) in
    let next : i ≡ length trees - (c.loop-back.back + 1) = omega (arith, c.loop-back-test.true) in
    c.loop-back.invariant
    ∙ ap (λ n. last_among shown place 0 0 (take n trees)) here
    ∙ last_passed shown place _ trees i c.index-trees-position.result c.in_ok-row.row low c.index-trees-position.is
    c.in_ok-row.ensures (on_Item _ _) (c.if-not-is_empty.ensures.empty.0 refl)
    ∙ ap (λ n. last_among shown place 0 0 (take n trees)) next

pub returns-then-not-is_empty : goal.returns-then-not-is_empty
returns-then-not-is_empty g c =
    let shown = c.args.sides.now.new.now in
    let place = place_on c.args.place.now in
    let trees = c.args.trees.now in
    let i : ℕ = length trees - 1 - c.loop-back.back in
    let low : i < length trees = omega (arith, c.loop-back-test.true) in
    let here : length trees - c.loop-back.back ≡ i + 1 = omega (arith, c.loop-back-test.true) in
    let some : c.in_ok-row.row ≢ [] = λ none. true≢false (sym (c.if-not-is_empty.ensures.empty.1 none)) in
    c.last_of.ensures
    ∙ ap (λ row. caused.last_of 0 (forest_of row)) c.as_slice.ensures.items
    ∙ last_here shown place _ trees i c.index-trees-position.result c.in_ok-row.row low c.index-trees-position.is
    c.in_ok-row.ensures (on_Item _ _) some
    ∙ sym (ap (λ n. last_among shown place 0 0 (take n trees)) here)
    ∙ sym c.loop-back.invariant

pub returns : goal.returns
returns g c =
    let trees = c.args.trees.now in
    let none : length trees - c.loop-back.back ≡ 0 = omega (arith, c.loop-back.auto.back-end, c.loop-back-test.false) in
    sym (c.loop-back.invariant ∙ ap (λ n. last_among c.args.sides.now.new.now (place_on c.args.place.now) 0 0 (take n trees)) none)
