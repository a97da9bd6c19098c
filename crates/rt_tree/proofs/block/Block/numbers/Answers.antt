-- One more in the order of the tree, and at the end all.
use Rattle.std.proofs.Common.{[], ◌∷◌, ◌++◌, ◌≡◌, ◌∙◌, ap, length, map, rules, slice_index_or}
use Rattle.std.specs.Prelude.{None}
use Rattle.run_places.specs.Drawn.{under}
use Rattle.rt_tree.specs.Blocks.{element_id}
use Rattle.rt_tree.proofs.InOrder.{all_told, one_told}
use Rattle.rt_tree.proofs.block.Block.numbers.Goals as goal

pub loop-number-init : goal.loop-number-init
loop-number-init g c = ap (λ xs. xs ++ map element_id c.as_slice-number-items.result.now) c.in_ok-numbers.ensures.empty

pub loop-number-preserved : goal.loop-number-preserved
loop-number-preserved g c =
    let xs = c.as_slice-number-items.result.now in
    let i = c.loop-number.number-index in
    let pushed : c.push.new.self ≡ c.loop-number.numbers ++ element_id (slice_index_or xs i None) ∷ [] = search rules in
    one_told element_id xs i None c.loop-number.numbers (map element_id xs) c.push.new.self c.loop-number-test.true pushed c.loop-number.invariant

pub returns : goal.returns
returns g c =
    let xs = c.as_slice-number-items.result.now in
    record {
      numbers = all_told element_id xs c.loop-number.number-index None c.loop-number.numbers (map element_id xs) c.loop-number-test.false c.loop-number.invariant
          ∙ ap (λ ys. map element_id ys) (c.as_slice-number-items.ensures.items ∙ c.in_ok-found.ensures ∙ ap (λ ns. under c.args.self.now.side.numbers 0 (length ns)) c.as_slice-count.ensures.items);
    }
