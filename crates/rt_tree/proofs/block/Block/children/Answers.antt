-- One more in the order of the tree, and at the end all.
use Rattle.std.proofs.Common.{[], ◌∷◌, ◌++◌, ◌≡◌, ◌∙◌, ap, length, map, rules, slice_index_or}
use Rattle.std.specs.Prelude.{None}
use Rattle.run_places.specs.Drawn.{under}
use Rattle.rt_tree.specs.Blocks.{scope_id}
use Rattle.rt_tree.proofs.InOrder.{all_told, one_told}
use Rattle.rt_tree.proofs.block.Block.children.Goals as goal

pub loop-scope-init : goal.loop-scope-init
loop-scope-init g c = ap (λ xs. xs ++ map scope_id c.as_slice-scope-items.result.now) c.in_ok-children.ensures.empty

pub loop-scope-preserved : goal.loop-scope-preserved
loop-scope-preserved g c =
    let xs = c.as_slice-scope-items.result.now in
    let i = c.loop-scope.scope-index in
    let pushed : c.push.new.self ≡ c.loop-scope.children ++ scope_id (slice_index_or xs i None) ∷ [] = search rules in
    one_told scope_id xs i None c.loop-scope.children (map scope_id xs) c.push.new.self c.loop-scope-test.true pushed c.loop-scope.invariant

pub returns : goal.returns
returns g c =
    let xs = c.as_slice-scope-items.result.now in
    record {
      children = all_told scope_id xs c.loop-scope.scope-index None c.loop-scope.children (map scope_id xs) c.loop-scope-test.false c.loop-scope.invariant
          ∙ ap (λ ys. map scope_id ys) (c.as_slice-scope-items.ensures.items ∙ c.in_ok-found.ensures ∙ ap (λ ns. under c.args.self.now.side.children 0 (length ns)) c.as_slice-count.ensures.items);
    }
