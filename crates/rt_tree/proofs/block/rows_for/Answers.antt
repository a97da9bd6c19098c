-- Each row stands under the next scope.
use Rattle.std.proofs.Common.{rules, ◌≡◌, ◌∷◌, [], ◌++◌, ◌∙◌, sym, ap, drop, length, arith}
use Rattle.std.specs.Prelude.{slice_get}
use Rattle.std.specs.Vec.Iter.{into_iter_items}
use Rattle.rt_lemmas.proofs.Lists.{nothing_left}
use Rattle.rt_tree.specs.Rows.{paired, put_under}
use Rattle.rt_tree.proofs.InOrder.{paired_all, paired_more}
use Rattle.rt_tree.proofs.block.rows_for.Goals as goal

pub loop-row-init : goal.loop-row-init
loop-row-init c =
    let scopes = c.args.scopes.now in
    let items = c.into_iter-row-iterator.ensures.into_iter_gives in
    record {
      rows = λ t. c.none-given.ensures.none t ++ paired (drop (length (c.none-given.ensures.none t)) scopes) ((items.0 ∙ c.into_vec-row-items.ensures.items) t);
      count = search rules;
    }

pub loop-row-preserved : goal.loop-row-preserved
loop-row-preserved c =
    let scopes = c.args.scopes.now in
    let steps : into_iter_items c.loop-row.row-iterator ≡ c.in-Some.row ∷ into_iter_items c.next.new.self = c.in-Some.ensures.steps.0 in
    record {
      rows = paired_more scopes (into_iter_items c.loop-row.row-iterator) (into_iter_items c.next.new.self) c.in-Some.row c.loop-row.given.rows c.put_next.new.given.rows (paired scopes c.args.rows) steps
          (c.in_ok-put_next.ensures ∙ ap (λ o. c.loop-row.given.rows ++ put_under o c.in-Some.row) (c.get.ensures.item ∙ ap (λ n. slice_get scopes n) c.len-count.ensures.items))
          c.loop-row.invariant.rows;
      count =
          let was = c.loop-row.invariant.count in
          let gone = c.in-Some.ensures.steps.1 in
          let short = ap length steps in
          omega (arith, was, gone, short);
    }

pub returns : goal.returns
returns c =
    let empty : into_iter_items c.loop-row.row-iterator ≡ [] = nothing_left _ (sym c.loop-row.invariant.count ∙ c.in-None.ensures.steps.0) in
    paired_all c.args.scopes.now (into_iter_items c.loop-row.row-iterator) c.loop-row.given.rows (paired c.args.scopes.now c.args.rows) empty c.loop-row.invariant.rows
