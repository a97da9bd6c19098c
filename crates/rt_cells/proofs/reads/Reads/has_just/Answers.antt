-- What the reader has is in order.
use Rattle.std.proofs.Common.{◌≡◌, ◌∙◌, length, List, [], sym, ap, subst}
use mathlib.Core.Bool.{true≢false}
use Rattle.std.specs.Prelude.{◌==◌, IsTrue}
use Rattle.std.specs.List.Sorted.{IsStrictlySortedBy}
use Rattle.rt_cells.specs.declared.sources.Source.{Source}
use Rattle.rt_cells.specs.Orders.{source_cmp}
use Rattle.rt_cells.specs.Reads.{reads_of}
use Rattle.rt_cells.proofs.Again.{kept_in_order, set_in_order}
use Rattle.rt_cells.proofs.reads.Reads.has_just.Goals as goal

pub returns-then-is_empty : goal.returns-then-is_empty
returns-then-is_empty c = record { same = λ just. absurd (true≢false (sym just)); kept = λ just. absurd (true≢false (sym just)) }

pub returns : goal.returns
returns c =
    let some : c.args.sources.now ≡ [] → ⊥ =
    λ none. true≢false (ap (λ (ss : List Source). length ss == 0) (sym none) ∙ sym c.is_empty.ensures ∙ c.if-is_empty.false) in
    let is : IsTrue c.same_slice.result → reads_of c.args.reader c.args.self.now ≡ c.args.sources.now =
    λ same. sym c.of.ensures.sources ∙ c.same_slice.ensures.same.0 same in
    let sorted : IsTrue c.same_slice.result → IsStrictlySortedBy source_cmp c.args.sources.now =
    λ same. subst (IsStrictlySortedBy source_cmp) (c.same_slice.ensures.same.0 same) c.of.ensures.ascending in
    record {
      same = λ same. set_in_order c.args.reader c.args.sources.now c.args.self.now (sorted same) (is same) c.of.ensures.readers some;
      kept = λ same. kept_in_order c.args.reader c.args.sources.now c.args.self.now (sorted same) (is same);
    }
