-- A sort and a `dedup` give the distinct sources in order.
use Rattle.std.proofs.Common.{◌∙◌, subst, List}
use Rattle.std.specs.List.Sorted.{IsPermutation}
use Rattle.std.proofs.lemmas.List.Filters.{dedup_is}
use Rattle.rt_cells.specs.declared.sources.Source.{Source}
use Rattle.rt_cells.specs.contracts.sources.SourcePartialEq.TheImpl as source_eq
use Rattle.rt_cells.specs.contracts.sources.SourceOrd.TheImpl.Laws as source_laws
use Rattle.rt_cells.proofs.Exact.{source_total, source_exact}
use Rattle.rt_cells.proofs.InOrder.{sorted_dedup, sorted_in_order}
use Rattle.rt_cells.proofs.reads.in_order.Goals as goal

pub returns : goal.returns
returns c =
    let found = c.from_vec.ensures.items
    ∙ sorted_dedup source_total source_exact source_eq.ghosts.eq source_laws.matches_eq-law c.args.sources.now _ _
    (subst (λ (xs : List Source). IsPermutation xs c.sort_unstable.new.self.items) c.in_ok-ordered.ensures.items c.sort_unstable.ensures.permutation)
    c.sort_unstable.ensures.sorted (dedup_is source_eq.ghosts.eq _ _ c.dedup.ensures.filtered) in
    record {
      sources = found;
      ascending = rw found (sorted_in_order source_total c.args.sources.now);
    }
