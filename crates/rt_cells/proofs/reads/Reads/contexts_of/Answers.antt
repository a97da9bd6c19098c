-- The scan finds the scope's contexts.
use Rattle.std.proofs.Common.{◌≡◌, ◌∙◌, sym, ap, subst, List, IfOk}
use Rattle.rt_cells.specs.declared.sources.Source.{Source}
use Rattle.rt_cells.specs.declared.sources.Source.TheVariants as source
use Rattle.rt_cells.specs.Orders.{source_cmp}
use Rattle.rt_cells.specs.Reads.{has, in_order, context_sources}
use Rattle.rt_cells.proofs.ContextsOf.{contexts_found}
use Rattle.rt_cells.proofs.ContextsRead.{if_ok, read_of, read_by_one}
use Rattle.rt_cells.proofs.reads.Reads.contexts_of.Goals as goal

pub returns : goal.returns
returns c =
    let is : IfOk c.in_order.result (λ sources. sources ≡ context_sources c.args.scope c.self.inside.sources.entries) =
    subst (λ (found : List Source). IfOk c.in_order.result (λ sources. sources ≡ found))
    (ap (in_order source_cmp) (c.as_slice.ensures.value ∙ c.in_ok-sources.ensures.front)
    ∙ contexts_found c.args.scope c.self.inside.sources.entries c.self.inside.links.keys c.self.invariant c.in_ok-sources.ensures.ordered)
    c.in_order.ensures.sources in
    record {
      sources = rw (← c.self.view_is) is;
      ascending = c.in_order.ensures.ascending;
      read = rw (← c.self.view_is)
          (if_ok c.in_order.result is
          (λ sources same reader kind h. ap (has (source.Context kind c.args.scope)) same
          ∙ read_of c.args.scope kind c.self.inside.sources.entries c.self.invariant.ascending reader h));
      only = rw (← c.self.view_is)
          (if_ok c.in_order.result is
          (λ sources same kind h. read_by_one c.args.scope kind c.self.inside.sources.entries c.self.invariant.ascending
          (sym (ap (has (source.Context kind c.args.scope)) same) ∙ h)));
    }
