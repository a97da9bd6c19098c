-- A context stands by its scope.
use Rattle.std.proofs.Common.{◌∙◌, sym, ap}
use Rattle.rt_values.specs.contracts.names.ScopeIdOrd.TheImpl.Laws as scope_laws
use Rattle.rt_cells.specs.Places.{source_at}
use Rattle.rt_cells.specs.Reads.{is_context_of}
use Rattle.rt_cells.proofs.links.is_provided_by.Goals as goal

pub returns-in-Context : goal.returns-in-Context
returns-in-Context c = record {
  provided = c.eq.ensures
      ∙ scope_laws.matches_eq-law c.args.scope c.in-Context.by
      ∙ ap (λ place. is_context_of c.args.scope (source_at place)) (sym c.in-Context.is);
}
