use Rattle.std.proofs.Common.{ap, sym, ◌∙◌}
use Rattle.rt_model.specs.Next as next
use Rattle.rt_values.specs.declared.names.ScopeId.{ScopeId}
use Rattle.run_state.specs.Orders.{taken_of}
use Rattle.run_state.proofs.order.numbered.Goals as goal

pub returns-in-RerunScope : goal.returns-in-RerunScope
returns-in-RerunScope c = ap (λ (i : ScopeId). next.RerunScope i.0) c.id.ensures.id ∙ ap taken_of (sym c.in-RerunScope.is)

pub returns-in-PollTask : goal.returns-in-PollTask
returns-in-PollTask c = ap taken_of (sym c.in-PollTask.is)
