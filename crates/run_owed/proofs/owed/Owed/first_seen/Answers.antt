-- The first of the queues is the least.
use Rattle.std.proofs.Common.{ap, ◌∙◌}
use Rattle.run_owed.specs.Stands.{entered_order}
use Rattle.std.specs.Prelude.{Some}
use Rattle.rt_values.specs.declared.names.ScopeId.{ScopeId}
use Rattle.rt_model.specs.Next.{least}
use Rattle.run_owed.specs.Changes.{owing_by}
use Rattle.run_owed.specs.Orders.{scope_rank, sooner}
use Rattle.run_owed.specs.Owing.{Owing}
use Rattle.run_owed.proofs.Firsts.{none_first, order_first, seen_first}
use Rattle.run_owed.proofs.owed.Owed.first_seen.Goals as goal

pub returns-in_err-order : goal.returns-in_err-order
returns-in_err-order c =
    let by = seen_first (owing_by c.self.inside.told) c.self.inside.queues c.self.inside.next c.self.invariant in
    let none = none_first (entered_order (owing_by c.self.inside.told).scopes) (least (sooner (scope_rank (owing_by c.self.inside.told).scopes)) (owing_by c.self.inside.told).seen) (c.in_err-order.ensures.first ∙ by) in
    record { first = c.from_residual.ensures ∙ none ∙ ap (λ (p : Owing). least (sooner (scope_rank p.scopes)) p.seen) c.self.view_is }

pub returns : goal.returns
returns c =
    let by = seen_first (owing_by c.self.inside.told) c.self.inside.queues c.self.inside.next c.self.invariant in
    let found = order_first (owing_by c.self.inside.told).scopes c.in_ok-order.order (least (sooner (scope_rank (owing_by c.self.inside.told).scopes)) (owing_by c.self.inside.told).seen) (c.in_ok-order.ensures.first ∙ by) in
    record { first = ap (λ (i : ScopeId). Some i.0) c.id.ensures.id ∙ found ∙ ap (λ (p : Owing). least (sooner (scope_rank p.scopes)) p.seen) c.self.view_is }
