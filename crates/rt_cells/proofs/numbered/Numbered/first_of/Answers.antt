-- The scan's first find.
use Rattle.std.proofs.Common.{◌∙◌, sym, ap, map}
use Rattle.std.specs.List.{take_while}
use Rattle.rt_cells.specs.Orders.{same_scope}
use Rattle.rt_cells.proofs.NumbersOf.{numbers_found, first_found}
use Rattle.rt_cells.proofs.numbered.Numbered.first_of.Goals as goal

pub returns-in_err-owned-clause-first : goal.returns-in_err-owned-clause-first
returns-in_err-owned-clause-first g c = rw (← c.self.view_is)
    (c.from_residual.ensures
    ∙ (first_found c.args.owner c.range.result _
    (ap (λ met. map (λ owned. owned.1) (take_while (λ owned. same_scope c.args.owner owned.0) met)) (c.range.ensures.between tt)
    ∙ numbers_found c.self.inside.held.entries c.self.inside.owners.keys c.self.inside.next c.args.owner c.self.invariant c.range.ensures.ordered)).0
    c.in_err-owned.ensures.steps.0)

pub returns-then-eq-clause-first : goal.returns-then-eq-clause-first
returns-then-eq-clause-first g c = rw (← c.self.view_is)
    ((first_found c.args.owner c.range.result _
    (ap (λ met. map (λ owned. owned.1) (take_while (λ owned. same_scope c.args.owner owned.0) met)) (c.range.ensures.between tt)
    ∙ numbers_found c.self.inside.held.entries c.self.inside.owners.keys c.self.inside.next c.args.owner c.self.invariant c.range.ensures.ordered)).1
    c.in_ok-owned.owned.now c.next.new.self c.in_ok-owned.ensures.steps (sym c.eq.ensures ∙ c.if-eq.true))

pub returns-else-eq-clause-first : goal.returns-else-eq-clause-first
returns-else-eq-clause-first g c = rw (← c.self.view_is)
    ((first_found c.args.owner c.range.result _
    (ap (λ met. map (λ owned. owned.1) (take_while (λ owned. same_scope c.args.owner owned.0) met)) (c.range.ensures.between tt)
    ∙ numbers_found c.self.inside.held.entries c.self.inside.owners.keys c.self.inside.next c.args.owner c.self.invariant c.range.ensures.ordered)).2
    c.in_ok-owned.owned.now c.next.new.self c.in_ok-owned.ensures.steps (sym c.eq.ensures ∙ c.if-eq.false))
