-- A member that isn't there goes where the search says.
use Rattle.std.proofs.Common.{◌∙◌, sym, ap, cond}
use Rattle.std.specs.BTreeSet.{insert_key}
use Rattle.rt_cells.specs.Orders.{context_cmp}
use Rattle.rt_cells.proofs.Exact.{context_total}
use Rattle.rt_cells.proofs.InOrder.{sorted_inserted}
use Rattle.rt_cells.proofs.Members.{inserted_at, found_at}
use Rattle.rt_cells.proofs.subscribers.Subscribers.add.Goals as goal

pub invariant_of-self : goal.invariant_of-self
invariant_of-self c =
    rw (c.in_ok-insert.ensures.items
    ∙ (rw c.deref.ensures.value at (inserted_at context_total c.deref.result.now c.args.context c.in-Err.at (rw c.deref.ensures.value c.self.invariant) c.in-Err.ensures.position c.in-Err.ensures.bound)))
    (sorted_inserted context_total c.self.inside.members.items c.args.context c.self.invariant)

pub returns-in_ok-insert-clause-ok : goal.returns-in_ok-insert-clause-ok
returns-in_ok-insert-clause-ok c =
    let placed = c.in_ok-insert.ensures.items
    ∙ (rw c.deref.ensures.value at (inserted_at context_total c.deref.result.now c.args.context c.in-Err.at (rw c.deref.ensures.value c.self.invariant) c.in-Err.ensures.position c.in-Err.ensures.bound)) in
    rw (← c.self.view_is)
    ((λ i. record { members = placed i; listens = c.self.inside.listens })
    ∙ ap (λ listens. cond listens (record { members = insert_key context_cmp c.self.inside.members.items c.args.context; listens = c.self.inside.listens })
    (record { members = c.self.inside.members.items; listens = c.self.inside.listens })) (sym c.if-not-self.false))

pub returns-in_default-clause-ok : goal.returns-in_default-clause-ok
returns-in_default-clause-ok c =
    let there = rw c.deref.ensures.value at (found_at context_total c.deref.result.now c.args.context c.in_default.field-0 (rw c.deref.ensures.value c.self.invariant) c.in_default.ensures.position c.in_default.ensures.bound) in
    rw (← c.self.view_is)
    ((λ i. record { members = sym there i; listens = c.self.inside.listens })
    ∙ ap (λ listens. cond listens (record { members = insert_key context_cmp c.self.inside.members.items c.args.context; listens = c.self.inside.listens })
    (record { members = c.self.inside.members.items; listens = c.self.inside.listens })) (sym c.if-not-self.false))
