-- A new thing is tied to its scope; a refused one leaves the pairs as they were.
use Rattle.rt_cells.proofs.Indexed.{indexed_more}
use Rattle.std.proofs.Common.{◌∙◌}
use Rattle.rt_cells.proofs.Untied.{taken_back}
use Rattle.rt_cells.proofs.Lasting.{comes_last}
use Rattle.rt_cells.proofs.numbered.Numbered.insert.Goals as goal

pub invariant_of-self-in_default-insert-2 : goal.invariant_of-self-in_default-insert-2
invariant_of-self-in_default-insert-2 g c =
    rw c.in_default-insert-2.ensures.err
    (taken_back c.self.invariant (c.args.owner, c.self.inside.next) _ _ c.in-Ok.ensures.updates.0 c.remove.ensures.updates.0
    c.in_default-insert-2.ensures.absent)

pub invariant_of-self-2 : goal.invariant_of-self-2
invariant_of-self-2 g c =
    indexed_more c.self.invariant (record { owner = c.args.owner; value = c.args.value }) _ _ _ c.in-Some.ensures.1
    c.in-Ok.ensures.updates.0 c.in-Ok-insert.ensures.updates.0 c.in-Ok-insert.ensures.ordered

pub returns-clause-ok : goal.returns-clause-ok
returns-clause-ok g c = rw (← c.self.view_is)
    (λ i. record { held = c.in-Ok-insert.ensures.entries i; next = c.in-Some.ensures.1 i })

pub returns-clause-last : goal.returns-clause-last
returns-clause-last g c = rw (← c.self.view_is)
    (c.in-Ok-insert.ensures.entries
    ∙ comes_last c.self.inside.held.entries c.self.inside.next (record { owner = c.args.owner; value = c.args.value }) c.self.invariant.below)
