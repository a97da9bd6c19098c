-- The last row of those that begin at the scope.
use Rattle.std.proofs.Common.{◌∙◌, ◌≤◌, ap, length, subst, sym}
use Rattle.rt_scopes.specs.Knowing.{front_of}
use Rattle.rt_scopes.proofs.KnownLeft.{taken_front, taken_own, taken_within}
use Rattle.rt_scopes.proofs.going.Known.resumed.Goals as goal

pub returns-then-begins_at-clause-own : goal.returns-then-begins_at-clause-own
returns-then-begins_at-clause-own c = taken_own c.args.self.now.rows.items c.pop.new.self.items c.pop.result c.pop.ensures.items

pub returns-then-begins_at-clause-begins : goal.returns-then-begins_at-clause-begins
returns-then-begins_at-clause-begins c =
    taken_front c.args.self.now.rows.items c.pop.new.self.items c.pop.result c.args.scope c.pop.ensures.items
    (λ t. ap (λ rows. front_of rows t) (sym c.as_slice.ensures.value) ∙ c.begins_at.ensures.begins c.if-begins_at.true t)

pub returns-then-begins_at-clause-within : goal.returns-then-begins_at-clause-within
returns-then-begins_at-clause-within c =
    taken_within c.args.self.now.rows.items c.pop.new.self.items c.pop.result c.args.count c.pop.ensures.items
    (subst (λ rows. length rows ≤ c.args.count) c.as_slice.ensures.value (c.begins_at.ensures.within c.if-begins_at.true))
