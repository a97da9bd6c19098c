-- Among the few, as long as there is room, or among the others.
use Rattle.std.proofs.Common.{◌∙◌, not, ap, sym}
use Rattle.rt_model.specs.Lists.{has}
use Rattle.run_shown.proofs.Members.{in_already, in_few, in_few_then, in_rest, in_rest_then, is_in, is_in_then}
use Rattle.run_shown.proofs.scope_set.ScopeSet.put.Goals as goal

pub returns-then-is_among-clause-fresh : goal.returns-then-is_among-clause-fresh
returns-then-is_among-clause-fresh c =
    rw (← c.self.view_is) (sym (ap not (in_few c.self.inside.few.items c.self.inside.numbers.keys c.args.scope (ap (λ xs. has xs c.args.scope) (sym c.as_slice.ensures.value) ∙ sym c.is_among.ensures ∙ c.if-is_among.true))))

pub returns-then-is_among-clause-all : goal.returns-then-is_among-clause-all
returns-then-is_among-clause-all c = λ other.
    rw (← c.self.view_is) (in_already _ c.args.scope other (in_few c.self.inside.few.items c.self.inside.numbers.keys c.args.scope (ap (λ xs. has xs c.args.scope) (sym c.as_slice.ensures.value) ∙ sym c.is_among.ensures ∙ c.if-is_among.true)))

pub returns-then-has_room-clause-fresh : goal.returns-then-has_room-clause-fresh
returns-then-has_room-clause-fresh c =
    rw (← c.self.view_is)
    (sym (ap not
    (in_rest c.self.inside.few.items c.self.inside.numbers.keys c.args.scope (ap (λ xs. has xs c.args.scope) (sym c.as_slice.ensures.value) ∙ sym c.is_among.ensures ∙ c.if-is_among.false)
    ∙ ap (λ ks. has ks c.args.scope) (c.has_room.ensures c.if-has_room.true))))

pub returns-then-has_room-clause-all : goal.returns-then-has_room-clause-all
returns-then-has_room-clause-all c = λ other.
    rw (← c.self.view_is)
    (in_few_then c.self.inside.few.items c.self.inside.numbers.keys c.push.new.self.items c.args.scope other (c.has_room.ensures c.if-has_room.true) c.in_ok-push.ensures.items)

pub returns-clause-fresh : goal.returns-clause-fresh
returns-clause-fresh c =
    rw (← c.self.view_is)
    (c.in_ok-fresh.ensures.added
    ∙ ap not
    (is_in c.self.inside.numbers.keys c.args.scope
    ∙ sym (in_rest c.self.inside.few.items c.self.inside.numbers.keys c.args.scope (ap (λ xs. has xs c.args.scope) (sym c.as_slice.ensures.value) ∙ sym c.is_among.ensures ∙ c.if-is_among.false))))

pub returns-clause-all : goal.returns-clause-all
returns-clause-all c = λ other.
    rw (← c.self.view_is)
    (in_rest_then c.self.inside.few.items c.self.inside.numbers.keys c.insert.new.self.keys c.args.scope other
    (is_in_then c.self.inside.numbers.keys c.insert.new.self.keys c.args.scope other (c.in_ok-fresh.ensures.updates.0 other)))
