use Rattle.std.proofs.Common.{◌++◌, Some, ap, subst, sym, ◌∙◌}
use Rattle.std.specs.Prelude.{is_some}
use Rattle.rt_sched.specs.Seats.{taken, seat_of, members_of, IsSeated}
use Rattle.rt_sched.proofs.Taken.{at_row, found_here, found_other, same_members, members_row, members_other, seated_row, seated_other, same_other, if_all, if_some, if_none, not_none}
use Rattle.rt_sched.proofs.seating.Seating.exchange.Goals as goal

pub change_row-requires : goal.change_row-requires
change_row-requires c = record {
  rises = c.self.invariant;
  within = rw (← c.as_slice.ensures.value) c.in-Some.ensures.within;
  own = rw (← c.as_slice.ensures.value) c.in-Some.ensures.own;
}

pub returns-in-Some-clause-former : goal.returns-in-Some-clause-former
returns-in-Some-clause-former c =
    let has = rw c.as_slice.ensures.value at c.in-Some.ensures.has in
    found_here (taken c.self.inside.rows.items) c.self.inside.others.entries c.args.self.now c.args.number c.change_row.result (ap is_some c.change_row.ensures.former ∙ has) c.change_row.ensures.former c.self.view_is

pub returns-in-Some-clause-members : goal.returns-in-Some-clause-members
returns-in-Some-clause-members c =
    let rows = c.self.inside.rows.items in
    let within = rw c.as_slice.ensures.value at c.in-Some.ensures.within in
    let own = rw c.as_slice.ensures.value at c.in-Some.ensures.own in
    let has = rw c.as_slice.ensures.value at c.in-Some.ensures.has in
    let same = same_members rows c.in-Some.index c.args.number c.args.seat within own (λ d. ap is_some (at_row rows 0 c.in-Some.index c.args.number within own c.self.invariant d) ∙ has) in
    members_row (taken rows) (taken c.change_row.new.rows.items) c.self.inside.others.entries (ap (λ items. members_of (taken items)) c.change_row.ensures.set ∙ same) ∙ ap members_of c.self.view_is

pub returns-in-Some-clause-seated : goal.returns-in-Some-clause-seated
returns-in-Some-clause-seated c =
    let now = seated_row (taken c.self.inside.rows.items) (taken c.change_row.new.rows.items) c.self.inside.others.entries c.args.number c.args.seat c.change_row.ensures.seated in
    if_all c.change_row.result (subst (λ es. IsSeated c.args.number (Some c.args.seat) es (taken c.change_row.new.rows.items ++ c.self.inside.others.entries)) c.self.view_is now)

pub returns-in-Some-clause-absent : goal.returns-in-Some-clause-absent
returns-in-Some-clause-absent c = not_none c.change_row.result _ (ap is_some c.change_row.ensures.former ∙ rw c.as_slice.ensures.value at c.in-Some.ensures.has)

pub returns-in-None-clause-former : goal.returns-in-None-clause-former
returns-in-None-clause-former c =
    found_other (taken c.self.inside.rows.items) c.self.inside.others.entries c.args.self.now c.args.number c.exchange_other.result (sym (rw c.as_slice.ensures.value at c.in-None.ensures.absent)) c.exchange_other.ensures.former c.self.view_is

pub returns-in-None-clause-members : goal.returns-in-None-clause-members
returns-in-None-clause-members c =
    members_other (taken c.self.inside.rows.items) c.self.inside.others.entries c.exchange_other.new.others.entries c.exchange_other.ensures.members ∙ ap members_of c.self.view_is

pub returns-in-None-clause-seated : goal.returns-in-None-clause-seated
returns-in-None-clause-seated c =
    let rows = taken c.self.inside.rows.items in
    let new = c.exchange_other.new.others.entries in
    if_some c.exchange_other.result
    (λ now. subst (λ es. IsSeated c.args.number (Some c.args.seat) es (rows ++ new)) c.self.view_is
    (seated_other rows c.self.inside.others.entries new c.args.number c.args.seat (rw c.as_slice.ensures.value at c.in-None.ensures.absent) now))
    c.exchange_other.ensures.seated

pub returns-in-None-clause-absent : goal.returns-in-None-clause-absent
returns-in-None-clause-absent c =
    if_none c.exchange_other.result
    (λ same q. same_other (taken c.self.inside.rows.items) c.self.inside.others.entries c.exchange_other.new.others.entries same q ∙ ap (λ es. seat_of es q) c.self.view_is)
    c.exchange_other.ensures.absent
