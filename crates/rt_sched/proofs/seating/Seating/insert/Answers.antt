use Rattle.std.proofs.Common.{◌≡◌, ◌++◌, ℕ, cond, eqb, Some, ap, ◌∙◌}
use Rattle.std.specs.Ordering.{nat_cmp}
use Rattle.std.specs.BTreeMap.{get}
use Rattle.rt_lemmas.proofs.Numbers.{ties_back}
use Rattle.rt_sched.specs.Seats.{taken, seat_of}
use Rattle.rt_sched.proofs.Taken.{rises_pushed, none_above, pushed, seated_row, seated_other}
use Rattle.rt_sched.proofs.seating.Seating.insert.Goals as goal

pub invariant_of-self-then-is_above : goal.invariant_of-self-then-is_above
invariant_of-self-then-is_above c =
    let last = rw c.as_slice.ensures.value at (c.is_above.ensures c.if-is_above.true) in
    rw c.in_ok-push.ensures.items (rises_pushed c.self.inside.rows.items c.args.number (Some c.args.seat) last c.self.invariant)

pub returns-then-is_above-clause-ok : goal.returns-then-is_above-clause-ok
returns-then-is_above-clause-ok c =
    λ q.
    let rows = c.self.inside.rows.items in
    let n = c.args.number in
    let last = rw c.as_slice.ensures.value at (c.is_above.ensures c.if-is_above.true) in
    let none = none_above rows n last c.self.invariant in
    ap (λ items. seat_of (taken items ++ c.self.inside.others.entries) q) c.in_ok-push.ensures.items
    ∙ seated_row (taken rows) _ c.self.inside.others.entries n c.args.seat (pushed rows n c.args.seat none) q
    ∙ ap (λ es. cond (eqb q n) (Some c.args.seat) (seat_of es q)) c.self.view_is

pub fill_row-requires : goal.fill_row-requires
fill_row-requires c = record {
  rises = c.self.invariant;
  within = rw (← c.as_slice-2.ensures.value) c.in-Some.ensures.within;
  own = rw (← c.as_slice-2.ensures.value) c.in-Some.ensures.own;
}

pub returns-in-Some-clause-ok : goal.returns-in-Some-clause-ok
returns-in-Some-clause-ok c =
    λ q.
    seated_row (taken c.self.inside.rows.items) (taken c.fill_row.new.rows.items) c.self.inside.others.entries c.args.number c.args.seat c.fill_row.ensures.seated q
    ∙ ap (λ es. cond (eqb q c.args.number) (Some c.args.seat) (seat_of es q)) c.self.view_is

pub returns-in_ok-insert-in-None-clause-ok : goal.returns-in_ok-insert-in-None-clause-ok
returns-in_ok-insert-in-None-clause-ok c =
    λ q.
    let others = c.self.inside.others in
    let put : (k : ℕ) → get nat_cmp c.insert.new.self k ≡ cond (eqb k c.args.number) (Some c.args.seat) (get nat_cmp others k) =
    λ k. c.in_ok-insert-in-None.ensures.updates.0 k ∙ ap (λ b. cond b (Some c.args.seat) (get nat_cmp others k)) (ties_back c.args.number k) in
    seated_other (taken c.self.inside.rows.items) others.entries c.insert.new.self.entries c.args.number c.args.seat (rw c.as_slice-2.ensures.value at c.in-None.ensures.absent) put q
    ∙ ap (λ es. cond (eqb q c.args.number) (Some c.args.seat) (seat_of es q)) c.self.view_is
