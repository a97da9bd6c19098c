use Rattle.std.proofs.Common.{◌≡◌, true, false, None, refl, ap, ◌∙◌, subst}
use Rattle.rt_sched.specs.Seats.{members_of}
use Rattle.rt_sched.specs.Places.{with_place}
use Rattle.rt_sched.specs.Lines.{Row, standing, who_waits, has_number, waits, with_last}
use Rattle.rt_sched.specs.declared.place.Place.{Place}
use Rattle.rt_sched.proofs.LineLemmas.{line_push, line_same, not_waiting, is_waiting}
use Rattle.rt_sched.proofs.Seats.{at_home, in_line}
use Rattle.rt_sched.proofs.Waits.{who_waits_with_place}
use Rattle.rt_sched.proofs.line.Line.push.Goals as goal

pub invariant_of-self : goal.invariant_of-self
invariant_of-self c =
    let next = c.next_arrival-self-inside in
    let x : Place = record { order = c.args.order; arrival = next.result; number = c.args.number } in
    let placed : c.insert.result ≡ with_place x next.new.tree = rw c.replace.ensures.value at c.insert.ensures.placed in
    let member : has_number c.args.number (members_of next.new.seats) ≡ true = rw (next.ensures.members, ap (λ (r : Row). r.members) c.self.view_is) c.requires.member in
    let home : standing next.new.seats c.args.number ≡ None = at_home _ (c.in-Some.ensures.was_home member) in
    let absent : waits c.args.number (who_waits next.new.tree) ≡ false = not_waiting (standing next.new.seats) next.new.tree next.result c.args.number next.ensures.line home in
    rw placed (line_push (standing next.new.seats) (standing c.leave_home.new.seats) next.new.tree next.result x next.ensures.line refl absent c.in-Some.ensures.stands)

pub invariant_of-self-in_default : goal.invariant_of-self-in_default
invariant_of-self-in_default c =
    let next = c.next_arrival-self-inside in
    line_same (standing next.new.seats) (standing c.leave_home.new.seats) next.new.tree next.result next.ensures.line c.in_default.ensures.stays

pub returns-in-Some : goal.returns-in-Some
returns-in-Some c =
    let next = c.next_arrival-self-inside in
    let x : Place = record { order = c.args.order; arrival = next.result; number = c.args.number } in
    let placed : c.insert.result ≡ with_place x next.new.tree = rw c.replace.ensures.value at c.insert.ensures.placed in
    let members : members_of c.leave_home.new.seats ≡ c.args.self.now.members = c.in-Some.ensures.members ∙ next.ensures.members ∙ ap (λ (r : Row). r.members) c.self.view_is in
    let member : has_number c.args.number (members_of next.new.seats) ≡ true = rw (next.ensures.members, ap (λ (r : Row). r.members) c.self.view_is) c.requires.member in
    let home : standing next.new.seats c.args.number ≡ None = at_home _ (c.in-Some.ensures.was_home member) in
    let who : who_waits next.new.tree ≡ c.args.self.now.waiting = next.ensures.waiting ∙ ap (λ (r : Row). r.waiting) c.self.view_is in
    let absent : waits c.args.number c.args.self.now.waiting ≡ false = subst (λ es. waits c.args.number es ≡ false) who (not_waiting (standing next.new.seats) next.new.tree next.result c.args.number next.ensures.line home) in
    let after : who_waits c.insert.result ≡ with_last c.args.order c.args.number c.args.self.now.waiting = rw placed (rw (who_waits_with_place x next.new.tree next.ensures.line.below, who) refl) in
    record { waits = rw (members, after, absent) refl }

pub returns-in_default : goal.returns-in_default
returns-in_default c =
    let next = c.next_arrival-self-inside in
    let members : members_of c.leave_home.new.seats ≡ c.args.self.now.members = c.in_default.ensures.members ∙ next.ensures.members ∙ ap (λ (r : Row). r.members) c.self.view_is in
    let member : has_number c.args.number (members_of next.new.seats) ≡ true = rw (next.ensures.members, ap (λ (r : Row). r.members) c.self.view_is) c.requires.member in
    let stood = in_line _ (c.in_default.ensures.was_home member) in
    let who : who_waits next.new.tree ≡ c.args.self.now.waiting = next.ensures.waiting ∙ ap (λ (r : Row). r.waiting) c.self.view_is in
    let here : waits c.args.number c.args.self.now.waiting ≡ true = subst (λ es. waits c.args.number es ≡ true) who (is_waiting (standing next.new.seats) next.new.tree next.result c.args.number stood.0 next.ensures.line stood.1) in
    record { waits = rw (members, who, here) refl }
