use Rattle.std.proofs.Common.{◌≡◌, false, refl, ap, sym, ◌∙◌, subst}
use Rattle.rt_sched.specs.Seats.{members_of}
use Rattle.rt_sched.specs.Places.{without_place}
use Rattle.rt_sched.specs.Lines.{Row, standing, waits, without_waiting, who_waits}
use Rattle.rt_sched.proofs.LineLemmas.{line_remove, not_waiting}
use Rattle.rt_sched.proofs.Waits.{who_waits_without_place, without_waiting_absent}
use Rattle.rt_sched.proofs.line.Line.remove.Goals as goal

pub invariant_of-self : goal.invariant_of-self
invariant_of-self c =
    let x = c.in-Some.place in
    let stands = c.self.invariant.stands c.args.number x (sym c.in-Some.ensures.place) in
    let at : c.in-Some-found.node.value.place ≡ x = rw c.in-Some-found.is at c.remove-found.ensures.node in
    let others : c.remove-found.result.1 ≡ without_place x c.self.inside.tree = rw c.replace.ensures.value at c.remove-found.ensures.others in
    rw others (line_remove (standing c.self.inside.seats) (standing c.bring_home.new.seats) c.self.inside.tree c.self.inside.arrivals x c.self.invariant stands.0 (rw at at c.bring_home.ensures.home))

pub returns-in-Some-found : goal.returns-in-Some-found
returns-in-Some-found c =
    let x = c.in-Some.place in
    let stands = c.self.invariant.stands c.args.number x (sym c.in-Some.ensures.place) in
    let others : c.remove-found.result.1 ≡ without_place x c.self.inside.tree = rw c.replace.ensures.value at c.remove-found.ensures.others in
    let who : who_waits c.self.inside.tree ≡ c.args.self.now.waiting = ap (λ (r : Row). r.waiting) c.self.view_is in
    let members : members_of c.bring_home.new.seats ≡ c.args.self.now.members = c.bring_home.ensures.members ∙ ap (λ (r : Row). r.members) c.self.view_is in
    let gone : who_waits c.remove-found.result.1 ≡ without_waiting c.args.number c.args.self.now.waiting = rw others (rw (who_waits_without_place x c.self.inside.tree c.self.invariant.once stands.0, stands.1, who) refl) in
    record { gone = rw (members, gone) refl }

pub returns-in_default : goal.returns-in_default
returns-in_default c =
    let who : who_waits c.self.inside.tree ≡ c.args.self.now.waiting = ap (λ (r : Row). r.waiting) c.self.view_is in
    let absent : waits c.args.number c.args.self.now.waiting ≡ false = subst (λ es. waits c.args.number es ≡ false) who (not_waiting (standing c.self.inside.seats) c.self.inside.tree c.self.inside.arrivals c.args.number c.self.invariant (sym c.in_default.ensures.place)) in
    record { gone = rw (without_waiting_absent c.args.number c.args.self.now.waiting absent) refl }
