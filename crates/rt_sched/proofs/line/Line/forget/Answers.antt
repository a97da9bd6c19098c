use Rattle.std.proofs.Common.{◌≡◌, ℕ, None, false, refl, ap, sym, ◌∙◌, subst}
use Rattle.rt_sched.specs.Places.{without_place}
use Rattle.rt_sched.specs.Lines.{Row, StandsAt, standing, waits, without_waiting, who_waits}
use Rattle.rt_sched.proofs.LineLemmas.{line_forget, line_remove, not_waiting}
use Rattle.rt_sched.proofs.Waits.{who_waits_without_place, without_waiting_absent}
use Rattle.rt_sched.proofs.line.Line.forget.Goals.{in-Some-1, in-None-1}
use Rattle.rt_sched.proofs.line.Line.forget.Goals as goal

pub invariant_of-self : goal.invariant_of-self
invariant_of-self c =
    let x = c.in-Some.place in
    let stands = c.self.invariant.stands c.args.number x (sym c.in-Some.ensures.place) in
    let others : c.remove-node.result.1 ≡ without_place x c.self.inside.tree = rw c.replace.ensures.value at c.remove-node.ensures.others in
    let gone : StandsAt x.number None (standing c.self.inside.seats) (standing c.take_seat.new.seats) =
    subst (λ (n : ℕ). StandsAt n None (standing c.self.inside.seats) (standing c.take_seat.new.seats)) (sym stands.1) c.take_seat.ensures.stands in
    rw others (line_remove (standing c.self.inside.seats) (standing c.take_seat.new.seats) c.self.inside.tree c.self.inside.arrivals x c.self.invariant stands.0 gone)

pub invariant_of-self-in_default : goal.invariant_of-self-in_default
invariant_of-self-in_default c =
    let absent : waits c.args.number (who_waits c.self.inside.tree) ≡ false =
    not_waiting (standing c.self.inside.seats) c.self.inside.tree c.self.inside.arrivals c.args.number c.self.invariant (sym c.in_default.ensures.place) in
    line_forget (standing c.self.inside.seats) (standing c.take_seat.new.seats) c.self.inside.tree c.self.inside.arrivals c.args.number c.self.invariant absent c.take_seat.ensures.stands

pub returns-in-Some-clause-waiting : goal.returns-in-Some-clause-waiting
returns-in-Some-clause-waiting c =
    let x = c.in-Some.place in
    let stands = c.self.invariant.stands c.args.number x (sym c.in-Some.ensures.place) in
    let others : c.remove-node.result.1 ≡ without_place x c.self.inside.tree = rw c.replace.ensures.value at c.remove-node.ensures.others in
    let who : who_waits c.self.inside.tree ≡ c.args.self.now.waiting = ap (λ (r : Row). r.waiting) c.self.view_is in
    let gone : who_waits c.remove-node.result.1 ≡ without_waiting c.args.number c.args.self.now.waiting =
    rw others (rw (who_waits_without_place x c.self.inside.tree c.self.invariant.once stands.0, stands.1, who) refl) in
    elim c.match-node.branch [ in-Some-1 w ↦ ap (λ (r : Row). r.waiting) w.self-is ∙ gone | in-None-1 w ↦ ap (λ (r : Row). r.waiting) w.self-is ∙ gone ]

pub returns-in_default-clause-waiting : goal.returns-in_default-clause-waiting
returns-in_default-clause-waiting c =
    let who : who_waits c.self.inside.tree ≡ c.args.self.now.waiting = ap (λ (r : Row). r.waiting) c.self.view_is in
    let absent : waits c.args.number c.args.self.now.waiting ≡ false =
    subst (λ es. waits c.args.number es ≡ false) who (not_waiting (standing c.self.inside.seats) c.self.inside.tree c.self.inside.arrivals c.args.number c.self.invariant (sym c.in_default.ensures.place)) in
    who ∙ sym (without_waiting_absent c.args.number c.args.self.now.waiting absent)
