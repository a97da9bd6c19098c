use Rattle.std.proofs.Common.{◌≡◌, ◌∷◌, true, ap, sym, ◌∙◌}
use Rattle.std.proofs.lemmas.Bool.{or_left}
use Rattle.rt_sched.specs.Places.{IsInOrder, has_place}
use Rattle.rt_sched.specs.Lines.{Row, standing, AllOnce, who_waits}
use Rattle.rt_sched.proofs.PlaceLemmas.{same_place_itself}
use Rattle.rt_sched.proofs.Seats.{seat_of_place}
use Rattle.rt_sched.proofs.LineLemmas.{line_pop}
use Rattle.rt_sched.proofs.Least.{least_head}
use Rattle.rt_sched.proofs.line.Line.pop_first.Goals as goal

pub invariant_of-self-2 : goal.invariant_of-self-2
invariant_of-self-2 c =
    let is : c.self.inside.tree ≡ c.in_ok-node.node.value.place ∷ c.in_ok-node.others = sym c.replace.ensures.value ∙ c.in_ok-node.ensures.first in
    line_pop (standing c.self.inside.seats) (standing c.bring_home.new.seats) c.self.inside.tree c.in_ok-node.others c.self.inside.arrivals c.in_ok-node.node.value.place c.self.invariant is c.bring_home.ensures.home

pub returns-clause-member : goal.returns-clause-member
returns-clause-member c =
    let x = c.in_ok-node.node.value.place in
    let is : c.self.inside.tree ≡ x ∷ c.in_ok-node.others = sym c.replace.ensures.value ∙ c.in_ok-node.ensures.first in
    let here : has_place x c.self.inside.tree ≡ true = rw is (or_left _ _ (same_place_itself x)) in
    let seat = seat_of_place c.self.inside.seats x (c.self.invariant.seated x here) in
    rw (c.deref.ensures, c.bring_home.ensures.members) seat

pub returns-clause-once : goal.returns-clause-once
returns-clause-once c =
    let x = c.in_ok-node.node.value.place in
    let is : c.self.inside.tree ≡ x ∷ c.in_ok-node.others = sym c.replace.ensures.value ∙ c.in_ok-node.ensures.first in
    let once : AllOnce (x ∷ c.in_ok-node.others) = rw is at c.self.invariant.once in
    rw c.deref.ensures once.0

pub returns-clause-least : goal.returns-clause-least
returns-clause-least c =
    let x = c.in_ok-node.node.value.place in
    let is : c.self.inside.tree ≡ x ∷ c.in_ok-node.others = sym c.replace.ensures.value ∙ c.in_ok-node.ensures.first in
    let ordered : IsInOrder (x ∷ c.in_ok-node.others) = rw is at c.self.invariant.in_order in
    let who : c.args.self.now.waiting ≡ who_waits (x ∷ c.in_ok-node.others) = sym (ap (λ (r : Row). r.waiting) c.self.view_is) ∙ ap who_waits is in
    rw (c.deref.ensures, who) (least_head x c.in_ok-node.others ordered)
