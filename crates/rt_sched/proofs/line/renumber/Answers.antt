use Rattle.std.proofs.Common.{◌≡◌, [], ◌∷◌, ◌≤◌, length, refl, sym, ◌∙◌, arith}
use Rattle.std.proofs.lemmas.Map.Entries.{length-keys_of}
use Rattle.rt_sched.specs.Seats.{members_of}
use Rattle.rt_sched.specs.Places.{with_place}
use Rattle.rt_sched.specs.Lines.{standing}
use Rattle.rt_sched.specs.declared.place.Place.{Place}
use Rattle.rt_sched.proofs.Renumbered.{IsRenumbering, renumber_start, renumber_next, renumber_end, who_waits_next, who_waits_end, next_is_member, no_more_than_members, none_left}
use Rattle.rt_sched.proofs.line.renumber.Goals as goal
use Rattle.rt_sched.proofs.line.renumber.Goals.{After-loop-arrival, else-loop-arrival-test, then-loop-arrival-test+in_default}

pub loop-arrival-init : goal.loop-arrival-init
loop-arrival-init c =
    rw c.new-done.ensures.empty (record { members = refl; waiting = refl; line = renumber_start (standing c.args.seats.now) c.args.tree.now _ c.requires.line })

pub loop-arrival-preserved : goal.loop-arrival-preserved
loop-arrival-preserved c =
    let at = c.loop-arrival in
    let x = c.in-Some.node.value.place in
    let y : Place = record x { arrival = at.arrival } in
    let is : at.tree ≡ x ∷ c.in-Some.others = sym c.replace.ensures.value ∙ c.in-Some.ensures.first in
    let line : IsRenumbering (standing at.seats) at.done (x ∷ c.in-Some.others) at.arrival = rw is at at.invariant.line in
    let member = next_is_member at.seats at.done x c.in-Some.others at.arrival line in
    let stands = rw c.deref.ensures at c.stand_at.ensures.stands in
    let stood = stands member in
    let placed : c.insert-done.result ≡ with_place y at.done = rw c.deref.ensures at c.insert-done.ensures.placed in
    record {
      members = c.stand_at.ensures.members ∙ at.invariant.members;
      waiting = rw placed (who_waits_next (standing at.seats) at.done x y c.in-Some.others at.arrival line refl refl refl ∙ rw is at at.invariant.waiting);
      line = rw placed (renumber_next (standing at.seats) (standing c.stand_at.new.seats) at.done x y c.in-Some.others at.arrival line refl refl refl stood);
    }

-- nobody is left to be counted
none_is_left : (c : goal.Joined-tree-done) → c.loop-arrival.tree ≡ []
none_is_left c =
    let at = c.loop-arrival in
    let members : length (members_of at.seats) ≤ c.room-members.result = rw (at.invariant.members, length-keys_of c.args.seats.now) c.room-members.ensures.all in
    elim c.loop-arrival-test.branch [
      | else-loop-arrival-test w ↦
          let all : length at.done ≡ c.room-members.result = omega (arith, at.invariant.line.counted, at.auto.arrival-end, w.loop-arrival-test.false) in
          let few = no_more_than_members at.seats at.done at.tree at.arrival at.invariant.line in
          none_left at.done at.tree c.room-members.result all (omega (arith, few, members))
      | then-loop-arrival-test+in_default w ↦ sym w.replace.ensures.value ∙ w.in_default.ensures.first
    ]

pub returns-clause-waiting : goal.returns-clause-waiting
returns-clause-waiting c =
    let at = c.loop-arrival in sym (who_waits_end at.done at.tree (none_is_left c)) ∙ at.invariant.waiting

pub returns-clause-line : goal.returns-clause-line
returns-clause-line c =
    let at = c.loop-arrival in
    renumber_end (standing at.seats) at.done at.tree at.arrival c.room-members.result at.invariant.line (none_is_left c) at.auto.arrival-end
