-- Where none is ready the lines change places.
use Rattle.std.proofs.Common.{◌≡◌, [], ap, sym, ◌∙◌}
use Rattle.rt_sched.specs.Lines.{Row}
use Rattle.rt_sched.specs.Rosters.{Roster, all_waiting}
use Rattle.rt_sched.proofs.RollLemmas.{lines_ready, lines_posted, under_all}
use Rattle.rt_sched.proofs.roll.Roll.look.Goals as goal

pub invariant_of-self : goal.invariant_of-self
invariant_of-self c =
    let lines = c.self.invariant in
    record {
      entered_members = lines.entered_members;
      ready_members = rw c.swap.ensures.x_after lines.posted_members;
      posted_members = rw c.swap.ensures.y_after lines.ready_members;
      entered_under = lines.entered_under;
      ready_under = rw c.swap.ensures.x_after lines.posted_under;
      posted_under = rw c.swap.ensures.y_after lines.ready_under;
    }

pub returns-then-is_empty : goal.returns-then-is_empty
returns-then-is_empty c =
    let e = c.self.inside.entered in
    let r = c.self.inside.ready in
    let p = c.self.inside.posted in
    let none : r.waiting ≡ [] = c.is_empty.ensures.empty.0 c.if-is_empty.true in
    let ready : c.swap.new.x.waiting ≡ all_waiting p.waiting r.waiting =
    ap (λ (row : Row). row.waiting) c.swap.ensures.x_after ∙ sym c.comes_so.ensures.so ∙ ap (all_waiting p.waiting) (sym none) in
    let posted : c.swap.new.y.waiting ≡ [] = ap (λ (row : Row). row.waiting) c.swap.ensures.y_after ∙ none in
    record {
      looked =
          (λ i. record { entered = e.waiting; ready = ready i; posted = posted i })
          ∙ ap (λ (o : Roster). record o { ready = all_waiting o.posted o.ready; posted = [] }) c.self.view_is;
    }

pub invariant_of-self-2 : goal.invariant_of-self-2
invariant_of-self-2 c =
    let e = c.self.inside.entered in
    let r = c.self.inside.ready in
    let p = c.self.inside.posted in
    let lines = c.self.invariant in
    let posted = lines_posted e r p c.move_all.new.from lines (ap (λ (row : Row). row.members) c.move_all.ensures.from) (rw c.move_all.ensures.from tt) in
    lines_ready e r c.move_all.new.from c.move_all.new.to posted (ap (λ (row : Row). row.members) c.move_all.ensures.to) (rw c.move_all.ensures.to (under_all e.waiting p.waiting r.waiting lines.posted_under lines.ready_under))
