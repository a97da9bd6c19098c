use Rattle.std.proofs.Common.{◌≡◌, ◌+◌, length, ap, sym, ◌∙◌, arith}
use Rattle.std.proofs.lemmas.List.{length-append}
use Rattle.rt_sched.specs.Seats.{taken}
use Rattle.rt_sched.proofs.Taken.{no_more}
use Rattle.rt_sched.proofs.seating.Seating.room.Goals as goal

pub returns-clause-all : goal.returns-clause-all
returns-clause-all c =
    let rows = c.self.inside.rows in
    let others = c.self.inside.others.entries in
    let few = no_more rows.items in
    let all : length c.args.self.now ≡ length (taken rows.items) + length others = ap length (sym c.self.view_is) ∙ length-append (taken rows.items) others in
    omega (arith, few, all, c.len.ensures, rows.ok.0, c.len-2.ensures.len)
