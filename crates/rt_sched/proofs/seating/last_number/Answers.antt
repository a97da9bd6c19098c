use Rattle.std.proofs.Common.{◌≡◌, ◌-◌, length, get_or, ap, sym, ◌∙◌, arith}
use Rattle.rt_sched.proofs.seating.last_number.Goals as goal

pub returns-in-Some-clause-last : goal.returns-in-Some-clause-last
returns-in-Some-clause-last c =
    λ k d ends.
    let here : length c.args.rows.now - 1 ≡ k = omega (arith, ends) in
    ap (λ r. r.0) (ap (λ j. get_or c.args.rows.now j d) (sym here) ∙ sym (c.in-Some.ensures.item.3.1 d))

pub returns-in-None-clause-none : goal.returns-in-None-clause-none
returns-in-None-clause-none c = omega (arith, c.in-None.ensures.item.3)
