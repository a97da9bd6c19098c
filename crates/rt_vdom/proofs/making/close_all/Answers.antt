-- What the removal of all scopes came to.
use Rattle.std.proofs.Common.{Some, sym, ap, ◌∙◌}
use Rattle.rt_vdom.proofs.Ran.{closed_cut}
use Rattle.rt_vdom.proofs.making.close_all.Goals as goal

pub returns-in-Ok-clause-closed : goal.returns-in-Ok-clause-closed
returns-in-Ok-clause-closed g c = λ limits opened kept. let came = c.in-Ok.ensures.closed kept in (_, came.1)

pub returns-in-Err-clause-closed : goal.returns-in-Err-clause-closed
returns-in-Err-clause-closed g c =
    λ limits opened fault why kept.
    let came = c.in-Err.ensures.closed kept in
    closed_cut _ _ c.in-Err.stop fault came.1 (sym c.fault.ensures.of ∙ why)

pub returns-in-Failed-clause-closed : goal.returns-in-Failed-clause-closed
returns-in-Failed-clause-closed g c = λ limits opened. absurd (opened c.in-Failed.is)

pub returns-in-Err-clause-caused : goal.returns-in-Err-clause-caused
returns-in-Err-clause-caused g c = λ limits. c.fault.ensures.causes limits 0 0 tt
