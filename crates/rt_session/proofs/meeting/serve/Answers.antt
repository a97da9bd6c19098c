-- One drain, or the end.
use Rattle.std.proofs.Common.{refl, inl}
use Rattle.std.proofs.lemmas.Result.{err_from_is_err_and}
use Rattle.rt_session.proofs.Going.{wants}
use Rattle.rt_session.proofs.Keeping.{taken_ended, taken_more}
use Rattle.rt_session.proofs.meeting.serve.Goals as goal

pub take_drained-requires : goal.take_drained-requires
take_drained-requires g c = record { few = c.in_ok-messages.ensures.most.0 }

pub returns-in_err-messages-clause-own : goal.returns-in_err-messages-clause-own
returns-in_err-messages-clause-own g c = c.in_err-messages.ensures.own

pub returns-in_err-messages-clause-takes : goal.returns-in_err-messages-clause-takes
returns-in_err-messages-clause-takes g c = λ props before faults awaits.
    let p = err_from_is_err_and c.from_residual.result c.from_residual.ensures.1 in
    rw (p.1, p.2) (wants (g.A.App.meaning c.args.app.now) c.args.limits props before faults _ _ c.args.sitting.now awaits)

pub returns-in_err-messages-clause-taken : goal.returns-in_err-messages-clause-taken
returns-in_err-messages-clause-taken g c = λ start.
    let p = err_from_is_err_and c.from_residual.result c.from_residual.ensures.1 in
    rw (p.1, p.2) (inl refl)

pub returns-in_err-take_drained-clause-own : goal.returns-in_err-take_drained-clause-own
returns-in_err-take_drained-clause-own g c = c.in_ok-messages.ensures.own

pub returns-in_err-take_drained-clause-takes : goal.returns-in_err-take_drained-clause-takes
returns-in_err-take_drained-clause-takes g c = λ props before faults awaits.
    let p = err_from_is_err_and c.from_residual-in_err-take_drained.result c.from_residual-in_err-take_drained.ensures.1 in
    rw (p.1, p.2) (c.in_err-take_drained.ensures.takes props before faults awaits)

pub returns-in_err-take_drained-clause-taken : goal.returns-in_err-take_drained-clause-taken
returns-in_err-take_drained-clause-taken g c = λ start.
    let p = err_from_is_err_and c.from_residual-in_err-take_drained.result c.from_residual-in_err-take_drained.ensures.1 in
    rw (p.1, p.2)
    (taken_ended c.args.owner.now c.drain.new.self c.args.sitting.now.drains c.take_drained.new.self.drains c.in_ok-messages.field-0.messages c.in_err-take_drained.field-0.0 start c.in_ok-messages.ensures.taken
    c.in_err-take_drained.ensures.keeps)

pub returns-clause-own : goal.returns-clause-own
returns-clause-own g c = c.in_ok-messages.ensures.own

pub returns-clause-takes : goal.returns-clause-takes
returns-clause-takes g c = c.in_ok-take_drained.ensures.takes

pub returns-clause-taken : goal.returns-clause-taken
returns-clause-taken g c = λ start.
    taken_more c.args.owner.now c.drain.new.self c.args.sitting.now.drains c.take_drained.new.self.drains c.in_ok-messages.field-0.messages start c.in_ok-messages.ensures.taken
    c.in_ok-take_drained.ensures.keeps
