-- A drain is taken in, or the session ends there.
use Rattle.std.proofs.Common.{refl, inl, inr, ◌∙◌, ◌++◌, ◌∷◌, [], ap, rules}
use Rattle.std.proofs.lemmas.Result.{err_from_is_err_and}
use Rattle.rt_session.proofs.Going.{ceases, goes_on, wants, wants_with}
use Rattle.rt_session.proofs.sitting.Sitting.take.Goals as goal

pub returns-in_err-kept-clause-takes : goal.returns-in_err-kept-clause-takes
returns-in_err-kept-clause-takes g c = λ props before faults awaits.
    let p = err_from_is_err_and c.from_residual.result c.from_residual.ensures.1 in
    rw (p.1, p.2) (wants (g.A.App.meaning c.args.app.now) c.args.limits props before faults _ _ c.args.self.now awaits)

pub returns-in_err-push-clause-takes : goal.returns-in_err-push-clause-takes
returns-in_err-push-clause-takes g c = λ props before faults awaits.
    let p = err_from_is_err_and c.from_residual-in_err-push.result c.from_residual-in_err-push.ensures.1 in
    rw (p.1, p.2) (wants_with (g.A.App.meaning c.args.app.now) c.args.limits props before faults _ _ c.args.self.now c.push.new.self c.in_err-push.ensures.err awaits)

pub returns-in_err-self-clause-takes : goal.returns-in_err-self-clause-takes
returns-in_err-self-clause-takes g c = λ props before faults awaits.
    let p = err_from_is_err_and c.from_residual-in_err-self.result c.from_residual-in_err-self.ensures.1 in
    rw (p.1, p.2)
    (ceases (g.A.App.meaning c.args.app.now) c.args.limits props before faults _ _ _ _ c.args.self.now _ c.args.messages _ awaits c.in_err-self.ensures.steps c.in_err-self.ensures.err
    (c.in_ok-push.ensures.ok ∙ ap (λ d. c.args.self.now.drains ++ d ∷ []) (search rules)) c.requires.some c.requires.few)

pub returns-clause-takes : goal.returns-clause-takes
returns-clause-takes g c = λ props before faults awaits.
    goes_on (g.A.App.meaning c.args.app.now) c.args.limits props before faults _ _ _ _ c.args.self.now _ c.args.messages awaits c.in_ok-self.ensures.steps c.in_ok-self.ensures.took
    (c.in_ok-push.ensures.ok ∙ ap (λ d. c.args.self.now.drains ++ d ∷ []) (search rules)) c.requires.some c.requires.few
