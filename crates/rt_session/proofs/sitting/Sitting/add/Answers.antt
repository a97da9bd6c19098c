-- A piece that is full is taken in.
use Rattle.std.proofs.Common.{◌≡◌, ◌++◌, ◌∷◌, [], refl, rules, inl, ◌∙◌, ap, sym}
use Rattle.std.proofs.lemmas.Result.{err_from_is_err_and}
use Rattle.rt_session.proofs.Going.{wants}
use Rattle.rt_session.proofs.Keeping.{adds_full}
use Rattle.rt_session.proofs.sitting.Sitting.add.Goals as goal

pub returns-in_err-push-clause-takes : goal.returns-in_err-push-clause-takes
returns-in_err-push-clause-takes g c = λ props before faults awaits.
    let p = err_from_is_err_and c.from_residual.result c.from_residual.ensures.1 in
    rw (p.1, p.2) (wants (g.A.App.meaning c.args.app.now) c.args.limits props before faults _ _ c.args.self.now awaits)

pub returns-clause-adds : goal.returns-clause-adds
returns-clause-adds g c = adds_full c.args.limits.drain _ _ c.args.piece.now c.replace-full.result _ c.args.message _ (search rules) (search rules) (search rules) c.take.ensures.keeps
