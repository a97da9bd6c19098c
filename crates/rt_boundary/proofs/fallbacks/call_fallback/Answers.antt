-- The fallback's call, and what follows its answer.
use Rattle.std.proofs.lemmas.Result.{err_from_is_err_and}
use Rattle.rt_model.specs.Boundary.{fallback_answered}
use Rattle.tree_mirror.specs.Sealed.{component_of}
use Rattle.rt_scopes.proofs.Counted.{counts_then}
use Rattle.rt_scopes.proofs.Onward.{came_as}
use Rattle.rt_boundary.proofs.fallbacks.call_fallback.Goals as goal

pub returns-in_err-answer : goal.returns-in_err-answer
returns-in_err-answer g c =
    record {
      called =
          λ kept.
          let a = c.in_err-answer.ensures.answered kept in
          let p = err_from_is_err_and c.from_residual.result c.from_residual.ensures.1 in
          rw (p.1, p.2) (a.0, a.1 (λ v answer. fallback_answered (g.A.App.meaning c.args.app.now) v c.args.boundary (component_of c.args.component.now) answer), a.2);
    }

pub returns : goal.returns
returns g c =
    record {
      called =
          λ kept.
          let a = c.in_ok-answer.ensures.answered kept in
          let came = c.answer_fallback.ensures.answered a.0 in (
            came.0,
            came_as _ _ _ _ _
                (a.1 (λ v answer. fallback_answered (g.A.App.meaning c.args.app.now) v c.args.boundary (component_of c.args.component.now) answer))
                came.1,
            counts_then _ _ _ _ _ _ _ a.2 came.2,
          );
    }
