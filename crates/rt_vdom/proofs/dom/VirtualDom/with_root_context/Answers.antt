-- What the root wrapper provides.
use Rattle.std.proofs.Common.{true, ◌∷◌, [], refl, arith}
use Rattle.std.proofs.lemmas.Result.{err_from_is_err_and}
use Rattle.rt_model.specs.World.{Provide}
use Rattle.rt_model.specs.Commands.{provide_context}
use Rattle.rt_model.specs.Asides.{Asked}
use Rattle.rt_vdom.proofs.Standing.{stands_on, started_more}
use Rattle.rt_vdom.proofs.dom.VirtualDom.with_root_context.Goals as goal

pub returns-clause-provided : goal.returns-clause-provided
returns-clause-provided g c =
    let d = c.args.self in
    let app = g.A.App.meaning d.app in
    let lawful = g.met.A.App.lawful d.app in
    let provided = c.in_ok-provide_asked.ensures.provided app lawful.tests_values in
    record {
      state = provided;
      stage = refl;
      started =
          λ props firsts given s.
          started_more (λ app. g.A.App.meaning app) d c.provide_asked.new.self c.args.kind c.args.value props firsts given provided s;
      stands =
          λ props whole w s.
          stands_on (λ app. g.A.App.meaning app) (Asked 0 w.next (Provide true c.args.kind c.args.value ∷ []))
          (λ x. provide_context app x 0 c.args.kind c.args.value) d c.provide_asked.new.self props whole w
          (c.leads.ensures props whole) tt lawful
          (record { cells = refl; contexts = refl; tasks = refl; elements = refl; errors = omega arith }) refl provided s;
    }

pub returns-in_err-provide_asked-clause-cause : goal.returns-in_err-provide_asked-clause-cause
returns-in_err-provide_asked-clause-cause g c =
    let p = err_from_is_err_and c.from_residual.result c.from_residual.ensures.1 in
    rw (p.1, p.2) refl
