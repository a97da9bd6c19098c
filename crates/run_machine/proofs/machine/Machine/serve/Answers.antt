use Rattle.std.proofs.Common.{◌∙◌, ap, refl}
use Rattle.std.specs.Prelude.{option_map}
use Rattle.std.proofs.lemmas.Result.{err_from_is_err_and}
use Rattle.rt_model.specs.State as model
use Rattle.run_machine.proofs.Steps.{served_cut, keeps_on}
use Rattle.run_machine.proofs.machine.Machine.serve.Goals as goal

pub returns-in-Some-clause-serves : goal.returns-in-Some-clause-serves
returns-in-Some-clause-serves g c = λ kept. (c.in_ok-height.ensures.refused kept ∙ ap (λ o. option_map model.TooDeep o) c.in-Some.is, refl)

pub returns-in_err-serve_low-in-None-clause-serves : goal.returns-in_err-serve_low-in-None-clause-serves
returns-in_err-serve_low-in-None-clause-serves g c =
    λ kept.
    let p = err_from_is_err_and c.from_residual-in_err-serve_low-in-None.result c.from_residual-in_err-serve_low-in-None.ensures.1 in
    rw (p.1, p.2)
    (served_cut (g.A.App.meaning c.args.app.now) _ _ _ c.args.self.now c.serve_low.new.self c.in_err-serve_low-in-None.field-0.0
    (c.in_ok-height.ensures.refused kept ∙ ap (λ o. option_map model.TooDeep o) c.in-None.is) (c.in_err-serve_low-in-None.ensures.serves kept))

pub returns-in_err-serve_low-in-None-clause-remembers : goal.returns-in_err-serve_low-in-None-clause-remembers
returns-in_err-serve_low-in-None-clause-remembers g c =
    let p = err_from_is_err_and c.from_residual-in_err-serve_low-in-None.result c.from_residual-in_err-serve_low-in-None.ensures.1 in
    rw (p.1, p.2) (keeps_on c.args.self.now c.serve_low.new.self c.in_err-serve_low-in-None.field-0.0 c.in_err-serve_low-in-None.ensures.remembers)

pub returns-in_ok-serve_low-in-None-clause-serves : goal.returns-in_ok-serve_low-in-None-clause-serves
returns-in_ok-serve_low-in-None-clause-serves g c =
    λ kept. (c.in_ok-height.ensures.refused kept ∙ ap (λ o. option_map model.TooDeep o) c.in-None.is, c.in_ok-serve_low-in-None.ensures.serves kept)

pub returns-in_ok-serve_low-in-None-clause-counted : goal.returns-in_ok-serve_low-in-None-clause-counted
returns-in_ok-serve_low-in-None-clause-counted g c = c.in_ok-serve_low-in-None.ensures.counted

pub returns-in_ok-serve_low-in-None-clause-knows : goal.returns-in_ok-serve_low-in-None-clause-knows
returns-in_ok-serve_low-in-None-clause-knows g c = c.in_ok-serve_low-in-None.ensures.knows
