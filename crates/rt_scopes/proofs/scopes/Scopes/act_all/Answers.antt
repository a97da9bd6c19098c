-- One more effect.
use Rattle.std.proofs.Common.{◌∙◌, refl}
use Rattle.std.proofs.lemmas.Result.{err_from_is_err_and}
use Rattle.rt_model.specs.Run.{acted}
use Rattle.run_state.specs.Mirror.{state_of}
use Rattle.rt_scopes.proofs.Counted.{cut_then}
use Rattle.rt_scopes.proofs.Onward.{cut_as}
use Rattle.rt_scopes.proofs.Turns.{next_done, next_cut, all_done}
use Rattle.rt_scopes.proofs.scopes.Scopes.act_all.Goals as goal

pub loop-effect-init : goal.loop-effect-init
loop-effect-init g c = λ kept. (kept, refl, λ was. was)

pub loop-effect-preserved : goal.loop-effect-preserved
loop-effect-preserved g c =
    λ kept.
    let before = c.loop-effect.invariant kept in
    let done = c.in_ok-act.ensures.acted before.0 in (
      done.0,
      before.1
          ∙ next_done (λ w e. acted (g.A.App.meaning c.args.app.now) w c.args.scope e c.args.rendering) (state_of before.0 c.loop-effect.self.state)
          (state_of done.0 c.act.new.self.state) c.args.effects.now c.loop-effect.effect-index c.effect-item.result c.loop-effect-test.true c.effect-item.is done.1,
      λ was. done.2 (before.2 was),
    )

pub returns-in_err-act : goal.returns-in_err-act
returns-in_err-act g c =
    record {
      acted =
          λ kept.
          let before = c.loop-effect.invariant kept in
          let cut = c.in_err-act.ensures.acted before.0 in
          let p = err_from_is_err_and c.from_residual.result c.from_residual.ensures.1 in
          rw (p.1, p.2) (
            cut.0,
            cut_as _ _ (state_of cut.0 c.act.new.self.state) c.in_err-act.field-0.0 before.1
                (next_cut (λ w e. acted (g.A.App.meaning c.args.app.now) w c.args.scope e c.args.rendering) (state_of before.0 c.loop-effect.self.state)
                (state_of cut.0 c.act.new.self.state) c.args.effects.now c.loop-effect.effect-index c.effect-item.result c.in_err-act.field-0.0 c.loop-effect-test.true c.effect-item.is
                cut.1),
            cut_then _ _ _ _ _ _ c.in_err-act.field-0.0 before.2 cut.2,
          );
    }

pub returns : goal.returns
returns g c =
    record {
      acted =
          λ kept.
          let before = c.loop-effect.invariant kept in (
            before.0,
            before.1
                ∙ all_done (λ w e. acted (g.A.App.meaning c.args.app.now) w c.args.scope e c.args.rendering) (state_of before.0 c.loop-effect.self.state) c.args.effects.now
                c.loop-effect.effect-index c.loop-effect-test.false,
            before.2,
          );
    }
