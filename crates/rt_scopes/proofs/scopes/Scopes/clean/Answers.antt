-- One more clean-up, and then the scope goes.
use Rattle.std.proofs.Common.{rules, ◌∙◌, ◌+◌, drop, map, ap, sym}
use Rattle.std.specs.Prelude.{None, []}
use Rattle.std.proofs.lemmas.Result.{err_from_is_err_and}
use Rattle.rt_model.specs.State.{Done}
use Rattle.rt_model.specs.Commands.{commands}
use Rattle.rt_model.specs.Removal.{cleaned_in}
use Rattle.run_records.specs.Records.{command_of}
use Rattle.run_state.specs.Mirror.{forgets, state_of}
use Rattle.rt_scopes.proofs.CleanedUp.{last_cleaned, next_cleaned}
use Rattle.rt_scopes.proofs.Counted.{cut_then}
use Rattle.rt_scopes.proofs.Onward.{cut_as}
use Rattle.rt_scopes.proofs.scopes.Scopes.clean.Goals as goal

pub loop-effect-init : goal.loop-effect-init
loop-effect-init g c = λ kept. (kept, ap (λ ws. cleaned_in (g.A.App.meaning c.args.app.now) c.args.patching c.args.scope c.args.effects.now (state_of kept c.args.self.now.state) (map command_of ws)) (sym c.new-waiting.ensures.empty), λ was. was)

pub loop-effect-preserved : goal.loop-effect-preserved
loop-effect-preserved g c =
    λ kept.
    let app = g.A.App.meaning c.args.app.now in
    let before = c.loop-effect.invariant kept in
    let done = c.in_ok-clean_up.ensures.called before.0 in (
      done.0,
      before.1
          ∙ next_cleaned app c.args.patching (state_of before.0 c.loop-effect.self.state) c.args.scope c.args.effects.now c.loop-effect.effect-index c.effect-item.result (map command_of c.loop-effect.waiting) c.loop-effect-test.true c.effect-item.is
          ∙ done.1 (λ v cs. cleaned_in app c.args.patching c.args.scope (drop (c.loop-effect.effect-index + 1) c.args.effects.now) v cs),
      λ was. done.2 (before.2 was),
    )

pub returns-in_err-clean_up : goal.returns-in_err-clean_up
returns-in_err-clean_up g c =
    record {
      cleaned =
          λ kept.
          let app = g.A.App.meaning c.args.app.now in
          let before = c.loop-effect.invariant kept in
          let cut = c.in_err-clean_up.ensures.called before.0 in
          let whole =
          before.1
          ∙ next_cleaned app c.args.patching (state_of before.0 c.loop-effect.self.state) c.args.scope c.args.effects.now c.loop-effect.effect-index c.effect-item.result (map command_of c.loop-effect.waiting) c.loop-effect-test.true c.effect-item.is in
          let p = err_from_is_err_and c.from_residual.result c.from_residual.ensures.1 in
          rw (p.1, p.2) (
            cut.0,
            cut_as _ _ _ _ whole (cut.1 (λ v cs. cleaned_in app c.args.patching c.args.scope (drop (c.loop-effect.effect-index + 1) c.args.effects.now) v cs)),
            cut_then _ _ _ _ _ _ c.in_err-clean_up.field-0.0 before.2 cut.2,
          );
    }

pub returns : goal.returns
returns g c =
    record {
      cleaned =
          λ kept.
          let app = g.A.App.meaning c.args.app.now in
          let before = c.loop-effect.invariant kept in (
            forgets before.0 c.args.scope,
            before.1
                ∙ last_cleaned app c.args.patching (state_of before.0 c.loop-effect.self.state) c.args.scope c.args.effects.now c.loop-effect.effect-index (map command_of c.loop-effect.waiting) c.loop-effect-test.false
                ∙ ap (λ w. Done (commands app w c.args.scope None (map command_of c.loop-effect.waiting)) []) (sym (c.in_ok-gone.ensures before.0))
                ∙ ap (λ w. Done w []) (sym (c.in_ok-do_commands.ensures app (g.met.A.App.lawful c.args.app.now).tests_values (forgets before.0 c.args.scope))),
            before.2,
          );
    }

pub returns-in_err-gone : goal.returns-in_err-gone
returns-in_err-gone g c =
    record {
      cleaned = λ kept. (kept, search rules, search rules);
    }

pub returns-in_err-do_commands : goal.returns-in_err-do_commands
returns-in_err-do_commands g c =
    record {
      cleaned = λ kept. (kept, search rules, search rules);
    }
