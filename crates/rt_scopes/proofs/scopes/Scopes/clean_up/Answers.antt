-- A clean-up, by what its call left.
use Rattle.std.proofs.Common.{rules, ◌∙◌, sym}
use Rattle.std.proofs.lemmas.Result.{err_from_is_err_and}
use Rattle.rt_scopes.proofs.CleanedUp.{cleaned_no, cleaned_ok}
use Rattle.rt_scopes.proofs.scopes.Scopes.clean_up.Goals as goal

pub returns : goal.returns
returns g c =
    record {
      called =
          λ kept.
          let left = c.apart-left.ensures in
          let parts = c.parts.ensures in
          cleaned_ok (g.A.App.meaning c.args.app.now) c.args.self.now.state c.after_call.new.self.state c.enter-cx.result _ c.in_ok-turn.turn.meaning
          c.args.patching c.args.scope c.args.effect.now c.args.waiting.now c.in_ok-commands.commands c.append.new.self _ _ _ kept c.enter-cx.ensures.counted c.enter-cx.ensures.begun (c.world-world.ensures kept _)
          c.in_ok-turn.ensures.means (sym parts.fault ∙ sym left.fault ∙ c.in_ok-commands.ensures.ok.1)
          (c.in_ok-commands.ensures.ok.0 ∙ left.commands ∙ parts.commands)
          c.in_ok-commands.ensures.next (left.next ∙ parts.next) c.in_ok-append.ensures.ok;
    }

pub returns-in_err-commands : goal.returns-in_err-commands
returns-in_err-commands g c =
    record {
      called =
          λ kept.
          let left = c.apart-left.ensures in
          let parts = c.parts.ensures in
          let refusal = c.in_err-commands.ensures.cut in
          let p = err_from_is_err_and c.from_residual-in_err-commands.result c.from_residual-in_err-commands.ensures.1 in
          rw (p.1, p.2)
          (cleaned_no (g.A.App.meaning c.args.app.now) c.args.self.now.state c.after_call.new.self.state c.enter-cx.result _ c.in_ok-turn.turn.meaning c.args.patching c.args.scope
          c.args.effect.now c.args.waiting.now refusal.0 _ _ _ _ kept c.enter-cx.ensures.counted c.enter-cx.ensures.begun (c.world-world.ensures kept _) c.in_ok-turn.ensures.means
          (sym parts.fault ∙ sym left.fault ∙ refusal.1) c.in_err-commands.ensures.next (left.next ∙ parts.next) refusal.2);
    }

pub returns-in_err-turn : goal.returns-in_err-turn
returns-in_err-turn g c =
    record {
      called = λ kept. (kept, search rules, search rules);
    }

pub returns-in_err-append : goal.returns-in_err-append
returns-in_err-append g c =
    record {
      called = λ kept. (kept, search rules, search rules);
    }
