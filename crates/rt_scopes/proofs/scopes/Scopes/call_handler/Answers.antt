-- A listener, by what its call left.
use Rattle.std.proofs.Common.{rules, ◌∙◌, sym}
use Rattle.std.proofs.lemmas.Result.{err_from_is_err_and}
use Rattle.rt_scopes.proofs.Heard.{heard_no, heard_ok}
use Rattle.rt_scopes.proofs.scopes.Scopes.call_handler.Goals as goal

pub returns : goal.returns
returns g c =
    record {
      heard =
          λ kept.
          let left = c.apart-left.ensures in
          let parts = c.parts.ensures in
          heard_ok (g.A.App.meaning c.args.app.now) c.args.self.now.state c.after_call.new.self.state c.do_commands.new.self.state c.enter-cx.result _ c.in_ok-turn.turn.meaning
          c.args.scope.0 c.args.handler.now c.args.event.now c.handle.new.event c.in_ok-commands.commands _ _ _ kept c.enter-cx.ensures.counted c.enter-cx.ensures.begun (c.world-world.ensures kept _)
          c.in_ok-turn.ensures.means (sym parts.fault ∙ sym left.fault ∙ c.in_ok-commands.ensures.ok.1)
          (c.in_ok-commands.ensures.ok.0 ∙ left.commands ∙ parts.commands)
          c.in_ok-commands.ensures.next (left.next ∙ parts.next)
          (λ u. c.in_ok-do_commands.ensures (g.A.App.meaning c.args.app.now) (g.met.A.App.lawful c.args.app.now).tests_values u);
    }

pub returns-in_err-commands : goal.returns-in_err-commands
returns-in_err-commands g c =
    record {
      heard =
          λ kept.
          let left = c.apart-left.ensures in
          let parts = c.parts.ensures in
          let refusal = c.in_err-commands.ensures.cut in
          let p = err_from_is_err_and c.from_residual-in_err-commands.result c.from_residual-in_err-commands.ensures.1 in
          rw (p.1, p.2)
          (heard_no (g.A.App.meaning c.args.app.now) c.args.self.now.state c.after_call.new.self.state c.enter-cx.result _ c.in_ok-turn.turn.meaning c.args.scope.0
          c.args.handler.now c.args.event.now c.handle.new.event refusal.0 _ _ _ _ kept c.enter-cx.ensures.counted c.enter-cx.ensures.begun (c.world-world.ensures kept _) c.in_ok-turn.ensures.means
          (sym parts.fault ∙ sym left.fault ∙ refusal.1) c.in_err-commands.ensures.next (left.next ∙ parts.next) refusal.2);
    }

pub returns-in_err-turn : goal.returns-in_err-turn
returns-in_err-turn g c =
    record {
      heard = λ kept. (kept, search rules, search rules);
    }

pub returns-in_err-do_commands : goal.returns-in_err-do_commands
returns-in_err-do_commands g c =
    record {
      heard = λ kept. (kept, search rules, search rules);
    }
