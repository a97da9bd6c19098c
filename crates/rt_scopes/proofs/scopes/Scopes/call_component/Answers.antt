-- A body's call, and what it left.
use Rattle.std.proofs.Common.{rules, refl}
use Rattle.tree_mirror.specs.Sealed.{component_of}
use Rattle.rt_scopes.proofs.Settled.{answers_by}
use Rattle.rt_scopes.proofs.scopes.Scopes.call_component.Goals as goal

pub returns : goal.returns
returns g c =
    record {
      answered =
          answers_by (g.A.App.meaning c.args.app.now) c.args.self.now.state c.settle_call.new.self.state c.args.scope.0 (component_of c.args.component.now) c.args.calls.now c.body_of.new.calls c.body_of.new.calls
          c.in_ok-parts.parts c.settle_call.result c.in_ok-parts.ensures.means c.in_ok-parts.ensures.counted
          (c.settle_call.ensures.settled (g.A.App.meaning c.args.app.now) (g.met.A.App.lawful c.args.app.now).tests_values)
          refl c.settle_call.ensures.memory;
    }

pub returns-in_err-parts : goal.returns-in_err-parts
returns-in_err-parts g c =
    record {
      answered = λ kept. (kept, search rules, search rules);
    }
