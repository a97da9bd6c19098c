-- The body of the component that was found.
use Rattle.std.proofs.Common.{rules, subst}
use Rattle.rt_model.specs.Run.{call_body}
use Rattle.tree_mirror.specs.Sealed.{component_of}
use Rattle.rt_scopes.specs.Bodies.{Answers}
use Rattle.rt_boundary.proofs.Stepped.{if_found}
use Rattle.rt_boundary.proofs.built_in.answer.Goals as goal

pub returns : goal.returns
returns g c =
    record {
      answered =
          if_found c.in-Some.found.now c.in-Some.ensures
          (λ x. Answers (λ w then_on. call_body (g.A.App.meaning c.args.app.now) w c.args.scope.0 (component_of x.rest.component) then_on)
          c.args.scopes.now.state c.args.calls.now c.call_component.new.self.state c.call_component.new.calls c.call_component.result)
          (subst (λ k. Answers (λ w then_on. call_body (g.A.App.meaning c.args.app.now) w c.args.scope.0 (component_of k) then_on)
          c.args.scopes.now.state c.args.calls.now c.call_component.new.self.state c.call_component.new.calls c.call_component.result)
          c.in_ok-component.ensures c.call_component.ensures.answered);
    }

pub returns-in_err-component : goal.returns-in_err-component
returns-in_err-component g c =
    record {
      answered =
          if_found c.in-Some.found.now c.in-Some.ensures
          (λ x. Answers (λ w then_on. call_body (g.A.App.meaning c.args.app.now) w c.args.scope.0 (component_of x.rest.component) then_on)
          c.args.scopes.now.state c.args.calls.now c.args.scopes.now.state c.args.calls.now c.from_residual.result)
          (λ kept. (kept, search rules, search rules));
    }
