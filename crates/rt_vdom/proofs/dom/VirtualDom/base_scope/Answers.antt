-- Scope 0 is live wherever a dom stands.
use Rattle.std.proofs.Common.{sym, ap, ◌∙◌}
use Rattle.std.specs.Prelude.{is_some}
use Rattle.rt_model.specs.Lists.{at}
use Rattle.run_reports.specs.Seen.{limits_of}
use Rattle.run_state.specs.Mirror.{at_first}
use Rattle.run_state.specs.Outputs.{scope_seen}
use Rattle.run_state.proofs.Each.{some-mapped}
use Rattle.rt_vdom.proofs.Rooted.{first_lives, root_lives}
use Rattle.rt_vdom.proofs.dom.VirtualDom.base_scope.Goals as goal

pub returns-clause-live : goal.returns-clause-live
returns-clause-live g c =
    let d = c.args.self.now in
    record {
      before =
          λ app props firsts provided limits s.
          sym (some-mapped scope_seen c.get_scope.result) ∙ ap is_some (c.get_scope.ensures.scope at_first) ∙ ap (λ x. is_some (at x.scopes 0)) s.first ∙ first_lives (g.A.App.meaning app) props firsts provided;
      after =
          λ props whole w s.
          let app = g.A.App.meaning d.app in
          sym (some-mapped scope_seen c.get_scope.result) ∙ ap is_some (c.get_scope.ensures.scope s.kept) ∙ ap (λ x. is_some (at x.scopes 0)) s.is ∙ root_lives app (g.met.A.App.lawful d.app) (limits_of d.limits) props whole w s.led;
    }
