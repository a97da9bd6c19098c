-- A callback, by whether its scope is live.
use Rattle.std.proofs.Common.{◌∙◌, sym}
use Rattle.run_state.specs.Mirror.{state_of}
use Rattle.rt_scopes.proofs.Acted.{called_live, called_gone}
use Rattle.rt_scopes.proofs.Onward.{came_as}
use Rattle.rt_scopes.proofs.scopes.Scopes.call_one.Goals as goal

pub returns-then-not-is_live : goal.returns-then-not-is_live
returns-then-not-is_live g c =
    record {
      called =
          λ kept.
          (kept, called_gone (g.A.App.meaning c.args.app.now) (state_of kept c.args.self.now.state) c.args.callback.now (sym (c.is_live.ensures kept) ∙ c.if-not-is_live.true), λ was. was);
    }

pub returns : goal.returns
returns g c =
    record {
      called =
          λ kept.
          let came = c.act.ensures.acted kept in (
            came.0,
            came_as _ _ _ _ _
                (called_live (g.A.App.meaning c.args.app.now) (state_of kept c.args.self.now.state) c.args.callback.now (sym (c.is_live.ensures kept) ∙ c.if-not-is_live.false))
                came.1,
            came.2,
          );
    }
