-- Each step by itself.
use Rattle.std.proofs.Common.{ap}
use Rattle.rt_model.specs.Boundary.{boundary_step}
use Rattle.rt_model.specs.State as steps
use Rattle.run_work.specs.Items.{row_step_of, work_of}
use Rattle.rt_scopes.proofs.Told.{comes_as}
use Rattle.rt_boundary.proofs.steps.boundary_step.Goals as goal

pub returns-in-PatchChildren : goal.returns-in-PatchChildren
returns-in-PatchChildren g c =
    record {
      done =
          comes_as (λ w. boundary_step (g.A.App.meaning c.args.app.now) w c.args.boundary steps.PatchChildren)
          (λ w. boundary_step (g.A.App.meaning c.args.app.now) w c.args.boundary (row_step_of c.args.step))
          c.args.scopes.now.state c.patch_children.new.scopes.state c.args.calls.now c.args.calls.now work_of c.patch_children.result
          (λ w. ap (λ s. boundary_step (g.A.App.meaning c.args.app.now) w c.args.boundary (row_step_of s)) c.in-PatchChildren.is) (c.patch_children.ensures.done (g.A.App.meaning c.args.app.now) (g.met.A.App.lawful c.args.app.now).tests_components c.args.calls.now);
    }

pub returns-in-MadeChildren : goal.returns-in-MadeChildren
returns-in-MadeChildren g c =
    record {
      done =
          comes_as (λ w. boundary_step (g.A.App.meaning c.args.app.now) w c.args.boundary steps.MadeChildren)
          (λ w. boundary_step (g.A.App.meaning c.args.app.now) w c.args.boundary (row_step_of c.args.step))
          c.args.scopes.now.state c.made_children.new.scopes.state c.args.calls.now c.args.calls.now work_of c.made_children.result
          (λ w. ap (λ s. boundary_step (g.A.App.meaning c.args.app.now) w c.args.boundary (row_step_of s)) c.in-MadeChildren.is) (c.made_children.ensures.done (g.A.App.meaning c.args.app.now) c.args.calls.now);
    }

pub returns-in-RunFallback : goal.returns-in-RunFallback
returns-in-RunFallback g c =
    record {
      done =
          comes_as (λ w. boundary_step (g.A.App.meaning c.args.app.now) w c.args.boundary steps.RunFallback)
          (λ w. boundary_step (g.A.App.meaning c.args.app.now) w c.args.boundary (row_step_of c.args.step))
          c.args.scopes.now.state c.run_fallback.new.scopes.state c.args.calls.now c.run_fallback.new.calls work_of c.run_fallback.result
          (λ w. ap (λ s. boundary_step (g.A.App.meaning c.args.app.now) w c.args.boundary (row_step_of s)) c.in-RunFallback.is) c.run_fallback.ensures.done;
    }

pub returns-in-ShowFallback : goal.returns-in-ShowFallback
returns-in-ShowFallback g c =
    record {
      done =
          comes_as (λ w. boundary_step (g.A.App.meaning c.args.app.now) w c.args.boundary steps.ShowFallback)
          (λ w. boundary_step (g.A.App.meaning c.args.app.now) w c.args.boundary (row_step_of c.args.step))
          c.args.scopes.now.state c.show_fallback.new.scopes.state c.args.calls.now c.args.calls.now work_of c.show_fallback.result
          (λ w. ap (λ s. boundary_step (g.A.App.meaning c.args.app.now) w c.args.boundary (row_step_of s)) c.in-ShowFallback.is) (c.show_fallback.ensures.done (g.A.App.meaning c.args.app.now) c.args.calls.now);
    }

pub returns-in-ShowChildren : goal.returns-in-ShowChildren
returns-in-ShowChildren g c =
    record {
      done =
          comes_as (λ w. boundary_step (g.A.App.meaning c.args.app.now) w c.args.boundary steps.ShowChildren)
          (λ w. boundary_step (g.A.App.meaning c.args.app.now) w c.args.boundary (row_step_of c.args.step))
          c.args.scopes.now.state c.show_children.new.scopes.state c.args.calls.now c.args.calls.now work_of c.show_children.result
          (λ w. ap (λ s. boundary_step (g.A.App.meaning c.args.app.now) w c.args.boundary (row_step_of s)) c.in-ShowChildren.is) (c.show_children.ensures.done (g.A.App.meaning c.args.app.now) c.args.calls.now);
    }

pub returns-in-DropFallback : goal.returns-in-DropFallback
returns-in-DropFallback g c =
    record {
      done =
          comes_as (λ w. boundary_step (g.A.App.meaning c.args.app.now) w c.args.boundary steps.DropFallback)
          (λ w. boundary_step (g.A.App.meaning c.args.app.now) w c.args.boundary (row_step_of c.args.step))
          c.args.scopes.now.state c.leave_fallback.new.scopes.state c.args.calls.now c.args.calls.now work_of c.leave_fallback.result
          (λ w. ap (λ s. boundary_step (g.A.App.meaning c.args.app.now) w c.args.boundary (row_step_of s)) c.in-DropFallback.is) (c.leave_fallback.ensures.done (g.A.App.meaning c.args.app.now) c.args.calls.now);
    }

pub returns-in-Resolve : goal.returns-in-Resolve
returns-in-Resolve g c =
    record {
      done =
          comes_as (λ w. boundary_step (g.A.App.meaning c.args.app.now) w c.args.boundary steps.Resolve)
          (λ w. boundary_step (g.A.App.meaning c.args.app.now) w c.args.boundary (row_step_of c.args.step))
          c.args.scopes.now.state c.resolve.new.scopes.state c.args.calls.now c.resolve.new.calls work_of c.resolve.result
          (λ w. ap (λ s. boundary_step (g.A.App.meaning c.args.app.now) w c.args.boundary (row_step_of s)) c.in-Resolve.is) c.resolve.ensures.done;
    }
