use Rattle.std.proofs.Common.{rules, ap, sym}
use Rattle.tree_mirror.specs.Sealed.{component_of}
use Rattle.rt_model.specs.Replay.{with_props}
use Rattle.rt_model.specs.Run.{run}
use Rattle.run_work.specs.Items.{work_of}
use Rattle.run_turns.proofs.Arms.{came_as}
use Rattle.run_turns.proofs.Counting.{on_as, on_comes}
use Rattle.run_turns.proofs.agenda.put_and_run.Goals as goal

pub returns-clause-done : goal.returns-clause-done
returns-clause-done g c =
    λ kept.
    let came = c.run.ensures.run kept in (
      came.0,
      came_as _ _ _ _ _ (ap (λ w. run (g.A.App.meaning c.args.app.now) w c.args.child) (sym (c.in_ok-put_component.ensures kept))) came.1,
    )

pub returns-clause-counted : goal.returns-clause-counted
returns-clause-counted g c =
    let app = g.A.App.meaning c.args.app.now in
    on_as (λ w. run app (with_props app w c.args.child (component_of c.args.component)) c.args.child) (λ w. run app w c.args.child) c.args.scopes.now.state c.put_component.new.self c.args.calls.now c.run.new.calls c.run.result
    (λ kept. ap (λ w. run app w c.args.child) (c.in_ok-put_component.ensures kept))
    (on_comes (λ w. run app w c.args.child) c.put_component.new.self c.run.new.self.state c.args.calls.now c.run.new.calls work_of c.run.result c.run.ensures.run)

pub returns-in_err-put_component-clause-done : goal.returns-in_err-put_component-clause-done
returns-in_err-put_component-clause-done g c =
    λ kept. (kept, search rules)
