use Rattle.std.proofs.Common.{◌∙◌, refl}
use Rattle.std.proofs.lemmas.Result.{err_from_is_err_and}
use Rattle.rt_scopes.proofs.KnownLeft.{knows_scopes}
use Rattle.run_state.specs.Mirror.{at_first, state_of}
use Rattle.run_work.specs.Items.{item_of, work_of}
use Rattle.run_machine.proofs.Leaving.{turn_knows}
use Rattle.run_machine.proofs.Stacks.{stack_is}
use Rattle.run_machine.proofs.Steps.{did_cut, still_remembers, stopped_state, done_state, keeps_low}
use Rattle.run_machine.proofs.machine.Machine.serve_low.Goals as goal

pub returns-in_err-work-clause-serves : goal.returns-in_err-work-clause-serves
returns-in_err-work-clause-serves g c =
    λ kept.
    let came = c.in_err-work.ensures.turned kept in
    let p = err_from_is_err_and c.from_residual-in_err-work.result c.from_residual-in_err-work.ensures.1 in
    rw (p.1, p.2)
    (did_cut (g.A.App.meaning c.args.app.now) _ _ c.args.self.now
    (record c.args.self.now { scopes = c.turn_at.new.scopes; course = c.turn_at.new.course; stood = c.keep_where.new.stood })
    came.0 c.in_err-work.field-0.0 came.1 (c.in_err-work.ensures.noted kept))

pub returns-clause-serves : goal.returns-clause-serves
returns-clause-serves g c =
    λ kept.
    let came = c.in_ok-work.ensures.turned kept in
    record {
      kept = came.0;
      work = work_of c.in_ok-work.work;
      done = came.1;
      open_is = stack_is _ _ c.in_ok-work.work c.in_ok-stack.ensures;
      logged = c.in_ok-work.ensures.noted kept;
    }

pub returns-clause-remembers : goal.returns-clause-remembers
returns-clause-remembers g c =
    λ kept was.
    let came = c.in_ok-work.ensures.turned kept in
    still_remembers (g.A.App.meaning c.args.app.now) (item_of c.args.item.now) c.args.self.now
    (record c.args.self.now { scopes = c.turn_at.new.scopes; course = c.turn_at.new.course; stood = c.keep_where.new.stood; work = c.stack.new.onto })
    kept came.0 was refl refl
    (λ rerun. c.in_ok-keep_where.ensures.kept (c.is_compared.ensures ∙ rerun) (g.A.App.meaning c.args.app.now) kept (c.fed_by-fed.ensures kept) (c.in_ok-leaf.ensures.leaf kept))
    (c.in_ok-keep_where.ensures.stands was)
    (done_state _ _ _ came.1)

pub returns-in_err-work-clause-remembers : goal.returns-in_err-work-clause-remembers
returns-in_err-work-clause-remembers g c =
    let p = err_from_is_err_and c.from_residual-in_err-work.result c.from_residual-in_err-work.ensures.1 in
    let new = record c.args.self.now { scopes = c.turn_at.new.scopes; course = c.turn_at.new.course; stood = c.keep_where.new.stood } in
    rw (p.1, p.2)
    (keeps_low c.args.self.now new c.in_err-work.field-0.0
    (
    λ what is kept was.
    still_remembers (g.A.App.meaning c.args.app.now) (item_of c.args.item.now) c.args.self.now new kept (c.in_err-work.ensures.turned kept).0 was refl refl
    (λ rerun. c.in_ok-keep_where.ensures.kept (c.is_compared.ensures ∙ rerun) (g.A.App.meaning c.args.app.now) kept (c.fed_by-fed.ensures kept) (c.in_ok-leaf.ensures.leaf kept))
    (c.in_ok-keep_where.ensures.stands was)
    (stopped_state _ _ c.in_err-work.field-0.0 what is (c.in_err-work.ensures.turned kept).1)
    ))

pub returns-clause-counted : goal.returns-clause-counted
returns-clause-counted g c = c.in_ok-work.ensures.counted

pub turn_at-requires : goal.turn_at-requires
turn_at-requires g c = record { fed = c.fed_by-fed.ensures; leaf = c.in_ok-leaf.ensures.leaf }

pub returns-clause-knows : goal.returns-clause-knows
returns-clause-knows g c =
    λ kept.
    let came = c.in_ok-work.ensures.turned at_first in
    let v = state_of came.0 c.turn_at.new.scopes.state in
    knows_scopes v (state_of kept c.turn_at.new.scopes.state) refl c.leaf_for.new.known.rows.items
    (turn_knows (g.A.App.meaning c.args.app.now) (g.met.A.App.lawful c.args.app.now) (state_of at_first c.args.self.now.scopes.state) v (item_of c.args.item.now) (work_of c.in_ok-work.work) c.in_ok-leaf.leaf
    c.leaf_for.new.known.rows.items came.1 (c.in_ok-leaf.ensures.leaf at_first) (c.in_ok-leaf.ensures.goes at_first))
