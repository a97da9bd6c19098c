use Rattle.std.proofs.Common.{[], ◌+◌, ◌++◌, refl, sym, ◌∙◌, subst, map, rules}
use Rattle.std.proofs.lemmas.Result.{err_from_is_err_and}
use Rattle.std.specs.Prelude.{Ok, Err}
use Rattle.tree_edits.specs.Documents.{edit_of}
use Rattle.run_reports.specs.Seen.{limits_of}
use Rattle.run_turns.specs.Counting.{now_at}
use Rattle.run_machine.specs.Stands.{StandsAt, TurnsAs, counting}
use Rattle.run_machine.proofs.Quiet.{goes_none, goes_more, goes_over, goes_came, goes_wanting}
use Rattle.run_outside.proofs.Sinks.{took-more, took-to, none-taken, some-taken, took-ends, ends-low, run-after}
use Rattle.run_machine.proofs.Turning.{grown_none}
use Rattle.rt_scopes.proofs.KnownLeft.{knows_none}
use Rattle.run_state.specs.Mirror.{state_of}
use Rattle.run_machine.proofs.machine.Machine.settle.Goals as goal

pub loop-turn-init : goal.loop-turn-init
loop-turn-init g c =
    record {
      took = record { edits = []; told = grown_none (g.M.WriteMutations.taken c.args.sink.now); counted = refl; later = search rules };
      on = λ r edits stands. goes_none (g.A.App.meaning c.args.app.now) (g.met.A.App.lawful c.args.app.now) (limits_of c.args.limits) (counting r c.args.calls.now) edits (g.M.WriteMutations.taken c.args.sink.now) c.args.self.now stands;
      knows = λ kept. knows_none (state_of kept c.args.self.now.scopes.state) c.new-known.result.rows.items c.new-known.ensures.empty;
    }

pub returns-in_err-written-clause-err : goal.returns-in_err-written-clause-err
returns-in_err-written-clause-err g c =
    let p = err_from_is_err_and c.from_residual.result c.from_residual.ensures.1 in
    rw (p.1, p.2) (ends-low _ _ _ _ _ _ _ (took-ends _ _ _ _ _ _ _ _ 0 _ c.loop-turn.invariant.took c.in_err-written.ensures.err))

pub returns-in_err-written-clause-settles : goal.returns-in_err-written-clause-settles
returns-in_err-written-clause-settles g c =
    let p = err_from_is_err_and c.from_residual.result c.from_residual.ensures.1 in
    rw (p.1, p.2)
    (
    λ r edits stands.
    let limits = limits_of c.args.limits in
    let on = c.loop-turn.invariant.on r edits stands in
    let more = edits ++ map edit_of on.wrote in
    goes_came (g.A.App.meaning c.args.app.now) (g.met.A.App.lawful c.args.app.now) limits (counting r c.loop-turn.calls) (now_at c.turn_knowing.new.calls r.count) edits (g.M.WriteMutations.taken c.args.sink.now) (g.M.WriteMutations.taken c.loop-turn.sink) (g.M.WriteMutations.taken c.turn_knowing.new.sink) c.loop-turn.edits c.loop-turn.self c.turn_knowing.new.self c.in_err-written.field-0.0 on
    (c.in_err-written.ensures.turns r more on.stands)
    )

pub returns-in_default-clause-ok : goal.returns-in_default-clause-ok
returns-in_default-clause-ok g c =
    took-to _ _ _ _ _ _ _ _ _ (none-taken c.loop-turn.edits c.in_ok-written.field-0 c.in_default.is) c.loop-turn.invariant.took c.in_ok-written.ensures.ok

pub returns-in_default-clause-settles : goal.returns-in_default-clause-settles
returns-in_default-clause-settles g c =
    λ r edits stands.
    let limits = limits_of c.args.limits in
    let on = c.loop-turn.invariant.on r edits stands in
    let more = edits ++ map edit_of on.wrote in
    goes_over (g.A.App.meaning c.args.app.now) (g.met.A.App.lawful c.args.app.now) limits (counting r c.loop-turn.calls) (now_at c.turn_knowing.new.calls r.count) edits (g.M.WriteMutations.taken c.args.sink.now) (g.M.WriteMutations.taken c.loop-turn.sink) (g.M.WriteMutations.taken c.turn_knowing.new.sink) c.loop-turn.edits c.loop-turn.self c.turn_knowing.new.self on
    (subst (λ o. TurnsAs (g.A.App.meaning c.args.app.now) limits (counting r c.turn_knowing.new.calls) more (g.M.WriteMutations.taken c.loop-turn.sink) (g.M.WriteMutations.taken c.turn_knowing.new.sink) c.loop-turn.self c.turn_knowing.new.self (Ok o)) c.in_default.is
    (c.in_ok-written.ensures.turns r more on.stands))

pub returns-in_err-edits-clause-err : goal.returns-in_err-edits-clause-err
returns-in_err-edits-clause-err g c =
    let p = err_from_is_err_and c.from_residual-in_err-edits.result c.from_residual-in_err-edits.ensures.1 in
    rw (p.1, p.2)
    (ends-low _ _ _ _ _ _ _ (run-after _ _ _ _ _ _ _ (took-more _ _ _ _ _ _ _ _ c.loop-turn.invariant.took c.in_ok-written.ensures.ok)))

pub returns-in_err-edits-clause-settles : goal.returns-in_err-edits-clause-settles
returns-in_err-edits-clause-settles g c =
    let p = err_from_is_err_and c.from_residual-in_err-edits.result c.from_residual-in_err-edits.ensures.1 in
    rw (p.1, p.2)
    (
    λ r edits stands.
    let limits = limits_of c.args.limits in
    let on = c.loop-turn.invariant.on r edits stands in
    let more = edits ++ map edit_of on.wrote in
    goes_wanting (g.A.App.meaning c.args.app.now) (g.met.A.App.lawful c.args.app.now) limits (counting r c.turn_knowing.new.calls) edits (g.M.WriteMutations.taken c.args.sink.now) (g.M.WriteMutations.taken c.turn_knowing.new.sink) (c.loop-turn.edits + c.in-Some.written) c.turn_knowing.new.self c.turn_knowing.new.self
    (goes_more (g.A.App.meaning c.args.app.now) (g.met.A.App.lawful c.args.app.now) limits (counting r c.loop-turn.calls) (now_at c.turn_knowing.new.calls r.count) edits (g.M.WriteMutations.taken c.args.sink.now) (g.M.WriteMutations.taken c.loop-turn.sink) (g.M.WriteMutations.taken c.turn_knowing.new.sink) c.loop-turn.edits c.in-Some.written (c.loop-turn.edits + c.in-Some.written) c.loop-turn.self c.turn_knowing.new.self on refl
    (subst (λ o. TurnsAs (g.A.App.meaning c.args.app.now) limits (counting r c.turn_knowing.new.calls) more (g.M.WriteMutations.taken c.loop-turn.sink) (g.M.WriteMutations.taken c.turn_knowing.new.sink) c.loop-turn.self c.turn_knowing.new.self (Ok o)) c.in-Some.is
    (c.in_ok-written.ensures.turns r more on.stands)))
    )

pub returns-clause-settles : goal.returns-clause-settles
returns-clause-settles g c =
    λ r edits stands.
    goes_wanting (g.A.App.meaning c.args.app.now) (g.met.A.App.lawful c.args.app.now) (limits_of c.args.limits) (counting r c.loop-turn.calls) edits (g.M.WriteMutations.taken c.args.sink.now) (g.M.WriteMutations.taken c.loop-turn.sink) c.loop-turn.edits c.loop-turn.self c.loop-turn.self
    (c.loop-turn.invariant.on r edits stands)

pub loop-turn-preserved : goal.loop-turn-preserved
loop-turn-preserved g c =
    record {
      took =
          took-to _ _ _ _ _ _ _ _ _
          (some-taken c.loop-turn.edits c.in-Some.written c.in_ok-edits.edits c.in_ok-written.field-0 c.in-Some.is c.in_ok-edits.ensures)
          c.loop-turn.invariant.took c.in_ok-written.ensures.ok;
      on =
          λ r edits stands.
          let limits = limits_of c.args.limits in
          let on = c.loop-turn.invariant.on r edits stands in
          let more = edits ++ map edit_of on.wrote in
          goes_more (g.A.App.meaning c.args.app.now) (g.met.A.App.lawful c.args.app.now) limits (counting r c.loop-turn.calls) (now_at c.turn_knowing.new.calls r.count) edits (g.M.WriteMutations.taken c.args.sink.now) (g.M.WriteMutations.taken c.loop-turn.sink) (g.M.WriteMutations.taken c.turn_knowing.new.sink) c.loop-turn.edits c.in-Some.written c.in_ok-edits.edits c.loop-turn.self c.turn_knowing.new.self on
          c.in_ok-edits.ensures
          (subst (λ o. TurnsAs (g.A.App.meaning c.args.app.now) limits (counting r c.turn_knowing.new.calls) more (g.M.WriteMutations.taken c.loop-turn.sink) (g.M.WriteMutations.taken c.turn_knowing.new.sink) c.loop-turn.self c.turn_knowing.new.self (Ok o)) c.in-Some.is
          (c.in_ok-written.ensures.turns r more on.stands));
      knows = c.in_ok-written.ensures.knows;
    }
