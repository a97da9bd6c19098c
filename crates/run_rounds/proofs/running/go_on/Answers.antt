use Rattle.std.proofs.Common.{[], ◌+◌, ◌++◌, refl, ap, subst, map, rules}
use Rattle.std.proofs.lemmas.Result.{err_from_is_err_and}
use Rattle.std.specs.Prelude.{Ok}
use Rattle.tree_edits.specs.Documents.{edit_of}
use Rattle.run_reports.specs.Seen.{limits_of}
use Rattle.run_machine.specs.Keeps.{TurnKeeps}
use Rattle.run_turns.specs.Counting.{now_at}
use Rattle.run_machine.specs.Machines.{noted}
use Rattle.run_machine.specs.Stands.{TurnsAs, counting}
use Rattle.run_machine.proofs.Breaking.{in_after, in_along}
use Rattle.run_outside.proofs.Sinks.{took-more, took-to, some-taken, took-ends, ends-low, run-after}
use Rattle.run_machine.proofs.Turning.{grown_none}
use Rattle.rt_scopes.proofs.KnownLeft.{knows_none}
use Rattle.run_state.specs.Mirror.{state_of}
use Rattle.run_answers.specs.Untils.{until_of}
use Rattle.run_rounds.proofs.Breaks.{wanting, breaks_at, idles_at}
use Rattle.run_rounds.proofs.Broken.{until_broke}
use Rattle.run_rounds.proofs.Going.{gone_none, gone_more, gone_came, grown_along}
use Rattle.run_rounds.proofs.running.go_on.Goals as goal

pub loop-turn-init : goal.loop-turn-init
loop-turn-init g c =
    record {
      took = record { edits = []; told = grown_none (g.M.WriteMutations.taken c.args.sink.now); counted = refl; later = search rules };
      on = λ r edits stands. gone_none (g.A.App.meaning c.args.app.now) (g.met.A.App.lawful c.args.app.now) (limits_of c.args.limits) (counting r c.args.calls.now) (until_of c.args.until) edits (g.M.WriteMutations.taken c.args.sink.now) c.args.machine.now stands;
      knows = λ kept. knows_none (state_of kept c.args.machine.now.scopes.state) c.new-known.result.rows.items c.new-known.ensures.empty;
    }

-- the test holds
pub returns-then-ended-clause-goes : goal.returns-then-ended-clause-goes
returns-then-ended-clause-goes g c =
    λ r edits stands.
    record {
      gone = c.loop-turn.invariant.on r edits stands;
      idle = (c.ended.ensures.idle c.if-ended.true).0;
      over = (c.ended.ensures.idle c.if-ended.true).1;
      ended = c.ended.ensures.ended c.if-ended.true;
    }

pub returns-in_err-written-clause-err : goal.returns-in_err-written-clause-err
returns-in_err-written-clause-err g c =
    let p = err_from_is_err_and c.from_residual.result c.from_residual.ensures.1 in
    rw (p.1, p.2) (ends-low _ _ _ _ _ _ _ (took-ends _ _ _ _ _ _ _ _ 0 _ c.loop-turn.invariant.took c.in_err-written.ensures.err))

pub returns-in_err-written-clause-goes : goal.returns-in_err-written-clause-goes
returns-in_err-written-clause-goes g c =
    let p = err_from_is_err_and c.from_residual.result c.from_residual.ensures.1 in
    rw (p.1, p.2)
    (
    λ r edits stands.
    let limits = limits_of c.args.limits in
    let on = c.loop-turn.invariant.on r edits stands in
    let more = edits ++ map edit_of (on.on).wrote in
    gone_came (g.A.App.meaning c.args.app.now) (g.met.A.App.lawful c.args.app.now) limits (counting r c.loop-turn.calls) (until_of c.args.until) (now_at c.turn_knowing.new.calls r.count) edits (g.M.WriteMutations.taken c.args.sink.now) (g.M.WriteMutations.taken c.loop-turn.sink) (g.M.WriteMutations.taken c.turn_knowing.new.sink) c.loop-turn.edits c.args.machine.now c.loop-turn.machine c.turn_knowing.new.self c.in_err-written.field-0.0 on
    (c.in_err-written.ensures.turns r more (on.on).stands) c.in_err-written.ensures.keeps (λ units out. ap (λ n. now_at n r.count) (c.in_err-written.ensures.uncalled units out)) (c.ended.ensures.goes c.if-ended.false)
    )

-- memory was wanting: nothing is said of a fault of the definitions
pub returns-in_err-edits-clause-err : goal.returns-in_err-edits-clause-err
returns-in_err-edits-clause-err g c =
    let p = err_from_is_err_and c.from_residual-in_err-edits.result c.from_residual-in_err-edits.ensures.1 in
    rw (p.1, p.2)
    (ends-low _ _ _ _ _ _ _ (run-after _ _ _ _ _ _ _ (took-more _ _ _ _ _ _ _ _ c.loop-turn.invariant.took c.in_ok-written.ensures.ok)))

pub returns-in_err-edits-clause-goes : goal.returns-in_err-edits-clause-goes
returns-in_err-edits-clause-goes g c =
    let p = err_from_is_err_and c.from_residual-in_err-edits.result c.from_residual-in_err-edits.ensures.1 in
    rw (p.1, p.2) (λ r edits stands fault why. cc)

pub returns-in_default-clause-err : goal.returns-in_default-clause-err
returns-in_default-clause-err g c =
    ends-low _ _ _ _ _ _ _ (run-after _ _ _ _ _ _ _ (took-more _ _ _ _ _ _ _ _ c.loop-turn.invariant.took c.in_ok-written.ensures.ok))

pub returns-in_default-clause-goes : goal.returns-in_default-clause-goes
returns-in_default-clause-goes g c = λ r edits stands fault why. cc

pub returns-clause-goes : goal.returns-clause-goes
returns-clause-goes g c = λ r edits stands fault why. cc

pub loop-turn-preserved : goal.loop-turn-preserved
loop-turn-preserved g c =
    record {
      took =
          took-to _ _ _ _ _ _ _ _ _
          (some-taken c.loop-turn.edits c.in-Some.written c.in_ok-edits.edits c.in_ok-written.field-0 c.in-Some.is c.in_ok-edits.ensures)
          c.loop-turn.invariant.took c.in_ok-written.ensures.ok;
      on =
          λ r edits stands.
          let limits = limits_of c.args.limits in
          let on = c.loop-turn.invariant.on r edits stands in
          let more = edits ++ map edit_of (on.on).wrote in
          gone_more (g.A.App.meaning c.args.app.now) (g.met.A.App.lawful c.args.app.now) limits (counting r c.loop-turn.calls) (until_of c.args.until) (now_at c.turn_knowing.new.calls r.count) edits (g.M.WriteMutations.taken c.args.sink.now) (g.M.WriteMutations.taken c.loop-turn.sink) (g.M.WriteMutations.taken c.turn_knowing.new.sink) c.loop-turn.edits c.in-Some.written c.in_ok-edits.edits c.args.machine.now c.loop-turn.machine c.turn_knowing.new.self on
          c.in_ok-edits.ensures
          (subst (λ o. TurnsAs (g.A.App.meaning c.args.app.now) limits (counting r c.turn_knowing.new.calls) more (g.M.WriteMutations.taken c.loop-turn.sink) (g.M.WriteMutations.taken c.turn_knowing.new.sink) c.loop-turn.machine c.turn_knowing.new.self (Ok o)) c.in-Some.is
          (c.in_ok-written.ensures.turns r more (on.on).stands))
          (subst (λ o. TurnKeeps c.loop-turn.machine c.turn_knowing.new.self (Ok o)) c.in-Some.is c.in_ok-written.ensures.keeps)
          (c.ended.ensures.goes c.if-ended.false);
      knows = c.in_ok-written.ensures.knows;
    }

pub returns-in_err-written-clause-breaks : goal.returns-in_err-written-clause-breaks
returns-in_err-written-clause-breaks g c =
    let p = err_from_is_err_and c.from_residual.result c.from_residual.ensures.1 in
    rw (p.1, p.2)
    (
    λ r edits none stands.
    let app = g.A.App.meaning c.args.app.now in
    let lawful = g.met.A.App.lawful c.args.app.now in
    let limits = limits_of c.args.limits in
    let until = until_of c.args.until in
    let along = now_at c.turn_knowing.new.calls r.count in
    let far = c.loop-turn.invariant.on r edits stands in
    let on = far.on in
    let more = edits ++ map edit_of on.wrote in
    let before = g.M.WriteMutations.taken c.args.sink.now in
    let now = g.M.WriteMutations.taken c.loop-turn.sink in
    let after = g.M.WriteMutations.taken c.turn_knowing.new.sink in
    let ended = c.in_err-written.field-0.0 in
    until_broke app lawful limits (counting r c.turn_knowing.new.calls) until edits before after ended c.args.machine.now c.loop-turn.machine
    (grown_along app lawful limits (counting r c.loop-turn.calls) until along c.args.machine.now c.loop-turn.machine far.grown)
    (in_after app limits (counting r c.loop-turn.calls) along (r.opened ++ noted c.loop-turn.machine) edits before now after c.loop-turn.edits c.loop-turn.machine ended on
    ((c.in_err-written.ensures.turns r more on.stands).1 none))
    )

pub returns-in_err-edits-clause-breaks : goal.returns-in_err-edits-clause-breaks
returns-in_err-edits-clause-breaks g c =
    let p = err_from_is_err_and c.from_residual-in_err-edits.result c.from_residual-in_err-edits.ensures.1 in
    rw (p.1, p.2)
    (
    λ r edits none stands.
    let app = g.A.App.meaning c.args.app.now in
    let lawful = g.met.A.App.lawful c.args.app.now in
    let limits = limits_of c.args.limits in
    let until = until_of c.args.until in
    let along = now_at c.turn_knowing.new.calls r.count in
    let far = c.loop-turn.invariant.on r edits stands in
    let on = far.on in
    let more = edits ++ map edit_of on.wrote in
    let before = g.M.WriteMutations.taken c.args.sink.now in
    let now = g.M.WriteMutations.taken c.loop-turn.sink in
    let after = g.M.WriteMutations.taken c.turn_knowing.new.sink in
    let gone =
    gone_more app lawful limits (counting r c.loop-turn.calls) until along edits before now after c.loop-turn.edits c.in-Some.written (c.loop-turn.edits + c.in-Some.written) c.args.machine.now c.loop-turn.machine c.turn_knowing.new.self far refl
    (subst (λ o. TurnsAs app limits (counting r c.turn_knowing.new.calls) more now after c.loop-turn.machine c.turn_knowing.new.self (Ok o)) c.in-Some.is
    (c.in_ok-written.ensures.turns r more on.stands))
    (subst (λ o. TurnKeeps c.loop-turn.machine c.turn_knowing.new.self (Ok o)) c.in-Some.is c.in_ok-written.ensures.keeps)
    (c.ended.ensures.goes c.if-ended.false) in
    until_broke app lawful limits (counting r c.turn_knowing.new.calls) until edits before after wanting c.args.machine.now c.turn_knowing.new.self gone.grown
    (breaks_at app lawful limits (counting r c.turn_knowing.new.calls) edits before after (c.loop-turn.edits + c.in-Some.written) c.turn_knowing.new.self gone.on)
    )

pub returns-in_default-clause-breaks : goal.returns-in_default-clause-breaks
returns-in_default-clause-breaks g c =
    λ r edits none stands.
    let app = g.A.App.meaning c.args.app.now in
    let lawful = g.met.A.App.lawful c.args.app.now in
    let limits = limits_of c.args.limits in
    let until = until_of c.args.until in
    let along = now_at c.turn_knowing.new.calls r.count in
    let far = c.loop-turn.invariant.on r edits stands in
    let on = far.on in
    let more = edits ++ map edit_of on.wrote in
    let before = g.M.WriteMutations.taken c.args.sink.now in
    let now = g.M.WriteMutations.taken c.loop-turn.sink in
    let after = g.M.WriteMutations.taken c.turn_knowing.new.sink in
    let idle =
    subst (λ o. TurnsAs app limits (counting r c.turn_knowing.new.calls) more now after c.loop-turn.machine c.turn_knowing.new.self (Ok o)) c.in_default.is
    (c.in_ok-written.ensures.turns r more on.stands) in
    until_broke app lawful limits (counting r c.turn_knowing.new.calls) until edits before after wanting c.args.machine.now c.loop-turn.machine
    (grown_along app lawful limits (counting r c.loop-turn.calls) until along c.args.machine.now c.loop-turn.machine far.grown)
    (in_along app limits (counting r c.loop-turn.calls) along (r.opened ++ noted c.loop-turn.machine) edits before after wanting
    (idles_at app lawful limits (counting r c.loop-turn.calls) edits before now after c.loop-turn.edits c.loop-turn.machine on idle.0))

pub returns-clause-breaks : goal.returns-clause-breaks
returns-clause-breaks g c =
    λ r edits none stands.
    let app = g.A.App.meaning c.args.app.now in
    let lawful = g.met.A.App.lawful c.args.app.now in
    let limits = limits_of c.args.limits in
    let far = c.loop-turn.invariant.on r edits stands in
    let before = g.M.WriteMutations.taken c.args.sink.now in
    let now = g.M.WriteMutations.taken c.loop-turn.sink in
    until_broke app lawful limits (counting r c.loop-turn.calls) (until_of c.args.until) edits before now wanting c.args.machine.now c.loop-turn.machine far.grown
    (breaks_at app lawful limits (counting r c.loop-turn.calls) edits before now c.loop-turn.edits c.loop-turn.machine far.on)
