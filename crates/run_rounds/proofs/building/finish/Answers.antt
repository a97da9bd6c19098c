use Rattle.std.proofs.Common.{[], ◌+◌, ◌++◌, refl, ◌∙◌, subst, map, rules}
use Rattle.std.proofs.lemmas.Result.{err_from_is_err_and}
use Rattle.std.specs.Prelude.{Ok}
use Rattle.tree_edits.specs.Documents.{edit_of}
use Rattle.run_reports.specs.Seen.{limits_of}
use Rattle.run_machine.specs.Keeps.{TurnKeeps}
use Rattle.run_turns.specs.Counting.{now_at}
use Rattle.run_machine.specs.Machines.{noted}
use Rattle.run_machine.specs.Stands.{TurnsAs, counting}
use Rattle.run_machine.proofs.Breaking.{in_after, in_along}
use Rattle.run_machine.proofs.Quiet.{goes_none, goes_more, goes_came}
use Rattle.run_outside.proofs.Sinks.{took-more, took-to, some-taken, took-ends, ends-low, run-after}
use Rattle.run_machine.proofs.Turning.{grown_none}
use Rattle.rt_scopes.proofs.KnownLeft.{knows_none}
use Rattle.run_state.specs.Mirror.{state_of}
use Rattle.run_rounds.proofs.Alone.{inside_broke}
use Rattle.run_rounds.proofs.Breaks.{wanting, breaks_at, idles_at}
use Rattle.run_rounds.proofs.Inside.{inside_none, inside_on, finish_cut}
use Rattle.run_rounds.proofs.building.finish.Goals as goal

pub loop-turn-init : goal.loop-turn-init
loop-turn-init g c =
    record {
      took = record { edits = []; told = grown_none (g.M.WriteMutations.taken c.args.sink.now); counted = refl; later = search rules };
      on = λ r edits stands. goes_none (g.A.App.meaning c.args.app.now) (g.met.A.App.lawful c.args.app.now) (limits_of c.args.limits) (counting r c.args.calls.now) edits (g.M.WriteMutations.taken c.args.sink.now) c.args.machine.now stands;
      inside = inside_none c.args.machine.now;
      silent = λ none. (none, refl);
      knows = λ kept. knows_none (state_of kept c.args.machine.now.scopes.state) c.new-known.result.rows.items c.new-known.ensures.empty;
    }

-- nothing is at work
pub returns-then-rests-clause-finishes : goal.returns-then-rests-clause-finishes
returns-then-rests-clause-finishes g c =
    λ r edits stands.
    record {
      on = c.loop-turn.invariant.on r edits stands;
      idle = (c.rests.ensures.rests c.if-rests.true).0;
      over = (c.rests.ensures.rests c.if-rests.true).1;
      silent = c.loop-turn.invariant.silent;
      inside = c.loop-turn.invariant.inside;
    }

pub returns-in_err-written-clause-err : goal.returns-in_err-written-clause-err
returns-in_err-written-clause-err g c =
    let p = err_from_is_err_and c.from_residual.result c.from_residual.ensures.1 in
    rw (p.1, p.2) (ends-low _ _ _ _ _ _ _ (took-ends _ _ _ _ _ _ _ _ 0 _ c.loop-turn.invariant.took c.in_err-written.ensures.err))

pub returns-in_err-written-clause-finishes : goal.returns-in_err-written-clause-finishes
returns-in_err-written-clause-finishes g c =
    let p = err_from_is_err_and c.from_residual.result c.from_residual.ensures.1 in
    rw (p.1, p.2)
    (
    λ r edits stands fault why.
    let limits = limits_of c.args.limits in
    let on = c.loop-turn.invariant.on r edits stands in
    let more = edits ++ map edit_of on.wrote in
    let works = c.rests.ensures.works c.if-rests.false in
    let keeps = c.in_err-written.ensures.keeps in
    finish_cut (g.A.App.meaning c.args.app.now) limits (counting r c.turn_knowing.new.calls) edits (g.M.WriteMutations.taken c.args.sink.now) (g.M.WriteMutations.taken c.turn_knowing.new.sink) c.args.machine.now c.loop-turn.machine c.turn_knowing.new.self c.in_err-written.field-0.0 fault why c.loop-turn.invariant.inside works keeps
    ((goes_came (g.A.App.meaning c.args.app.now) (g.met.A.App.lawful c.args.app.now) limits (counting r c.loop-turn.calls) (now_at c.turn_knowing.new.calls r.count) edits (g.M.WriteMutations.taken c.args.sink.now) (g.M.WriteMutations.taken c.loop-turn.sink) (g.M.WriteMutations.taken c.turn_knowing.new.sink) c.loop-turn.edits c.loop-turn.machine c.turn_knowing.new.self c.in_err-written.field-0.0 on
    (c.in_err-written.ensures.turns r more on.stands)).0 fault why)
    )

-- memory was wanting: nothing is said of a fault of the definitions
pub returns-in_err-edits-clause-err : goal.returns-in_err-edits-clause-err
returns-in_err-edits-clause-err g c =
    let p = err_from_is_err_and c.from_residual-in_err-edits.result c.from_residual-in_err-edits.ensures.1 in
    rw (p.1, p.2)
    (ends-low _ _ _ _ _ _ _ (run-after _ _ _ _ _ _ _ (took-more _ _ _ _ _ _ _ _ c.loop-turn.invariant.took c.in_ok-written.ensures.ok)))

pub returns-in_err-edits-clause-finishes : goal.returns-in_err-edits-clause-finishes
returns-in_err-edits-clause-finishes g c =
    let p = err_from_is_err_and c.from_residual-in_err-edits.result c.from_residual-in_err-edits.ensures.1 in
    rw (p.1, p.2) (λ r edits stands fault why. cc)

pub returns-in_default-clause-err : goal.returns-in_default-clause-err
returns-in_default-clause-err g c =
    ends-low _ _ _ _ _ _ _ (run-after _ _ _ _ _ _ _ (took-more _ _ _ _ _ _ _ _ c.loop-turn.invariant.took c.in_ok-written.ensures.ok))

pub returns-in_default-clause-finishes : goal.returns-in_default-clause-finishes
returns-in_default-clause-finishes g c = λ r edits stands fault why. cc

pub returns-clause-finishes : goal.returns-clause-finishes
returns-clause-finishes g c = λ r edits stands fault why. cc

pub loop-turn-preserved : goal.loop-turn-preserved
loop-turn-preserved g c =
    let keeps = subst (λ o. TurnKeeps c.loop-turn.machine c.turn_knowing.new.self (Ok o)) c.in-Some.is c.in_ok-written.ensures.keeps in
    record {
      inside = inside_on c.args.machine.now c.loop-turn.machine c.turn_knowing.new.self c.loop-turn.invariant.inside keeps.logs (c.rests.ensures.works c.if-rests.false);
      took =
          took-to _ _ _ _ _ _ _ _ _
          (some-taken c.loop-turn.edits c.in-Some.written c.in_ok-edits.edits c.in_ok-written.field-0 c.in-Some.is c.in_ok-edits.ensures)
          c.loop-turn.invariant.took c.in_ok-written.ensures.ok;
      on =
          λ r edits stands.
          let limits = limits_of c.args.limits in
          let on = c.loop-turn.invariant.on r edits stands in
          let more = edits ++ map edit_of on.wrote in
          goes_more (g.A.App.meaning c.args.app.now) (g.met.A.App.lawful c.args.app.now) limits (counting r c.loop-turn.calls) (now_at c.turn_knowing.new.calls r.count) edits (g.M.WriteMutations.taken c.args.sink.now) (g.M.WriteMutations.taken c.loop-turn.sink) (g.M.WriteMutations.taken c.turn_knowing.new.sink) c.loop-turn.edits c.in-Some.written c.in_ok-edits.edits c.loop-turn.machine c.turn_knowing.new.self on
          c.in_ok-edits.ensures
          (subst (λ o. TurnsAs (g.A.App.meaning c.args.app.now) limits (counting r c.turn_knowing.new.calls) more (g.M.WriteMutations.taken c.loop-turn.sink) (g.M.WriteMutations.taken c.turn_knowing.new.sink) c.loop-turn.machine c.turn_knowing.new.self (Ok o)) c.in-Some.is
          (c.in_ok-written.ensures.turns r more on.stands));
      silent =
          λ none.
          let before = c.loop-turn.invariant.silent none in
          let after = keeps.silent before.0 in
          (after.0, after.1 ∙ before.1);
      knows = c.in_ok-written.ensures.knows;
    }

pub returns-in_err-written-clause-breaks : goal.returns-in_err-written-clause-breaks
returns-in_err-written-clause-breaks g c =
    let p = err_from_is_err_and c.from_residual.result c.from_residual.ensures.1 in
    rw (p.1, p.2)
    (
    λ r edits none stands.
    let app = g.A.App.meaning c.args.app.now in
    let limits = limits_of c.args.limits in
    let on = c.loop-turn.invariant.on r edits stands in
    let more = edits ++ map edit_of on.wrote in
    let before = g.M.WriteMutations.taken c.args.sink.now in
    let now = g.M.WriteMutations.taken c.loop-turn.sink in
    let after = g.M.WriteMutations.taken c.turn_knowing.new.sink in
    let ended = c.in_err-written.field-0.0 in
    inside_broke app limits (counting r c.turn_knowing.new.calls) edits before after ended c.args.machine.now c.loop-turn.machine c.loop-turn.invariant.inside
    (in_after app limits (counting r c.loop-turn.calls) (now_at c.turn_knowing.new.calls r.count) (r.opened ++ noted c.loop-turn.machine) edits before now after c.loop-turn.edits c.loop-turn.machine ended on
    ((c.in_err-written.ensures.turns r more on.stands).1 none))
    )

pub returns-in_err-edits-clause-breaks : goal.returns-in_err-edits-clause-breaks
returns-in_err-edits-clause-breaks g c =
    let p = err_from_is_err_and c.from_residual-in_err-edits.result c.from_residual-in_err-edits.ensures.1 in
    rw (p.1, p.2)
    (
    λ r edits none stands.
    let app = g.A.App.meaning c.args.app.now in
    let lawful = g.met.A.App.lawful c.args.app.now in
    let limits = limits_of c.args.limits in
    let on = c.loop-turn.invariant.on r edits stands in
    let more = edits ++ map edit_of on.wrote in
    let before = g.M.WriteMutations.taken c.args.sink.now in
    let now = g.M.WriteMutations.taken c.loop-turn.sink in
    let after = g.M.WriteMutations.taken c.turn_knowing.new.sink in
    let keeps = subst (λ o. TurnKeeps c.loop-turn.machine c.turn_knowing.new.self (Ok o)) c.in-Some.is c.in_ok-written.ensures.keeps in
    inside_broke app limits (counting r c.turn_knowing.new.calls) edits before after wanting c.args.machine.now c.turn_knowing.new.self
    (inside_on c.args.machine.now c.loop-turn.machine c.turn_knowing.new.self c.loop-turn.invariant.inside keeps.logs (c.rests.ensures.works c.if-rests.false))
    (breaks_at app lawful limits (counting r c.turn_knowing.new.calls) edits before after (c.loop-turn.edits + c.in-Some.written) c.turn_knowing.new.self
    (goes_more app lawful limits (counting r c.loop-turn.calls) (now_at c.turn_knowing.new.calls r.count) edits before now after c.loop-turn.edits c.in-Some.written (c.loop-turn.edits + c.in-Some.written) c.loop-turn.machine c.turn_knowing.new.self on refl
    (subst (λ o. TurnsAs app limits (counting r c.turn_knowing.new.calls) more now after c.loop-turn.machine c.turn_knowing.new.self (Ok o)) c.in-Some.is
    (c.in_ok-written.ensures.turns r more on.stands))))
    )

pub returns-in_default-clause-breaks : goal.returns-in_default-clause-breaks
returns-in_default-clause-breaks g c =
    λ r edits none stands.
    let app = g.A.App.meaning c.args.app.now in
    let lawful = g.met.A.App.lawful c.args.app.now in
    let limits = limits_of c.args.limits in
    let on = c.loop-turn.invariant.on r edits stands in
    let more = edits ++ map edit_of on.wrote in
    let before = g.M.WriteMutations.taken c.args.sink.now in
    let now = g.M.WriteMutations.taken c.loop-turn.sink in
    let after = g.M.WriteMutations.taken c.turn_knowing.new.sink in
    let idle =
    subst (λ o. TurnsAs app limits (counting r c.turn_knowing.new.calls) more now after c.loop-turn.machine c.turn_knowing.new.self (Ok o)) c.in_default.is
    (c.in_ok-written.ensures.turns r more on.stands) in
    inside_broke app limits (counting r c.turn_knowing.new.calls) edits before after wanting c.args.machine.now c.loop-turn.machine c.loop-turn.invariant.inside
    (in_along app limits (counting r c.loop-turn.calls) (now_at c.turn_knowing.new.calls r.count) (r.opened ++ noted c.loop-turn.machine) edits before after wanting
    (idles_at app lawful limits (counting r c.loop-turn.calls) edits before now after c.loop-turn.edits c.loop-turn.machine on idle.0))

pub returns-clause-breaks : goal.returns-clause-breaks
returns-clause-breaks g c =
    λ r edits none stands.
    let app = g.A.App.meaning c.args.app.now in
    let limits = limits_of c.args.limits in
    let before = g.M.WriteMutations.taken c.args.sink.now in
    let now = g.M.WriteMutations.taken c.loop-turn.sink in
    inside_broke app limits (counting r c.loop-turn.calls) edits before now wanting c.args.machine.now c.loop-turn.machine c.loop-turn.invariant.inside
    (breaks_at app (g.met.A.App.lawful c.args.app.now) limits (counting r c.loop-turn.calls) edits before now c.loop-turn.edits c.loop-turn.machine (c.loop-turn.invariant.on r edits stands))
