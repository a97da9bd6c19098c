use Rattle.std.proofs.Common.{[], ◌++◌, refl, sym, ap, subst}
use Rattle.std.proofs.lemmas.List.{append-nil}
use Rattle.run_reports.specs.Seen.{limits_of}
use Rattle.run_work.specs.Items.{item_of}
use Rattle.law_moves.specs.Turn.{turn_of}
use Rattle.run_turns.specs.Counting.{calls_after, now_at}
use Rattle.run_machine.specs.Machines.{noted}
use Rattle.run_machine.specs.Stands.{StandsAt, counting}
use Rattle.run_machine.specs.Writings.{WroteUntil, CutsShort}
use Rattle.run_machine.proofs.Breaking.{in_along, in_refused}
use Rattle.run_turns.proofs.Counting.{along}
use Rattle.run_machine.proofs.Turning.{grown_none, came_along, stands_served, stands_refused}
use Rattle.run_state.specs.Mirror.{at_first, state_of}
use Rattle.run_machine.proofs.Noting.{served_keeps, refused_keeps}
use Rattle.run_machine.proofs.machine.Machine.work_turn.Goals as goal

pub returns-in-Ok-clause-turns : goal.returns-in-Ok-clause-turns
returns-in-Ok-clause-turns g c =
    λ r edits first is stands.
    let app = g.A.App.meaning c.args.app.now in
    record {
      wrote = [];
      told = grown_none (g.M.WriteMutations.taken c.args.sink.now);
      counted = refl;
      stands =
          subst (λ es. StandsAt app (limits_of c.args.limits) (counting r c.serve.new.calls) es c.serve.new.self) (sym (append-nil edits))
          (stands_served app (g.met.A.App.lawful c.args.app.now) (limits_of c.args.limits) (counting r c.args.calls.now) (now_at c.serve.new.calls r.count) (item_of c.args.item.now) first edits c.args.self.now c.serve.new.self stands is
          c.serve.ensures.others c.in-Ok.ensures.serves c.in-Ok.ensures.remembers
          (λ kept. along r.count c.args.calls.now c.serve.new.calls kept.calls (calls_after (turn_of app (state_of kept c.args.self.now.scopes.state) (item_of c.args.item.now))) (c.in-Ok.ensures.counted kept)));
    }

pub returns-in-Err-clause-turns : goal.returns-in-Err-clause-turns
returns-in-Err-clause-turns g c =
    λ r edits first is stands. (
      λ fault why.
          let both = c.cut.ensures.cuts fault why in
          let before = counting r c.args.calls.now in
          came_along (g.A.App.meaning c.args.app.now) (limits_of c.args.limits) before (now_at c.serve.new.calls r.count) edits (g.M.WriteMutations.taken c.args.sink.now) (g.M.WriteMutations.taken c.cut.new.sink) fault c.serve.new.self
          (stands_refused (g.A.App.meaning c.args.app.now) (g.met.A.App.lawful c.args.app.now) (limits_of c.args.limits) before (item_of c.args.item.now) first edits c.args.self.now c.serve.new.self
          (g.M.WriteMutations.taken c.args.sink.now) (g.M.WriteMutations.taken c.cut.new.sink) c.in-Err.ended fault stands is c.serve.ensures.others c.in-Err.ensures.serves c.in-Err.ensures.remembers both.0
          both.1),
      λ none.
          let app = g.A.App.meaning c.args.app.now in
          let before = counting r c.args.calls.now in
          in_along app (limits_of c.args.limits) before (now_at c.serve.new.calls r.count) (r.opened ++ noted c.args.self.now) edits (g.M.WriteMutations.taken c.args.sink.now) (g.M.WriteMutations.taken c.cut.new.sink) c.cut.result
          (in_refused app (g.met.A.App.lawful c.args.app.now) (limits_of c.args.limits) before (item_of c.args.item.now) first edits c.args.self.now c.serve.new.self
          (g.M.WriteMutations.taken c.args.sink.now) (g.M.WriteMutations.taken c.cut.new.sink) c.in-Err.ended c.cut.result stands is c.serve.ensures.others c.in-Err.ensures.serves c.in-Err.ensures.remembers
          c.cut.ensures.part
          none),
    )

pub returns-in-Ok-clause-keeps : goal.returns-in-Ok-clause-keeps
returns-in-Ok-clause-keeps g c =
    served_keeps (g.A.App.meaning c.args.app.now) (state_of at_first c.args.self.now.scopes.state) (item_of c.args.item.now) c.args.self.now c.serve.new.self 0
    (c.in-Ok.ensures.serves at_first).1.logged (ap (λ d. d.hearing) c.serve.ensures.others) (ap (λ d. d.default_enabled) c.serve.ensures.others)

pub returns-in-Err-clause-keeps : goal.returns-in-Err-clause-keeps
returns-in-Err-clause-keeps g c =
    refused_keeps (g.A.App.meaning c.args.app.now) (state_of at_first c.args.self.now.scopes.state) (item_of c.args.item.now) _ _ c.args.self.now c.serve.new.self c.in-Err.ended c.cut.result
    (c.in-Err.ensures.serves at_first) (λ fault why. (c.cut.ensures.cuts fault why).0) (ap (λ d. d.hearing) c.serve.ensures.others) (ap (λ d. d.default_enabled) c.serve.ensures.others)

pub returns-in-Ok-clause-knows : goal.returns-in-Ok-clause-knows
returns-in-Ok-clause-knows g c = c.in-Ok.ensures.knows
