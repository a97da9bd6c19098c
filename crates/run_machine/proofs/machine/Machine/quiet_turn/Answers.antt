use Rattle.std.proofs.Common.{[], sym, ◌∙◌, subst}
use Rattle.std.proofs.lemmas.Result.{err_from_is_err_and}
use Rattle.std.specs.Prelude.{Ok}
use Rattle.run_reports.specs.Seen.{limits_of}
use Rattle.run_machine.specs.Machines.{HearsAs, machine_of, noted, CountsHeard}
use Rattle.rt_model.specs.Replay as replay
use Rattle.run_turns.specs.Counting.{now_at}
use Rattle.run_machine.specs.Stands.{QuietAs, StandsQuiet, counting}
use Rattle.run_turns.proofs.Counting.{along}
use Rattle.run_outside.proofs.Said.{if_err}
use Rattle.run_machine.proofs.Quiet.{stands_silent, quiet_cut}
use Rattle.run_machine.proofs.Turning.{stands_heard}
use Rattle.run_state.specs.Mirror.{at_first}
use Rattle.run_machine.proofs.Noting.{stop_never_spent, heard_keeps, unheard_keeps, passed_keeps}
use Rattle.run_machine.proofs.machine.Machine.quiet_turn.Goals as goal

pub returns-in_err-hear-clause-turns : goal.returns-in_err-hear-clause-turns
returns-in_err-hear-clause-turns g c =
    let p = err_from_is_err_and c.from_residual.result c.from_residual.ensures.1 in
    rw (p.1, p.2)
    (
    λ r edits over idle stands fault why.
    quiet_cut (g.A.App.meaning c.args.app.now) (g.met.A.App.lawful c.args.app.now) (limits_of c.args.limits) (counting r c.args.calls.now) edits c.args.self.now c.hear.new.self c.in_err-hear.field-0.0 fault stands
    (λ kept. c.in_err-hear.ensures.hears kept r.left r.taken) why
    )

pub returns-then-branch-clause-turns : goal.returns-then-branch-clause-turns
returns-then-branch-clause-turns g c =
    λ r edits over idle stands.
    let app = g.A.App.meaning c.args.app.now in
    stands_heard app (g.met.A.App.lawful c.args.app.now) (limits_of c.args.limits) (counting r c.args.calls.now) (now_at c.hear.new.calls r.count) edits c.args.self.now c.hear.new.self stands (c.hear.ensures.first ∙ over)
    (λ kept. subst (λ b. HearsAs app (machine_of kept r.left r.taken c.args.self.now) (noted c.args.self.now) (noted c.hear.new.self) (λ h. machine_of h r.left r.taken c.hear.new.self) (Ok b)) c.if-branch.true (c.in_ok-hear.ensures.hears kept r.left r.taken))
    (c.hear.ensures.work ∙ idle)
    (
    λ kept first others waits.
    let m = machine_of kept r.left r.taken c.args.self.now in
    along r.count c.args.calls.now c.hear.new.calls kept.calls ((replay.heard_event app m first others m.event).state).calls
    (subst (λ b. CountsHeard app c.args.self.now c.args.calls.now c.hear.new.calls b) c.if-branch.true c.in_ok-hear.ensures.counted kept r.left r.taken first others waits)
    )

pub returns-clause-turns : goal.returns-clause-turns
returns-clause-turns g c =
    λ r edits over idle stands.
    let app = g.A.App.meaning c.args.app.now in
    c.next_turn.ensures.turns r edits (c.hear.ensures.first ∙ over) (c.hear.ensures.work ∙ idle)
    (subst (λ n. StandsQuiet app (limits_of c.args.limits) (counting r n) edits c.hear.new.self) (sym (subst (λ b. CountsHeard app c.args.self.now c.args.calls.now c.hear.new.calls b) c.if-branch.false c.in_ok-hear.ensures.counted))
    (stands_silent app (g.met.A.App.lawful c.args.app.now) (limits_of c.args.limits) (counting r c.args.calls.now) edits c.args.self.now c.hear.new.self stands
    (λ kept. subst (λ b. HearsAs app (machine_of kept r.left r.taken c.args.self.now) (noted c.args.self.now) (noted c.hear.new.self) (λ h. machine_of h r.left r.taken c.hear.new.self) (Ok b)) c.if-branch.false (c.in_ok-hear.ensures.hears kept r.left r.taken))))

pub returns-in_err-hear-clause-keeps : goal.returns-in_err-hear-clause-keeps
returns-in_err-hear-clause-keeps g c =
    let p = err_from_is_err_and c.from_residual.result c.from_residual.ensures.1 in
    rw (p.1, p.2)
    (
    λ idle over.
    unheard_keeps (g.A.App.meaning c.args.app.now) (machine_of at_first [] 0 c.args.self.now) (λ h. machine_of h [] 0 c.hear.new.self) c.args.self.now c.hear.new.self c.in_err-hear.field-0.0 idle over
    (c.in_err-hear.ensures.hears at_first [] 0) c.hear.ensures.silent
    )

pub returns-then-branch-clause-keeps : goal.returns-then-branch-clause-keeps
returns-then-branch-clause-keeps g c =
    λ idle over.
    let app = g.A.App.meaning c.args.app.now in
    heard_keeps app (machine_of at_first [] 0 c.args.self.now) (λ h. machine_of h [] 0 c.hear.new.self) c.args.self.now c.hear.new.self 0 idle over
    (subst (λ b. HearsAs app (machine_of at_first [] 0 c.args.self.now) (noted c.args.self.now) (noted c.hear.new.self) (λ h. machine_of h [] 0 c.hear.new.self) (Ok b)) c.if-branch.true (c.in_ok-hear.ensures.hears at_first [] 0))
    c.hear.ensures.silent

pub returns-clause-keeps : goal.returns-clause-keeps
returns-clause-keeps g c =
    λ idle over.
    passed_keeps c.args.self.now c.hear.new.self c.next_turn.new.self c.next_turn.result idle over (c.in_ok-hear.ensures.passed c.if-branch.false) c.hear.ensures.silent
    (c.next_turn.ensures.keeps (c.hear.ensures.work ∙ idle) (c.hear.ensures.first ∙ over))

pub returns-in_err-hear-clause-uncalled : goal.returns-in_err-hear-clause-uncalled
returns-in_err-hear-clause-uncalled g c =
    let p = err_from_is_err_and c.from_residual.result c.from_residual.ensures.1 in
    rw (p.1, p.2) (λ units why. stop_never_spent c.in_err-hear.field-0.0 units why)

pub returns-clause-uncalled : goal.returns-clause-uncalled
returns-clause-uncalled g c =
    if_err c.next_turn.result c.next_turn.ensures.uncalled
    (λ ended stays units why. stays units why ∙ subst (λ b. CountsHeard (g.A.App.meaning c.args.app.now) c.args.self.now c.args.calls.now c.hear.new.calls b) c.if-branch.false c.in_ok-hear.ensures.counted)
