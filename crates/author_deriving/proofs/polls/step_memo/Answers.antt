-- The task was polled, and goes on from where it stands then.
use Rattle.std.proofs.Common.{rules, ◌∙◌, ap, sym}
use Rattle.rt_model.specs.Program.{done}
use Rattle.rt_model.specs.World.{pending}
use Rattle.author_programs.specs.Came.{reached}
use Rattle.author_programs.proofs.Steps.{at_done}
use Rattle.run_records.specs.Records.{world_of}
use Rattle.author_calls.specs.Calls.{call_of}
use Rattle.author_bodies.proofs.Following.{one_after}
use Rattle.author_formulas.specs.Memos as memos
use Rattle.author_deriving.specs.Task.{task_of}
use Rattle.author_deriving.proofs.polls.step_memo.Goals as goal

pub returns-clause-came : goal.returns-clause-came
returns-clause-came g c = λ remembered.
    let cx = c.args.cx.now in
    let end = c.poll_memo.new.cx in
    let a = g.S.HasMemo.formulas c.args.app.now in
    let state = g.S.HasMemo.state in
    let m = task_of c.args.task in
    let next = task_of c.in_ok-next.next in
    let last = c.memo_state.result in
    one_after cx end end (memos.memo_polled a m) (λ n. done (pending (state n))) next (pending last) (search rules)
    (c.in_ok-next.ensures.came remembered)
    (at_done (world_of end.world) (pending (state next)) (call_of end)
    ∙ ap (λ s. reached (pending s) (call_of end)) (sym c.memo_state.ensures.state))
