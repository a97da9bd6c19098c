use Rattle.std.proofs.Common.{Bool, false, ◌&&◌, ◌≡◌, ◌∙◌, ap, sym}
use Rattle.std.specs.Prelude.{ℕ, Option, Some, None}
use Rattle.rt_model.specs.Lists.{at}
use Rattle.rt_model.specs.Tree.{Types}
use Rattle.rt_model.specs.State.{TaskRow, State}
use Rattle.rt_model.specs.Rendering.{may_poll, runs_suspended}
use Rattle.run_state.specs.Mirror.{state_of, task_of}
use Rattle.run_state.specs.Names.{task_kind_of}
use Rattle.run_state.proofs.Each.{found-each}
use Rattle.run_answers.proofs.passing.may_poll.Goals as goal

-- by what is found
polled_found : {K : Types} (w : State K) (t : ℕ) (o : Option (TaskRow K)) → at w.tasks t ≡ o
    → (elim o as (λ z. Bool) [ None ↦ false | Some x ↦ x.active && runs_suspended x.kind ]) ≡ may_poll w t
polled_found w t o is = ap (λ p. elim p as (λ z. Bool) [ None ↦ false | Some x ↦ x.active && runs_suspended x.kind ]) (sym is)

pub returns-then-row : goal.returns-then-row
returns-then-row g c =
    λ kept.
    let row = c.in-Some.row.now in
    c.runs_suspended.ensures
    ∙ ap (λ b. b && runs_suspended (task_kind_of row.kind)) (sym c.if-row.true)
    ∙ polled_found (state_of kept c.args.state.now) c.args.task (Some (task_of row))
    (found-each task_of c.args.state.now.tasks c.args.task (Some row) c.in-Some.ensures.value)

pub returns-else-row : goal.returns-else-row
returns-else-row g c =
    λ kept.
    let row = c.in-Some.row.now in
    c.if-row.false
    ∙ ap (λ b. b && runs_suspended (task_kind_of row.kind)) (sym c.if-row.false)
    ∙ polled_found (state_of kept c.args.state.now) c.args.task (Some (task_of row))
    (found-each task_of c.args.state.now.tasks c.args.task (Some row) c.in-Some.ensures.value)

pub returns-in-None : goal.returns-in-None
returns-in-None g c =
    λ kept.
    polled_found (state_of kept c.args.state.now) c.args.task None (found-each task_of c.args.state.now.tasks c.args.task None c.in-None.ensures.value)
