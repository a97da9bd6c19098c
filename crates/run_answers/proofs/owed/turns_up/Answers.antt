use Rattle.std.proofs.Common.{◌∙◌, sym, refl, true, false}
use Rattle.run_owed.specs.Lists.{marks_in, wakes_in}
use Rattle.run_owed.specs.Owing.{living}
use Rattle.run_state.specs.Mirror.{state_of}
use Rattle.run_state.proofs.Entered.{live_entered}
use Rattle.run_answers.specs.Owed.{any_active}
use Rattle.run_answers.proofs.TurnsUp.{any_told, turned_up}
use Rattle.run_answers.proofs.owed.turns_up.Goals as goal

pub returns-then-has_marks : goal.returns-then-has_marks
returns-then-has_marks g c =
    λ kept.
    let w = state_of kept c.args.state.now in
    let o = c.args.state.now.owed in
    let told = any_told c.has_marks.result (living o.scopes (marks_in o.posted)) c.has_marks.ensures.marks.0 c.has_marks.ensures.marks.1 in
    c.if-has_marks.true
    ∙ turned_up w o.scopes true (any_active w.tasks (wakes_in w.posted)) (live_entered kept c.args.state.now) (sym c.if-has_marks.true ∙ told) refl

pub returns-else-has_marks : goal.returns-else-has_marks
returns-else-has_marks g c =
    λ kept.
    let w = state_of kept c.args.state.now in
    let o = c.args.state.now.owed in
    let told = any_told c.has_marks.result (living o.scopes (marks_in o.posted)) c.has_marks.ensures.marks.0 c.has_marks.ensures.marks.1 in
    turned_up w o.scopes false c.any_woken.result (live_entered kept c.args.state.now) (sym c.if-has_marks.false ∙ told) (c.any_woken.ensures kept)
