-- A task with no such step.
use Rattle.std.proofs.Common.{arith, length, ◌≤◌, ℕ, [], map, ap, slice_get, ◌≡◌, ◌∙◌}
use Rattle.std.specs.Prelude.{None}
use Rattle.std.proofs.lemmas.Option.{slice_get_past}
use Rattle.run_records.specs.Records.{world_of}
use Rattle.author_calls.specs.Calls.{call_of}
use Rattle.rt_model.specs.Lists.{nth, or_else}
use Rattle.lang_syntax.specs.Mirror.{statements_of}
use Rattle.author_programs.specs.Came.{came}
use Rattle.lang_script.proofs.Meant.{step-at}
use Rattle.author_programs.proofs.Steps.{at_done}
use Rattle.lang_script.proofs.script.Script.step.Goals as goal

pub returns-in-None-clause-came : goal.returns-in-None-clause-came
returns-in-None-clause-came c = λ had.
    let same : map statements_of c.steps-steps.result.now ≡ or_else [] (nth (map (map statements_of) c.args.self.now.tasks) c.args.state.task) =
    c.steps-steps.ensures.steps ∙ ap (λ (n : ℕ). or_else [] (nth (map (map statements_of) c.args.self.now.tasks) n)) c.task.ensures in
    let past : length c.steps-steps.result.now ≤ c.args.state.step = omega (arith, c.in-None.ensures.lookup) in
    let none : slice_get c.steps-steps.result.now c.args.state.step ≡ None = slice_get_past c.steps-steps.result.now c.args.state.step past in
    ap (λ p. came (world_of c.args.cx.now.world) p (call_of c.args.cx.now)) (step-at c.args.state _ c.steps-steps.result.now None same none) ∙ at_done _ _ _
