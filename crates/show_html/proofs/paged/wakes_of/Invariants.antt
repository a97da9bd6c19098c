-- The tasks so far, and those of the inputs that are left, are those of all.
use Rattle.std.proofs.Common.{◌≡◌, drop, map}
use Rattle.run_reports.specs.Seen.{input_of}
use Rattle.show_html.specs.Paging.{wakes_in}
use Rattle.show_html.proofs.Wakes.{with_front}
use Rattle.show_html.proofs.paged.wakes_of.Given as goal

abbrev pub invariant-loop-input : goal.invariant-loop-input
invariant-loop-input l =
    with_front (map (λ task. task.0) l.wakes) (wakes_in (map input_of (drop l.input-index l.inputs))) ≡ wakes_in (map input_of l.inputs)
