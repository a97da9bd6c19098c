-- Between two steps a patch waits for no answer.
use Rattle.std.proofs.Common.{◌≡◌}
use Rattle.rt_tree.specs.Awaits.{awaited, no_answer}
use Rattle.test_layers.proofs.tests.blocks.serving.Stage.run.Given as goal

abbrev pub invariant-loop : goal.invariant-loop
invariant-loop g l = awaited l.patch.phase ≡ no_answer
