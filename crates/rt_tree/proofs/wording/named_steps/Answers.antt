-- The words of a place are those of the definitions.
use Rattle.std.proofs.Common.{◌∙◌, ap, map}
use Rattle.run_named.specs.Named.{step_in}
use Rattle.rt_tree.proofs.wording.named_steps.Goals as goal

pub returns-clause-steps : goal.returns-clause-steps
returns-clause-steps c = ap (λ xs. map step_in xs) (c.in_ok-steps.ensures.items ∙ c.as_slice.ensures.items) ∙ ap (λ n. n.steps) c.in_ok-named.ensures.named

pub returns-clause-path : goal.returns-clause-path
returns-clause-path c = c.in_ok-path.ensures.items ∙ c.as_slice-2.ensures.items ∙ ap (λ n. n.path) c.in_ok-named.ensures.named
