-- Whether an answer of a fallback counts.
use Rattle.std.proofs.Common.{◌∙◌, refl}
use Rattle.rt_boundary.proofs.Stepped.{counts_ok}
use Rattle.rt_boundary.proofs.parts.counts_answer.Goals as goal

pub returns-in-Component : goal.returns-in-Component
returns-in-Component g c = rw c.in-Component.is (λ children. c.is_ok.ensures.value ∙ counts_ok c.args.answer.now children (c.in-Component.field-0, c.in-Component.field-1))

pub returns-in-Placeholder : goal.returns-in-Placeholder
returns-in-Placeholder g c = rw c.in-Placeholder.is (λ children. refl)
