use Rattle.law_reduce.proofs.Wrapping.{current_wrapped}
use Rattle.law_reduce.proofs.keeping.current_wrapped.Goals as goal

pub returns : goal.returns
returns g c = λ app lawful limits props inputs m reached alive idle current. current_wrapped app lawful limits props inputs m reached alive idle current
