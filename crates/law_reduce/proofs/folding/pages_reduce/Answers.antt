use Rattle.law_reduce.proofs.Folded.{pages_reduce}
use Rattle.law_reduce.proofs.folding.pages_reduce.Goals as goal

pub returns : goal.returns
returns g c = λ k a props inputs limits taken reports ran. pages_reduce _ k a props inputs limits taken reports ran
