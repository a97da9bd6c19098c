use Rattle.law_elm.proofs.Ending.{replies_read}
use Rattle.law_elm.proofs.rooting.replies_read.Goals as goal

pub returns : goal.returns
returns g c = λ a own all w inputs told. replies_read _ a own all w inputs told
