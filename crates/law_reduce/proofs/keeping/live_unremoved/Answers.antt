use Rattle.law_reduce.proofs.Live.{live_unremoved}
use Rattle.law_reduce.proofs.keeping.live_unremoved.Goals as goal

pub returns : goal.returns
returns g c = λ app lawful limits props inputs m v moves s reached leads alive live. live_unremoved app lawful limits props inputs m v moves s reached leads alive live
