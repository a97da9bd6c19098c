use Rattle.law_reduce.proofs.Live.{live_never_removed}
use Rattle.law_reduce.proofs.keeping.live_never_removed.Goals as goal

pub returns : goal.returns
returns g c = λ app lawful props inputs limits taken reports ran. live_never_removed app lawful props inputs limits taken reports ran
