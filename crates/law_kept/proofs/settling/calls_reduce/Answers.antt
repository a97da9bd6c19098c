use Rattle.law_kept.proofs.After.{calls_reduce}
use Rattle.law_kept.proofs.settling.calls_reduce.Goals as goal

pub returns : goal.returns
returns g c = λ k a limits w u m log edits v made. calls_reduce _ k a limits w u m log edits v made
