use Rattle.law_kept.proofs.After.{settled_show}
use Rattle.law_kept.proofs.settling.settled_show.Goals as goal

pub returns : goal.returns
returns g c = λ k a lawful limits props w u m log edits v led made r. settled_show _ k a lawful limits props w u m log edits v led made r
