use Rattle.law_patch.proofs.Served.{mark_alike}
use Rattle.law_patch.proofs.serving.written_so_far.Goals as goal

pub returns : goal.returns
returns g c = λ app b side inner known m agree all. mark_alike app b side inner known agree m all
