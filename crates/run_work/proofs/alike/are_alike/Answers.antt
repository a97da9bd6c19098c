-- What all levels answer.
use Rattle.std.proofs.Common.{[]}
use Rattle.run_work.proofs.AlikeSpots.{alike_spots}
use Rattle.run_work.proofs.alike.are_alike.Goals as goal

pub returns : goal.returns
returns g c = λ yes. alike_spots c.args.old.now c.args.new.now (c.in-Ok.ensures [])
