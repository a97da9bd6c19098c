-- A law.
use Rattle.author_programs.proofs.Apart.{kinds-go-on}
use Rattle.author_programs.proofs.ranges.kinds_go_on.Goals as goal

pub returns : goal.returns
returns g c = kinds-go-on _ _ _
