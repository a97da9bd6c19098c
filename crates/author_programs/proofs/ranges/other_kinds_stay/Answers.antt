-- A law.
use Rattle.author_programs.proofs.Apart.{other-kinds-stay}
use Rattle.author_programs.proofs.ranges.other_kinds_stay.Goals as goal

pub returns : goal.returns
returns g c = other-kinds-stay _ _
