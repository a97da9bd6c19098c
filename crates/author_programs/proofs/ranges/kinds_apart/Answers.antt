-- A law.
use Rattle.author_programs.proofs.Apart.{kinds-apart}
use Rattle.author_programs.proofs.ranges.kinds_apart.Goals as goal

pub returns : goal.returns
returns c = kinds-apart
