-- A law.
use Rattle.author_programs.proofs.Apart.{commands-within}
use Rattle.author_programs.proofs.ranges.commands_within.Goals as goal

pub returns : goal.returns
returns g c = commands-within _ _
