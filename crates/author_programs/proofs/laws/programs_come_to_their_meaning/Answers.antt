-- A law.
use Rattle.author_programs.proofs.Goes.{exec-came}
use Rattle.author_programs.proofs.laws.programs_come_to_their_meaning.Goals as goal

pub returns : goal.returns
returns g c = λ w p c. exec-came w p c
