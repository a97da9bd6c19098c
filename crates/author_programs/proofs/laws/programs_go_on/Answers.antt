-- A law.
use Rattle.author_programs.proofs.Goes.{came-on}
use Rattle.author_programs.proofs.laws.programs_go_on.Goals as goal

pub returns : goal.returns
returns g c = λ w p f c. came-on w p f c
