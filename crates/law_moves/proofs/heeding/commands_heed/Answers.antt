use Rattle.law_moves.proofs.CalmCommands.{commands_heed}
use Rattle.law_moves.proofs.heeding.commands_heed.Goals as goal

pub returns : goal.returns
returns g c = λ app tests n w s polled cs from. commands_heed app tests n w s polled cs from
