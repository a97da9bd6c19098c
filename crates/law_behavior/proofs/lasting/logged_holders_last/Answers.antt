use Rattle.law_behavior.proofs.Held.{logged_holders_last}
use Rattle.law_behavior.proofs.lasting.logged_holders_last.Goals as goal

pub returns : goal.returns
returns g c = λ app lawful limits m v log b t settled accepted stays drawn live h. logged_holders_last app lawful limits m v log b t settled accepted stays drawn live h
