use Rattle.law_behavior.proofs.Held.{holders_last}
use Rattle.law_behavior.proofs.lasting.holders_last.Goals as goal

pub returns : goal.returns
returns g c = λ app lawful limits m v moves b t leads stays drawn live h. holders_last app lawful limits m v moves b t leads stays drawn live h
