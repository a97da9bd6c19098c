-- By what is written, where both blocks meet.
use Rattle.law_served.proofs.Blocks as blocks
use Rattle.law_served.proofs.meets.run_renews.Goals as goal

pub returns : goal.returns
returns g c = λ app. blocks.run_renews app
