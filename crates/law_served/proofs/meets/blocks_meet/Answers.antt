-- By what keeps its number, and its child scope.
use Rattle.law_served.proofs.Blocks as blocks
use Rattle.law_served.proofs.meets.blocks_meet.Goals as goal

pub returns : goal.returns
returns g c = λ app. blocks.blocks_meet app
