use Rattle.law_behavior.proofs.Taking.{looks_take_all}
use Rattle.law_behavior.proofs.owing.looks_take_all.Goals as goal

pub returns : goal.returns
returns g c = looks_take_all _
