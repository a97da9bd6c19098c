use Rattle.law_headline.proofs.Trees.{reached_are_trees}
use Rattle.law_headline.proofs.standing.reached_are_trees.Goals as goal

pub returns : goal.returns
returns g c = λ app lawful. reached_are_trees app lawful
