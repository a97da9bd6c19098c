use Rattle.rt_html.proofs.Back.{nodes-back}
use Rattle.rt_html.proofs.laws.nodes_come_back.Goals as goal

pub returns : goal.returns
returns c = λ f. nodes-back f
