use Rattle.rt_html.proofs.Told.{told}
use Rattle.rt_html.proofs.laws.nodes_are_spelt_in_tokens.Goals as goal

pub returns : goal.returns
returns c = λ f. told f
