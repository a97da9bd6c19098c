use Rattle.rt_html.proofs.Found.{spelt_apart}
use Rattle.rt_html.proofs.laws.spellings_are_apart.Goals as goal

pub returns : goal.returns
returns c = λ nodes others fit also same. spelt_apart nodes others fit also same
