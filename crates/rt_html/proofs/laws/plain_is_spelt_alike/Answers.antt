use Rattle.rt_html.proofs.Alike.{spelt_alike}
use Rattle.rt_html.proofs.laws.plain_is_spelt_alike.Goals as goal

pub returns : goal.returns
returns c = λ f. spelt_alike f
