use Rattle.law_headline.proofs.Elements.{fitting_bring}
use Rattle.law_headline.proofs.fitting.fitting_bring.Goals as goal

pub returns : goal.returns
returns g c = λ numbers above new old level other same fits was. fitting_bring numbers above new old level other same fits was
