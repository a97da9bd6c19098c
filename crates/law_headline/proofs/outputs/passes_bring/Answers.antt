use Rattle.law_headline.proofs.Passes.{passes_bring}
use Rattle.law_headline.proofs.outputs.passes_bring.Goals as goal

pub returns : goal.returns
returns g c = λ numbers above whole old between new gone come slot. passes_bring numbers above whole old between new gone come slot
