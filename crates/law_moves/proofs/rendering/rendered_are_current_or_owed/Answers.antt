use Rattle.law_moves.proofs.Rendered.{rendered_are_current_or_owed}
use Rattle.law_moves.proofs.rendering.rendered_are_current_or_owed.Goals as goal

pub returns : goal.returns
returns g c = λ app. rendered_are_current_or_owed app
