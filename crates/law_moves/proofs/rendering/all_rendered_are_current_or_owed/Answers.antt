use Rattle.law_moves.proofs.Rendered.{all_rendered_are_current_or_owed}
use Rattle.law_moves.proofs.rendering.all_rendered_are_current_or_owed.Goals as goal

pub returns : goal.returns
returns g c = λ app. all_rendered_are_current_or_owed app
