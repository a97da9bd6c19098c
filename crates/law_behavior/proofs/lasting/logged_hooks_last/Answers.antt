use Rattle.law_behavior.proofs.Steadfast.{logged_hooks_last}
use Rattle.law_behavior.proofs.lasting.logged_hooks_last.Goals as goal

pub returns : goal.returns
returns g c = λ app limits m v log owner index hook settled accepted stays h. logged_hooks_last app limits m v log owner index hook settled accepted stays h
