-- The agenda of the tree.
use Rattle.std.proofs.Common.{rules}
use Rattle.rt_scopes.proofs.scopes.Scopes.patch.Goals as goal

pub returns : goal.returns
returns g c =
    record {
      patched = λ app tests count kept. (kept, c.in_ok-start_agenda.ensures app tests kept, λ was. was);
    }

pub returns-in_err-start_agenda : goal.returns-in_err-start_agenda
returns-in_err-start_agenda g c =
    record {
      patched = λ app tests count kept. (kept, search rules, search rules);
    }
