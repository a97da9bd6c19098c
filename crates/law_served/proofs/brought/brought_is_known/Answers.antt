-- From where nothing was passed.
use Rattle.std.proofs.Common.{[]}
use Rattle.tree_marks.specs.Spots.{brings}
use Rattle.law_served.specs.KnownSpots.{KnownAt}
use Rattle.law_served.proofs.Passing.{begins, known_run}
use Rattle.law_served.proofs.Spots.{known_grown, node_known, seat_known}
use Rattle.law_served.proofs.brought.brought_is_known.Goals as goal

pub returns : goal.returns
returns g c = λ app p r es met run free start.
    known_run (λ q s. KnownAt q s) (λ m. brings m) known_grown node_known seat_known app [] p r es met run
    (begins (λ q s. KnownAt q s) (λ m. brings m) known_grown node_known seat_known p.phase p free) start
