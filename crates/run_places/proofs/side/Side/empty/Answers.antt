-- Of no tree nothing is known.
use Rattle.std.proofs.Common.{refl}
use Rattle.std.specs.Prelude.{None}
use Rattle.run_places.proofs.Knowing.{known_none}
use Rattle.run_places.proofs.side.Side.empty.Goals as goal

pub invariant_of-result : goal.invariant_of-result
invariant_of-result g c = record { known = λ app tests. known_none None c.empty.result c.empty-2.result refl c.empty.ensures.empty c.empty-2.ensures.empty }

pub returns-clause-bare : goal.returns-clause-bare
returns-clause-bare g c =
    record {
      output = refl;
      nodes = c.empty.ensures.empty;
      seats = c.empty-2.ensures.empty;
      numbers = c.new.ensures.empty;
      children = c.new-2.ensures.empty;
    }
