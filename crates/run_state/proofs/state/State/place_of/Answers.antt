-- The table has the place of each node.
use Rattle.std.proofs.Common.{ap, ◌∙◌}
use Rattle.std.proofs.Math.Logic.{∥∥₁_elim}
use Rattle.std.specs.Prelude.{option_map}
use Rattle.run_named.specs.Named.{named_in, named_of}
use Rattle.run_named.proofs.Found.{node_found}
use Rattle.run_state.specs.Mirror.{state_of}
use Rattle.run_state.proofs.Placed.{one_place}
use Rattle.run_state.proofs.state.State.place_of.Goals as goal

pub returns : goal.returns
returns g c =
    record {
      place = λ kept.
          ap (option_map named_in) c.get.ensures.value
          ∙ ∥∥₁_elim c.args.self.now.placed (one_place _ _) (λ h. h.each c.args.number)
          ∙ ap (option_map named_of) (node_found (state_of kept c.args.self.now) c.args.number);
    }
