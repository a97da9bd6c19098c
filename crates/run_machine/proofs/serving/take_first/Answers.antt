use Rattle.std.proofs.Common.{sym, ◌∙◌}
use Rattle.rt_model.specs.Removal.{next_removed}
use Rattle.run_state.specs.Mirror.{state_of}
use Rattle.rt_scopes.proofs.KnownLeft.{one_number}
use Rattle.run_machine.proofs.serving.take_first.Goals as goal

pub take-requires : goal.take-requires
take-requires g c =
    record {
      leaf = λ kept. one_number c.in-Some.leaf (next_removed (state_of kept c.args.scopes.now.state) c.args.child) (sym c.in-Some.is ∙ c.requires.leaf kept);
    }

pub returns-in-None-clause-turned : goal.returns-in-None-clause-turned
returns-in-None-clause-turned g c = λ kept. (kept, tt)
