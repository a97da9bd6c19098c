-- By what the cells keep.
use Rattle.std.proofs.Common.{ap, ◌∙◌}
use Rattle.std.specs.Prelude.{option_map}
use Rattle.run_records.specs.Records.{target_of}
use Rattle.run_state.proofs.Contexts.{target_found}
use Rattle.run_answers.proofs.kept.context_target.Goals as goal

pub returns : goal.returns
returns g c = λ kept. ap (option_map target_of) c.target.ensures.target ∙ target_found kept c.args.state.now c.args.context
