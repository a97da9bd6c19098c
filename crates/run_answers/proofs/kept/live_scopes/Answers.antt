-- Those of the table's rows, whatever isn't kept.
use Rattle.std.proofs.Common.{◌∙◌, ap}
use Rattle.rt_model.specs.Removal.{numbers_of}
use Rattle.run_state.specs.Mirror.{scopes_of}
use Rattle.run_state.proofs.Changed.{if_ok}
use Rattle.run_answers.proofs.kept.live_scopes.Goals as goal

pub returns : goal.returns
returns g c =
    record {
      scopes =
          if_ok c.scopes_in.result c.scopes_in.ensures (λ scopes are kept. are ∙ ap (λ rows. numbers_of (scopes_of rows)) c.as_slice.ensures.rows);
    }
