-- Those of the table's rows are those that live.
use Rattle.std.proofs.Common.{Bool, List, ◌&&◌, ◌∙◌, ap, nat_eq}
use Rattle.rt_model.specs.Lists.{has}
use Rattle.rt_model.specs.Removal.{numbers_of}
use Rattle.rt_model.specs.State.{height_of}
use Rattle.run_state.specs.Mirror.{scopes_of}
use Rattle.run_state.proofs.Changed.{if_ok}
use Rattle.run_answers.proofs.LastRanked.{numbers_live}
use Rattle.run_answers.proofs.ranking.ranked_scopes.Goals as goal

pub returns : goal.returns
returns g c =
    record {
      ranked =
          if_ok c.ranks_in.result c.ranks_in.ensures
          (
          λ ranks are h s.
          are h s
          ∙ ap (λ rows. has (numbers_of (scopes_of rows)) s && nat_eq (height_of (scopes_of c.args.state.now.rows.table) s) h) c.as_slice.ensures.rows
          ∙ ap (λ (b : Bool). b && nat_eq (height_of (scopes_of c.args.state.now.rows.table) s) h) (numbers_live (scopes_of c.args.state.now.rows.table) s)
          );
    }
