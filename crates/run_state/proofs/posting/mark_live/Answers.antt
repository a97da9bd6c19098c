use Rattle.std.proofs.Common.{ℕ, List, ◌++◌, ◌∷◌, [], ◌∙◌, sym, ap}
use Rattle.std.specs.Prelude.{is_some, if◌then◌else◌}
use Rattle.rt_model.specs.Lists.{has}
use Rattle.rt_model.specs.State.{Mark}
use Rattle.run_owed.proofs.Tables.{numbers_has}
use Rattle.run_state.proofs.Posts.{none_more, with_owed}
use Rattle.run_state.proofs.posting.mark_live.Goals as goal

pub post_mark-requires : goal.post_mark-requires
post_mark-requires g c =
    record {
      entered = ap (λ (ns : List ℕ). has ns c.args.scope) (sym c.requires.entered)
          ∙ numbers_has c.args.rows.now c.args.scope
          ∙ ap is_some (sym c.in-Some.ensures.value);
    }

pub returns-in-Some : goal.returns-in-Some
returns-in-Some g c =
    record {
      posted = c.post_mark.ensures.posted
          ∙ ap (λ b. with_owed c.args.owed.now (c.args.owed.now.posted ++ (if b then Mark c.args.scope ∷ [] else []))) (ap is_some c.in-Some.ensures.value);
    }

pub returns-in-None : goal.returns-in-None
returns-in-None g c =
    record {
      posted = none_more c.args.owed.now
          ∙ ap (λ b. with_owed c.args.owed.now (c.args.owed.now.posted ++ (if b then Mark c.args.scope ∷ [] else []))) (ap is_some c.in-None.ensures.value);
    }
