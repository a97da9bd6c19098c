-- One mark more, or none.
use Rattle.std.proofs.Common.{◌++◌, ◌∷◌, [], ◌∙◌, sym, ap}
use Rattle.std.specs.Prelude.{if◌then◌else◌}
use Rattle.rt_model.specs.State.{Mark}
use Rattle.run_owed.specs.Lists.{numbers_of}
use Rattle.run_state.proofs.HeldPairs.{held_entered}
use Rattle.run_state.proofs.Posts.{none_more, with_owed}
use Rattle.run_state.proofs.holding.post_held.Goals as goal

pub post_mark-requires : goal.post_mark-requires
post_mark-requires g c =
    record {
      entered = held_entered c.args.rows.now c.args.task c.args.boundary (numbers_of c.args.owed.now.scopes) c.requires.entered (sym c.is_held_by.ensures ∙ c.if-not-is_held_by.false);
    }

pub returns-then-not-is_held_by : goal.returns-then-not-is_held_by
returns-then-not-is_held_by g c =
    record {
      posted = none_more c.args.owed.now
          ∙ ap (λ b. with_owed c.args.owed.now (c.args.owed.now.posted ++ (if b then Mark c.args.boundary ∷ [] else []))) (sym (sym c.is_held_by.ensures ∙ c.if-not-is_held_by.true));
    }

pub returns : goal.returns
returns g c =
    record {
      posted = c.post_mark.ensures.posted
          ∙ ap (λ b. with_owed c.args.owed.now (c.args.owed.now.posted ++ (if b then Mark c.args.boundary ∷ [] else []))) (sym (sym c.is_held_by.ensures ∙ c.if-not-is_held_by.false));
    }
