use Rattle.std.proofs.Common.{◌++◌, ◌∙◌, ap}
use Rattle.run_state.specs.Posts.{posts_of_found, stands_in}
use Rattle.run_state.proofs.Posts.{none_more, with_owed}
use Rattle.run_state.proofs.posting.post_context.Goals as goal

pub returns-in-Some : goal.returns-in-Some
returns-in-Some g c =
    record {
      posted = c.post_live.ensures.posted
          ∙ ap (λ found. with_owed c.args.owed.now (c.args.owed.now.posted ++ posts_of_found (stands_in c.args.rows.now) (stands_in c.args.tasks.now) found)) c.in-Some.ensures.target;
    }

pub returns-in-None : goal.returns-in-None
returns-in-None g c =
    record {
      posted = none_more c.args.owed.now
          ∙ ap (λ found. with_owed c.args.owed.now (c.args.owed.now.posted ++ posts_of_found (stands_in c.args.rows.now) (stands_in c.args.tasks.now) found)) c.in-None.ensures.target;
    }
