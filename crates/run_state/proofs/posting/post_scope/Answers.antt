use Rattle.std.proofs.Common.{◌++◌, [], ◌∙◌, sym, ap}
use Rattle.std.specs.Prelude.{if◌then◌else◌}
use Rattle.run_state.specs.Posts.{mark_of, stands_in}
use Rattle.run_state.proofs.Posts.{none_more, with_owed}
use Rattle.run_state.proofs.posting.post_scope.Goals as goal

pub returns-then-not-rises : goal.returns-then-not-rises
returns-then-not-rises g c =
    record {
      posted = none_more c.args.owed.now ∙ ap (λ b. with_owed c.args.owed.now (c.args.owed.now.posted ++ (if b then mark_of (stands_in c.args.rows.now) c.args.scope else []))) (sym c.if-not-rises.true);
    }

pub returns : goal.returns
returns g c =
    record {
      posted = c.mark_live.ensures.posted ∙ ap (λ b. with_owed c.args.owed.now (c.args.owed.now.posted ++ (if b then mark_of (stands_in c.args.rows.now) c.args.scope else []))) (sym c.if-not-rises.false);
    }
