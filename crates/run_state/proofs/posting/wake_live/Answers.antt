use Rattle.std.proofs.Common.{ℕ, List, ◌++◌, ◌∷◌, [], ◌∙◌, sym, ap}
use Rattle.std.specs.Prelude.{is_some, if◌then◌else◌}
use Rattle.rt_model.specs.Lists.{has}
use Rattle.rt_model.specs.State.{Woken}
use Rattle.run_owed.proofs.Tables.{numbers_has}
use Rattle.run_state.proofs.Posts.{none_more, with_owed}
use Rattle.run_state.proofs.posting.wake_live.Goals as goal

pub post_wake-requires : goal.post_wake-requires
post_wake-requires g c =
    record {
      entered = ap (λ (ns : List ℕ). has ns c.args.task) (sym c.requires.woken)
          ∙ numbers_has c.args.tasks.now c.args.task
          ∙ ap is_some (sym c.in-Some.ensures.value);
    }

pub returns-in-Some : goal.returns-in-Some
returns-in-Some g c =
    record {
      posted = c.post_wake.ensures.posted
          ∙ ap (λ b. with_owed c.args.owed.now (c.args.owed.now.posted ++ (if b then Woken c.args.task ∷ [] else []))) (ap is_some c.in-Some.ensures.value);
    }

pub returns-in-None : goal.returns-in-None
returns-in-None g c =
    record {
      posted = none_more c.args.owed.now
          ∙ ap (λ b. with_owed c.args.owed.now (c.args.owed.now.posted ++ (if b then Woken c.args.task ∷ [] else []))) (ap is_some c.in-None.ensures.value);
    }
