use Rattle.std.proofs.Common.{◌++◌, ◌∷◌, [], ◌∙◌, sym, ap}
use Rattle.std.specs.Prelude.{if◌then◌else◌}
use Rattle.rt_model.specs.State as model
use Rattle.rt_model.specs.State.{Mark}
use Rattle.run_records.specs.Kept.{scope_of}
use Rattle.run_state.proofs.Posts.{none_more, with_owed}
use Rattle.run_state.proofs.holding.add_held.Goals as goal

pub returns-then-not-holds : goal.returns-then-not-holds
returns-then-not-holds g c =
    record {
      posted = none_more c.args.owed.now ∙ ap (λ b. with_owed c.args.owed.now (c.args.owed.now.posted ++ (if b then Mark c.args.entry.now.0 ∷ [] else []))) (sym c.if-not-holds.true ∙ c.holds.ensures ∙ ap (λ s. model.holds (scope_of s) c.args.task) c.get.ensures.value);
    }

pub returns : goal.returns
returns g c =
    record {
      posted = c.post_mark.ensures.posted ∙ ap (λ b. with_owed c.args.owed.now (c.args.owed.now.posted ++ (if b then Mark c.args.entry.now.0 ∷ [] else []))) (sym c.if-not-holds.false ∙ c.holds.ensures ∙ ap (λ s. model.holds (scope_of s) c.args.task) c.get.ensures.value);
    }
