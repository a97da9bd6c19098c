use Rattle.std.proofs.Common.{◌++◌, ◌∷◌, [], ◌∙◌, sym, ap}
use Rattle.std.specs.Prelude.{if◌then◌else◌}
use Rattle.rt_model.specs.State.{Mark}
use Rattle.run_state.proofs.Posts.{none_more, with_owed}
use Rattle.run_state.proofs.posting.add_reader.Goals as goal

pub returns-then-not-names_source : goal.returns-then-not-names_source
returns-then-not-names_source c =
    record {
      posted = none_more c.args.owed.now ∙ ap (λ b. with_owed c.args.owed.now (c.args.owed.now.posted ++ (if b then Mark c.args.scope ∷ [] else []))) (sym c.if-not-names_source.true ∙ c.names_source.ensures);
    }

pub returns : goal.returns
returns c =
    record {
      posted = c.post_mark.ensures.posted ∙ ap (λ b. with_owed c.args.owed.now (c.args.owed.now.posted ++ (if b then Mark c.args.scope ∷ [] else []))) (sym c.if-not-names_source.false ∙ c.names_source.ensures);
    }
