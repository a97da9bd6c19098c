-- It has finished with the inputs that it took in, and a session that finished is the headline's.
use Rattle.std.proofs.Common.{subst}
use Rattle.law_headline.specs.Sessions.{RanIsHeadline}
use Rattle.rt_model.specs.Laws.{IsLawful}
use Rattle.run_ongoing.proofs.Going.{finished_so_far}
use Rattle.run_ongoing.proofs.ongoing.Ongoing.holds.Goals as goal

pub returns : goal.returns
returns g c = record {
  headline = λ app limits props inputs before now reports awaits.
      let law : RanIsHeadline app = subst (λ a. RanIsHeadline a) awaits.owned (c.laws_of.ensures).headline in
      let done = finished_so_far (λ a. g.A.App.meaning a) app limits props inputs before now reports c.args.self.now awaits in
      record {
        wrote = done.wrote;
        told = done.told;
        headline = law (subst (λ a. IsLawful _ a) awaits.owned (g.met.A.App.lawful c.args.self.now.app)) _ _ _ _ _ done.ran;
      };
}
