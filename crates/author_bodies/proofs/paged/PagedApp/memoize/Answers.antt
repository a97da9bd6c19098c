-- Equal props are those that the test finds equal.
use Rattle.author_bodies.proofs.Lists.{same_as_tested}
use Rattle.author_bodies.proofs.paged.PagedApp.memoize.Goals as goal

pub returns : goal.returns
returns g c =
    record {
      means = same_as_tested (g.S.Pages.answers c.args.self.now.pages).same_props (g.met.S.Pages.decide c.args.self.now.pages).props c.same.result c.args.old.now c.args.new.now c.same.ensures.same;
    }
