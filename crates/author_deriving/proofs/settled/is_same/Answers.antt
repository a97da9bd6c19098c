-- Equal values are those that the test finds equal.
use Rattle.author_bodies.proofs.Lists.{same_as_tested}
use Rattle.author_deriving.proofs.settled.is_same.Goals as goal

pub returns : goal.returns
returns g c =
    same_as_tested (g.S.HasMemo.formulas c.args.app.now).same (g.met.S.HasMemo.look c.args.app.now).values c.same.result c.args.left.now c.args.right.now c.same.ensures.same
