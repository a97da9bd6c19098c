-- A component means the same with equal props, which the test finds equal.
use Rattle.std.proofs.Common.{◌∙◌, sym}
use Rattle.author_bodies.proofs.Lists.{same_as_tested}
use Rattle.author_bodies.proofs.bodied.BodiedApp.memoize.Goals as goal

pub returns : goal.returns
returns g c =
    let programs = g.B.Bodies.programs c.args.self.now.bodies in
    let decide = g.met.B.Bodies.decide c.args.self.now.bodies in
    record {
      means =
          same_as_tested programs.same_props decide.props c.same.result c.args.old.now c.args.new.now c.same.ensures.same
          ∙ sym (decide.memoized c.args._component.now c.args.old.now c.args.new.now);
    }
