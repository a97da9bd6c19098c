use Rattle.std.proofs.Common.{refl}
use Rattle.rt_vdom.proofs.dom.VirtualDom.new_with_props.Goals as goal

pub returns-clause-started : goal.returns-clause-started
returns-clause-started g c =
    record {
      fresh = refl;
      owned = refl;
      limited = refl;
      uncalled = c.in_ok-machine.ensures.uncalled;
      unused = c.in_ok-machine.ensures.fresh;
      first = c.in_ok-machine.ensures.state;
    }
