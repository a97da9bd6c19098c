use Rattle.std.proofs.Common.{ap}
use Rattle.run_state.specs.Names.{scope_numbers}
use Rattle.rt_vdom.proofs.dom.VirtualDom.skipped.Goals as goal

pub returns : goal.returns
returns g c = record { skipped = λ kept. ap scope_numbers c.as_slice.ensures.items }
