-- The children that were copied.
use Rattle.std.proofs.Common.{ap}
use Rattle.tree_mirror.specs.Sealed.{element_of}
use Rattle.rt_scopes.proofs.Settled.{leaves_plain}
use Rattle.rt_scopes.proofs.scopes.Scopes.fragment.Goals as goal

pub returns : goal.returns
returns g c =
    λ scope. leaves_plain c.args.self.now.state scope c.in_ok-children.children c.plain.result (element_of c.args.children.now) c.plain.ensures (ap element_of c.in_ok-children.ensures)
