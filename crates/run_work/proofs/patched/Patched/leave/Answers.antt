-- The child of a component that goes is dropped, if it has one.
use Rattle.std.proofs.lemmas.Result.{on_ok_weaker}
use Rattle.tree_mirror.specs.Sealed.{component_of}
use Rattle.run_places.specs.Trails.{place_on}
use Rattle.run_work.proofs.Founding.{child_drops, no_child}
use Rattle.run_work.proofs.patched.Patched.leave.Goals as goal

pub returns-in-Some : goal.returns-in-Some
returns-in-Some g c =
    on_ok_weaker c.push.result
    (λ more. child_drops c.args.ground.now c.args.self.now (place_on c.args.trail.now) (component_of c.args._component.now) c.in-Some.child _ c.in-Some.ensures more)
    c.push.ensures.ok

pub returns-in-None : goal.returns-in-None
returns-in-None g c = no_child c.args.ground.now c.args.self.now (place_on c.args.trail.now) (component_of c.args._component.now) c.in-None.ensures
