-- A number is drawn for a node that comes.
use Rattle.std.proofs.lemmas.Result.{on_ok_weaker}
use Rattle.run_places.specs.Trails.{place_on}
use Rattle.run_work.proofs.Founding.{node_comes}
use Rattle.run_work.proofs.patched.Patched.come.Goals as goal

pub returns : goal.returns
returns g c =
    on_ok_weaker c.push.result
    (λ more. node_comes c.args.ground.now c.args.self.now (place_on c.args.trail.now) c.add_node.new.self c.args.kind c.in_ok-place.place _
    c.in_ok-place.ensures.stays c.in_ok-place.ensures.place more)
    c.push.ensures.ok
