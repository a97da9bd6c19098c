-- The root wrapper alone.
use Rattle.std.proofs.Common.{refl}
use Rattle.run_state.specs.Mirror.{at_first, state_of}
use Rattle.run_state.proofs.Starts.{starts}
use Rattle.run_state.proofs.state.State.add_root.Goals as goal

pub returns : goal.returns
returns g c =
    λ firsts empty.
    starts c.args.root c.args.props firsts c.args.self.now (state_of at_first c.push_scope.new.self) c.in-Some.next empty (c.in_ok-push_scope.ensures at_first) c.in-Some.ensures.next.1

pub push_scope-requires : goal.push_scope-requires
push_scope-requires g c = record { next = c.in-Some.ensures.next.1; above = refl }
