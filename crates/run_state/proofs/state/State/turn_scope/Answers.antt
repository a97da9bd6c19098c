use Rattle.std.proofs.Common.{◌∙◌, ap}
use Rattle.std.proofs.Math.Logic.{∥∥₁_map}
use Rattle.std.specs.Fn.{FnOnceReturnsAtMut}
use Rattle.run_state.proofs.Changed.{scope_changed}
use Rattle.run_state.proofs.Unchanged.{values_changed}
use Rattle.run_state.specs.Heights.{height_in}
use Rattle.run_state.specs.Mounts.{ways_of}
use Rattle.run_state.proofs.Hidings.{uncovered}
use Rattle.run_state.proofs.Waiting.{scope_turned}
use Rattle.run_state.proofs.Listing.{listed_by, listed_changed}
use Rattle.run_state.proofs.Known.{known_changed}
use Rattle.run_state.proofs.Placed.{placed_changed}
use Rattle.run_state.proofs.state.State.turn_scope.Goals as goal

pub returns : goal.returns
returns g c =
    λ k step.
    scope_changed
    c.change.result
    (λ x y. FnOnceReturnsAtMut g.F.FnOnce c.args.apply x c.change.result y)
    c.args.self.now
    c.change.new.self
    c.args.scope
    k.code
    k.model
    c.change.ensures.absent
    c.change.ensures.changed
    step
    k.same

pub invariant_of-self-2-clause-entered : goal.invariant_of-self-2-clause-entered
invariant_of-self-2-clause-entered g c =
    values_changed height_in (λ x y. FnOnceReturnsAtMut g.F.FnOnce c.args.apply x c.change.result y) (c.args.self.now.rows).table c.change.new.self c.args.scope c.change.ensures.absent c.change.ensures.changed
    (λ x y ret. ap (λ t. t.1) (c.requires.stay x y c.change.result ret))
    ∙ c.args.self.now.entered

pub invariant_of-self-2-clause-placed : goal.invariant_of-self-2-clause-placed
invariant_of-self-2-clause-placed g c =
    ∥∥₁_map c.args.self.now.placed
    (
    placed_changed (λ x y. FnOnceReturnsAtMut g.F.FnOnce c.args.apply x c.change.result y) (c.args.self.now.rows).table c.change.new.self c.args.scope c.args.self.now.places c.change.ensures.absent c.change.ensures.changed
    (λ x y ret. ap (λ t. t.0) (c.requires.stay x y c.change.result ret))
    )

pub invariant_of-self-2-clause-waiting : goal.invariant_of-self-2-clause-waiting
invariant_of-self-2-clause-waiting g c =
    ∥∥₁_map c.args.self.now.waiting
    (
    scope_turned (λ x y. FnOnceReturnsAtMut g.F.FnOnce c.args.apply x c.change.result y) (c.args.self.now.rows).table c.change.new.self c.args.self.now.fresh c.uncover.new.fresh c.args.self.now.hidden c.uncover.new.hidden c.args.self.now.next_scope c.args.scope
    c.in_ok-uncover.ensures.covered c.in_ok-uncover.ensures.none c.change.ensures.absent c.change.ensures.changed
    (λ x y ret. ap (λ t. t.2) (c.requires.stay x y c.change.result ret))
    )

-- where no room was for all that is hidden, some of it is fresh
pub invariant_of-self : goal.invariant_of-self
invariant_of-self g c =
    record {
      entered = c.args.self.now.entered;
      known = c.args.self.now.known;
      waiting =
          ∥∥₁_map c.args.self.now.waiting
          (uncovered (ways_of (c.args.self.now.rows).table) c.args.self.now.fresh c.uncover.new.fresh c.args.self.now.hidden c.uncover.new.hidden c.args.self.now.next_scope c.in_err-uncover.ensures.covered);
      placed = c.args.self.now.placed;
      readers = c.args.self.now.readers;
      heard = c.args.self.now.heard;
      listed = c.args.self.now.listed;
    }

pub invariant_of-self-2-clause-readers : goal.invariant_of-self-2-clause-readers
invariant_of-self-2-clause-readers g c =
    known_changed (λ x y. FnOnceReturnsAtMut g.F.FnOnce c.args.apply x c.change.result y) (c.args.self.now.rows).table c.change.new.self c.args.scope (c.args.self.now.cells).reads c.change.ensures.absent c.change.ensures.changed
    (λ x y ret. ap (λ t. t.3) (c.requires.stay x y c.change.result ret)) c.args.self.now.readers

pub invariant_of-self-2-clause-listed : goal.invariant_of-self-2-clause-listed
invariant_of-self-2-clause-listed g c =
    listed_changed (λ x y. FnOnceReturnsAtMut g.F.FnOnce c.args.apply x c.change.result y) (c.args.self.now.rows).table c.change.new.self c.args.scope c.args.self.now.effects c.args.self.now.held c.change.ensures.absent c.change.ensures.changed
    (λ x y ret. ap (λ t. listed_by t.1 t.4 t.5) (c.requires.stay x y c.change.result ret)) c.args.self.now.listed
