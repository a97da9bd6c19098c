use Rattle.std.proofs.Common.{◌∙◌, ap}
use Rattle.std.proofs.Math.Logic.{∥∥₁_map}
use Rattle.std.specs.Fn.{FnOnceReturnsAtMut}
use Rattle.run_state.proofs.Changed.{scope_revised}
use Rattle.run_state.proofs.Unchanged.{values_changed}
use Rattle.run_state.specs.Heights.{height_in}
use Rattle.run_state.specs.Mounts.{ways_of}
use Rattle.run_state.proofs.Waiting.{ways_changed, waits_stay}
use Rattle.run_state.proofs.Placed.{placed_changed}
use Rattle.run_state.proofs.Listing.{listed_by, listed_changed}
use Rattle.run_state.proofs.Known.{known_changed}
use Rattle.run_state.proofs.state.State.revise_scope.Goals as goal

pub returns : goal.returns
returns g c =
    λ revised step.
    scope_revised
    c.change.result
    (λ x y. FnOnceReturnsAtMut g.F.FnOnce c.args.apply x c.change.result y)
    c.args.self.now
    c.change.new.self
    c.args.scope
    revised
    c.change.ensures.absent
    c.change.ensures.changed
    step

pub invariant_of-self-clause-entered : goal.invariant_of-self-clause-entered
invariant_of-self-clause-entered g c =
    values_changed height_in (λ x y. FnOnceReturnsAtMut g.F.FnOnce c.args.apply x c.change.result y) (c.args.self.now.rows).table c.change.new.self c.args.scope c.change.ensures.absent c.change.ensures.changed
    (λ x y ret. ap (λ t. t.1) (c.requires.stay x y c.change.result ret))
    ∙ c.args.self.now.entered

pub invariant_of-self-clause-placed : goal.invariant_of-self-clause-placed
invariant_of-self-clause-placed g c =
    ∥∥₁_map c.args.self.now.placed
    (
    placed_changed (λ x y. FnOnceReturnsAtMut g.F.FnOnce c.args.apply x c.change.result y) (c.args.self.now.rows).table c.change.new.self c.args.scope c.args.self.now.places c.change.ensures.absent c.change.ensures.changed
    (λ x y ret. ap (λ t. t.0) (c.requires.stay x y c.change.result ret))
    )

pub invariant_of-self-clause-readers : goal.invariant_of-self-clause-readers
invariant_of-self-clause-readers g c =
    known_changed (λ x y. FnOnceReturnsAtMut g.F.FnOnce c.args.apply x c.change.result y) (c.args.self.now.rows).table c.change.new.self c.args.scope (c.args.self.now.cells).reads c.change.ensures.absent c.change.ensures.changed
    (λ x y ret. ap (λ t. t.3) (c.requires.stay x y c.change.result ret)) c.args.self.now.readers

pub invariant_of-self-clause-waiting : goal.invariant_of-self-clause-waiting
invariant_of-self-clause-waiting g c =
    waits_stay (ways_of c.change.new.self) (ways_of (c.args.self.now.rows).table) c.args.self.now.fresh c.args.self.now.hidden c.args.self.now.next_scope
    (
    ways_changed (λ x y. FnOnceReturnsAtMut g.F.FnOnce c.args.apply x c.change.result y) (c.args.self.now.rows).table c.change.new.self c.args.scope c.change.ensures.absent c.change.ensures.changed
    (λ x y ret. ap (λ t. t.2) (c.requires.stay x y c.change.result ret))
    )
    c.args.self.now.waiting

pub invariant_of-self-clause-listed : goal.invariant_of-self-clause-listed
invariant_of-self-clause-listed g c =
    listed_changed (λ x y. FnOnceReturnsAtMut g.F.FnOnce c.args.apply x c.change.result y) (c.args.self.now.rows).table c.change.new.self c.args.scope c.args.self.now.effects c.args.self.now.held c.change.ensures.absent c.change.ensures.changed
    (λ x y ret. ap (λ t. listed_by t.1 t.4 t.5) (c.requires.stay x y c.change.result ret)) c.args.self.now.listed
