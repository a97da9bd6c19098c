use Rattle.std.proofs.Common.{◌∙◌, ap}
use Rattle.std.proofs.Math.Logic.{∥∥₁_map}
use Rattle.std.specs.Fn.{FnOnceReturnsAtMut}
use Rattle.run_state.proofs.Changed.{scope_changed}
use Rattle.run_state.proofs.Unchanged.{values_changed}
use Rattle.run_state.specs.Heights.{height_in}
use Rattle.run_state.specs.Mounts.{ways_of}
use Rattle.run_state.proofs.Waiting.{ways_changed, waits_stay}
use Rattle.run_state.proofs.Placed.{placed_changed}
use Rattle.run_state.proofs.Listing.{listed_own}
use Rattle.run_state.proofs.Known.{known_changed}
use Rattle.run_state.proofs.state.State.change_listed.Goals as goal

pub returns-clause-changed : goal.returns-clause-changed
returns-clause-changed g c =
    λ k step.
    scope_changed
    c.change.result
    (λ x y. FnOnceReturnsAtMut g.F.FnOnce c.args.apply x c.change.result y)
    c.args.self.now
    c.change.new.self
    c.args.scope
    k.code
    k.model
    c.change.ensures.absent
    c.change.ensures.changed
    step
    k.same

pub invariant_of-self-clause-entered : goal.invariant_of-self-clause-entered
invariant_of-self-clause-entered g c =
    values_changed height_in (λ x y. FnOnceReturnsAtMut g.F.FnOnce c.args.apply x c.change.result y) (c.args.self.now.rows).table c.change.new.self c.args.scope c.change.ensures.absent c.change.ensures.changed
    (λ x y ret. ap (λ t. t.1) (c.requires.stay x y c.change.result ret))
    ∙ c.args.self.now.entered

pub invariant_of-self-clause-placed : goal.invariant_of-self-clause-placed
invariant_of-self-clause-placed g c =
    ∥∥₁_map c.args.self.now.placed
    (
    placed_changed (λ x y. FnOnceReturnsAtMut g.F.FnOnce c.args.apply x c.change.result y) (c.args.self.now.rows).table c.change.new.self c.args.scope c.args.self.now.places c.change.ensures.absent c.change.ensures.changed
    (λ x y ret. ap (λ t. t.0) (c.requires.stay x y c.change.result ret))
    )

pub invariant_of-self-clause-readers : goal.invariant_of-self-clause-readers
invariant_of-self-clause-readers g c =
    known_changed (λ x y. FnOnceReturnsAtMut g.F.FnOnce c.args.apply x c.change.result y) (c.args.self.now.rows).table c.change.new.self c.args.scope (c.args.self.now.cells).reads c.change.ensures.absent c.change.ensures.changed
    (λ x y ret. ap (λ t. t.3) (c.requires.stay x y c.change.result ret)) c.args.self.now.readers

pub invariant_of-self-clause-waiting : goal.invariant_of-self-clause-waiting
invariant_of-self-clause-waiting g c =
    waits_stay (ways_of c.change.new.self) (ways_of (c.args.self.now.rows).table) c.args.self.now.fresh c.args.self.now.hidden c.args.self.now.next_scope
    (
    ways_changed (λ x y. FnOnceReturnsAtMut g.F.FnOnce c.args.apply x c.change.result y) (c.args.self.now.rows).table c.change.new.self c.args.scope c.change.ensures.absent c.change.ensures.changed
    (λ x y ret. ap (λ t. t.2) (c.requires.stay x y c.change.result ret))
    )
    c.args.self.now.waiting

pub invariant_of-self-clause-listed : goal.invariant_of-self-clause-listed
invariant_of-self-clause-listed g c =
    listed_own (λ x y. FnOnceReturnsAtMut g.F.FnOnce c.args.apply x c.change.result y) (c.args.self.now.rows).table c.change.new.self c.args.scope c.args.self.now.effects c.args.self.now.held (λ x y there ret. c.requires.listed x y c.change.result there ret) c.change.ensures.absent c.change.ensures.changed
    c.args.self.now.listed
