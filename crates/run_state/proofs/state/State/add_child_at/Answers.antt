-- A child of a scope that knows it as its parent joins one of its sides.
use Rattle.std.proofs.Common.{◌≡◌, ℕ, true, false, rules, nat_eq, sym, ap, subst, ◌∙◌}
use Rattle.std.proofs.Math.Logic.{∥∥₁_map}
use Rattle.std.proofs.lemmas.Bool.{eqb-true}
use Rattle.std.specs.Fn.{FnOnceReturnsAtMut}
use Rattle.rt_model.proofs.Maps.{by_test}
use Rattle.run_places.specs.Places.{place_of, side_name_of}
use Rattle.run_state.specs.Drawn.{beside_seats}
use Rattle.run_state.specs.Heights.{height_in}
use Rattle.run_state.specs.Mounts.{IsSeated, way_of, ways_of}
use Rattle.run_state.specs.Sides.{OneSeat, more_child}
use Rattle.run_state.proofs.Changed.{scope_revised}
use Rattle.run_state.proofs.Known.{known_changed}
use Rattle.run_state.proofs.Listing.{listed_by, listed_changed}
use Rattle.run_state.proofs.Placed.{placed_changed}
use Rattle.run_state.proofs.Unchanged.{values_changed}
use Rattle.run_state.proofs.Waiting.{scope_seated, way_at}
use Rattle.run_state.proofs.state.State.add_child_at.Goals as goal

pub returns : goal.returns
returns g c =
    scope_revised c.change.result _ c.args.self.now c.change.new.self c.args.scope (λ x. more_child (side_name_of c.args.side) (place_of c.args.place.now, c.args.child) x)
    c.change.ensures.absent c.change.ensures.changed (λ x y ret. search rules)

pub invariant_of-self-clause-entered : goal.invariant_of-self-clause-entered
invariant_of-self-clause-entered g c =
    values_changed height_in _ (c.args.self.now.rows).table c.change.new.self c.args.scope c.change.ensures.absent c.change.ensures.changed
    (λ x y ret. let stays : beside_seats y ≡ beside_seats x = search rules in ap (λ t. t.1) stays)
    ∙ c.args.self.now.entered

pub invariant_of-self-clause-placed : goal.invariant_of-self-clause-placed
invariant_of-self-clause-placed g c =
    ∥∥₁_map c.args.self.now.placed
    (
    placed_changed _ (c.args.self.now.rows).table c.change.new.self c.args.scope c.args.self.now.places c.change.ensures.absent c.change.ensures.changed
    (λ x y ret. let stays : beside_seats y ≡ beside_seats x = search rules in ap (λ t. t.0) stays)
    )

pub invariant_of-self-clause-waiting : goal.invariant_of-self-clause-waiting
invariant_of-self-clause-waiting g c =
    ∥∥₁_map c.args.self.now.waiting
    (
    scope_seated _ (c.args.self.now.rows).table c.change.new.self c.args.self.now.fresh c.args.self.now.hidden c.args.self.now.next_scope c.args.scope c.change.ensures.absent c.change.ensures.changed
    (λ x y there ret. let stays : beside_seats y ≡ beside_seats x = search rules in ap (λ t. t.2) stays)
    (
    λ x y there ret h t child.
    let one : OneSeat c.args.child x y = search rules in
    by_test (nat_eq c.args.child t)
    (λ own. subst (λ (n : ℕ). IsSeated (ways_of (c.args.self.now.rows).table) c.args.self.now.next_scope c.args.scope n) (eqb-true c.args.child t own) c.requires.known)
    (λ other. h.seated c.args.scope t (way_of x) (way_at (c.args.self.now.rows).table c.args.scope x there) (one.stood t other child))
    )
    )

pub invariant_of-self-clause-readers : goal.invariant_of-self-clause-readers
invariant_of-self-clause-readers g c =
    known_changed _ (c.args.self.now.rows).table c.change.new.self c.args.scope (c.args.self.now.cells).reads c.change.ensures.absent c.change.ensures.changed
    (λ x y ret. let stays : beside_seats y ≡ beside_seats x = search rules in ap (λ t. t.3) stays) c.args.self.now.readers

pub invariant_of-self-clause-listed : goal.invariant_of-self-clause-listed
invariant_of-self-clause-listed g c =
    listed_changed _ (c.args.self.now.rows).table c.change.new.self c.args.scope c.args.self.now.effects c.args.self.now.held c.change.ensures.absent c.change.ensures.changed
    (λ x y ret. let stays : beside_seats y ≡ beside_seats x = search rules in ap (λ t. listed_by t.1 t.4 t.5) stays) c.args.self.now.listed
