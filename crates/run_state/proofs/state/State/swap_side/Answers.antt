use Rattle.std.proofs.Common.{◌≡◌, rules, ap, ◌∙◌}
use Rattle.std.proofs.Math.Logic.{∥∥₁_map}
use Rattle.rt_model.specs.State.{with_side}
use Rattle.run_places.specs.Places.{side_name_of, side_of}
use Rattle.run_state.specs.Heights.{height_in}
use Rattle.run_state.specs.Mounts.{seatless, way_of}
use Rattle.run_state.specs.Sides.{side_put}
use Rattle.run_state.proofs.Known.{known_changed, reads_put}
use Rattle.run_state.proofs.Listing.{effects_put, listed_by, listed_changed}
use Rattle.run_state.proofs.Placed.{placed_swapped}
use Rattle.run_state.proofs.Put.{height_put, put_is, seatless_put}
use Rattle.run_state.proofs.Unchanged.{scope_surely, values_changed}
use Rattle.run_state.proofs.Seats.{seats_put}
use Rattle.run_state.proofs.Waiting.{scope_seated, way_at}
use Rattle.run_state.proofs.state.State.swap_side.Goals as goal

pub invariant_of-self-clause-entered : goal.invariant_of-self-clause-entered
invariant_of-self-clause-entered g c =
    values_changed height_in _ (c.args.self.now.rows).table c.change-done.new.self c.args.scope c.change-done.ensures.absent c.change-done.ensures.changed
    (λ x y ret. let same : y ≡ side_put c.args.name c.args.side x = search rules in ap (λ z. height_in z) same ∙ height_put c.args.name c.args.side x)
    ∙ c.args.self.now.entered

pub invariant_of-self-clause-waiting : goal.invariant_of-self-clause-waiting
invariant_of-self-clause-waiting g c =
    ∥∥₁_map c.args.self.now.waiting
    (
    scope_seated _ (c.args.self.now.rows).table c.change-done.new.self c.args.self.now.fresh c.args.self.now.hidden c.args.self.now.next_scope c.args.scope c.change-done.ensures.absent c.change-done.ensures.changed
    (λ x y there ret. let same : y ≡ side_put c.args.name c.args.side x = search rules in ap (λ z. seatless z) same ∙ seatless_put c.args.name c.args.side x)
    (
    λ x y there ret h t child.
    let same : y ≡ side_put c.args.name c.args.side x = search rules in
    h.seated c.args.scope t (way_of x) (way_at (c.args.self.now.rows).table c.args.scope x there) (seats_put c.args.name c.args.side x y t same (c.requires.seats x there) child)
    )
    )

pub invariant_of-self-clause-placed : goal.invariant_of-self-clause-placed
invariant_of-self-clause-placed g c =
    ∥∥₁_map c.args.self.now.placed
    (
    placed_swapped _ (c.args.self.now.rows).table c.change-done.new.self c.args.scope c.args.name c.args.side c.args.self.now.places c.change-done.ensures.absent c.change-done.ensures.changed
    (λ x y ret. search rules) c.requires.drawn
    )

pub invariant_of-self-clause-readers : goal.invariant_of-self-clause-readers
invariant_of-self-clause-readers g c =
    known_changed _ (c.args.self.now.rows).table c.change-done.new.self c.args.scope (c.args.self.now.cells).reads c.change-done.ensures.absent c.change-done.ensures.changed
    (λ x y ret. let same : y ≡ side_put c.args.name c.args.side x = search rules in ap (λ z. (z.rest).reads) same ∙ reads_put c.args.name c.args.side x) c.args.self.now.readers

pub invariant_of-self-clause-listed : goal.invariant_of-self-clause-listed
invariant_of-self-clause-listed g c =
    listed_changed _ (c.args.self.now.rows).table c.change-done.new.self c.args.scope c.args.self.now.effects c.args.self.now.held c.change-done.ensures.absent c.change-done.ensures.changed
    (λ x y ret. let same : y ≡ side_put c.args.name c.args.side x = search rules in ap (λ z. listed_by (z.rest).height (z.rest).effects (z.rest).holders) same ∙ effects_put c.args.name c.args.side x) c.args.self.now.listed

pub returns : goal.returns
returns g c =
    record {
      put =
          scope_surely _ c.args.self.now c.change-done.new.self c.args.scope (λ x. side_put c.args.name c.args.side x) (λ x. with_side x (side_name_of c.args.name) (side_of c.args.side))
          c.change-done.ensures.absent c.change-done.ensures.changed (λ x y ret. search rules) (λ x. put_is c.args.name c.args.side x);
    }
