use Rattle.std.proofs.Common.{◌≡◌, rules, ap, sym, ◌∙◌}
use Rattle.std.proofs.Math.Logic.{∥∥₁_map}
use Rattle.std.specs.Prelude.{None}
use Rattle.rt_model.specs.State.{changed_scope, with_side}
use Rattle.run_records.specs.Kept.{scope_of}
use Rattle.run_places.specs.Places.{side_name_of, side_of}
use Rattle.run_state.specs.Mirror.{state_of}
use Rattle.run_state.specs.Sides.{side_put}
use Rattle.run_state.proofs.Each.{found-each}
use Rattle.run_state.proofs.Placed.{placed_put}
use Rattle.run_state.proofs.Listing.{effects_put, listed_by, listed_changed}
use Rattle.run_state.proofs.Known.{known_changed, reads_put}
use Rattle.run_state.specs.Heights.{height_in}
use Rattle.run_state.specs.Mounts.{seatless, way_of}
use Rattle.run_state.proofs.Seats.{seats_put}
use Rattle.run_state.proofs.Waiting.{scope_seated, way_at}
use Rattle.run_state.proofs.Put.{height_put, put_is, seatless_put}
use Rattle.run_state.proofs.Unchanged.{values_changed, scope_surely}
use Rattle.run_state.proofs.state.State.put_side.Goals as goal

-- of a scope that isn't live nothing changes
pub returns-in_default : goal.returns-in_default
returns-in_default g c =
    record {
      put = λ kept.
          ap (λ o. changed_scope (state_of kept c.args.self.now) c.args.scope (λ x. with_side x (side_name_of c.args.name) (side_of c.args.side)) o)
          (sym (found-each scope_of (c.args.self.now.rows).table c.args.scope None c.in_default.ensures.value));
    }

pub invariant_of-self-2-clause-entered : goal.invariant_of-self-2-clause-entered
invariant_of-self-2-clause-entered g c =
    values_changed height_in _ (c.args.self.now.rows).table c.change-done.new.self c.args.scope c.change-done.ensures.absent c.change-done.ensures.changed
    (λ x y ret. let same : y ≡ side_put c.args.name c.args.side x = search rules in ap (λ z. height_in z) same ∙ height_put c.args.name c.args.side x)
    ∙ c.args.self.now.entered

pub invariant_of-self-2-clause-waiting : goal.invariant_of-self-2-clause-waiting
invariant_of-self-2-clause-waiting g c =
    ∥∥₁_map c.args.self.now.waiting
    (
    scope_seated _ (c.args.self.now.rows).table c.change-done.new.self c.args.self.now.fresh c.args.self.now.hidden c.args.self.now.next_scope c.args.scope c.change-done.ensures.absent c.change-done.ensures.changed
    (λ x y there ret. let same : y ≡ side_put c.args.name c.args.side x = search rules in ap (λ z. seatless z) same ∙ seatless_put c.args.name c.args.side x)
    (
    λ x y there ret h t child.
    let same : y ≡ side_put c.args.name c.args.side x = search rules in
    h.seated c.args.scope t (way_of x) (way_at (c.args.self.now.rows).table c.args.scope x there) (seats_put c.args.name c.args.side x y t same (c.requires.seats x there) child)
    )
    )

pub invariant_of-self-2-clause-placed : goal.invariant_of-self-2-clause-placed
invariant_of-self-2-clause-placed g c =
    ∥∥₁_map c.args.self.now.placed
    (
    placed_put _ (c.args.self.now.rows).table c.change-done.new.self c.args.scope c.in-Some.found.now c.args.name c.args.side c.side_of.result.now c.as_slice.result.now c.args.self.now.places c.forget.new.places
    c.in-Some.ensures.value c.change-done.ensures.changed
    (λ x y ret. search rules) c.side_of.ensures c.as_slice.ensures.pairs c.forget.ensures c.requires.fewer c.requires.known
    )

pub invariant_of-self-2-clause-readers : goal.invariant_of-self-2-clause-readers
invariant_of-self-2-clause-readers g c =
    known_changed _ (c.args.self.now.rows).table c.change-done.new.self c.args.scope (c.args.self.now.cells).reads c.change-done.ensures.absent c.change-done.ensures.changed
    (λ x y ret. let same : y ≡ side_put c.args.name c.args.side x = search rules in ap (λ z. (z.rest).reads) same ∙ reads_put c.args.name c.args.side x) c.args.self.now.readers

pub invariant_of-self-2-clause-listed : goal.invariant_of-self-2-clause-listed
invariant_of-self-2-clause-listed g c =
    listed_changed _ (c.args.self.now.rows).table c.change-done.new.self c.args.scope c.args.self.now.effects c.args.self.now.held c.change-done.ensures.absent c.change-done.ensures.changed
    (λ x y ret. let same : y ≡ side_put c.args.name c.args.side x = search rules in ap (λ z. listed_by (z.rest).height (z.rest).effects (z.rest).holders) same ∙ effects_put c.args.name c.args.side x) c.args.self.now.listed

pub returns : goal.returns
returns g c =
    record {
      put =
          scope_surely _ c.args.self.now c.change-done.new.self c.args.scope (λ x. side_put c.args.name c.args.side x) (λ x. with_side x (side_name_of c.args.name) (side_of c.args.side))
          c.change-done.ensures.absent c.change-done.ensures.changed (λ x y ret. search rules) (λ x. put_is c.args.name c.args.side x);
    }
