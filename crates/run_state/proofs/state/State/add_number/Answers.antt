use Rattle.std.proofs.Common.{ap, sym, ◌∙◌}
use Rattle.std.proofs.Math.Logic.{∥∥₁_map}
use Rattle.rt_model.specs.Lists.{without}
use Rattle.run_places.specs.Places.{kind_of, place_of, side_name_of}
use Rattle.run_state.specs.Mirror.{at_first, state_of}
use Rattle.run_state.specs.Mounts.{ways_of}
use Rattle.run_state.specs.Sides.{more_number}
use Rattle.run_state.proofs.Waiting.{waits_stay}
use Rattle.run_state.proofs.Numbering.{none_there, not_numbered, numbered_same, numbered_state, scope_there, ways_drawn}
use Rattle.run_state.proofs.Placed.{placed_numbered, taken_back}
use Rattle.run_state.proofs.Listing.{listed_numbered}
use Rattle.run_state.proofs.Known.{known_numbered}
use Rattle.run_state.proofs.state.State.add_number.Goals as goal

pub returns-then-not-is_live : goal.returns-then-not-is_live
returns-then-not-is_live g c = λ kept.
    not_numbered (state_of kept c.args.self.now) c.args.scope (λ x. more_number (side_name_of c.args.side) (place_of c.args.place.now, kind_of c.args.kind, c.args.number) x) (sym (c.is_live.ensures kept) ∙ c.if-not-is_live.true)

pub invariant_of-self-in-Ok-clause-entered : goal.invariant_of-self-in-Ok-clause-entered
invariant_of-self-in-Ok-clause-entered g c =
    numbered_same (c.args.self.now.rows).table c.put_number.new.rows c.args.scope (side_name_of c.args.side) (place_of c.args.place.now, kind_of c.args.kind, c.args.number)
    (scope_there c.args.self.now c.args.scope (sym (c.is_live.ensures at_first) ∙ c.if-not-is_live.false)) c.in-Ok.ensures.put
    ∙ c.args.self.now.entered

pub invariant_of-self-in-Ok-clause-waiting : goal.invariant_of-self-in-Ok-clause-waiting
invariant_of-self-in-Ok-clause-waiting g c =
    waits_stay (ways_of c.put_number.new.rows) (ways_of (c.args.self.now.rows).table) c.args.self.now.fresh c.args.self.now.hidden c.args.self.now.next_scope
    (
    ways_drawn (c.args.self.now.rows).table c.put_number.new.rows c.args.scope (side_name_of c.args.side) (place_of c.args.place.now, kind_of c.args.kind, c.args.number)
    (scope_there c.args.self.now c.args.scope (sym (c.is_live.ensures at_first) ∙ c.if-not-is_live.false)) c.in-Ok.ensures.put
    )
    c.args.self.now.waiting

pub invariant_of-self-in-Err-clause-waiting : goal.invariant_of-self-in-Err-clause-waiting
invariant_of-self-in-Err-clause-waiting g c = rw c.in-Err.ensures.err c.args.self.now.waiting

pub invariant_of-self-in-Ok-clause-placed : goal.invariant_of-self-in-Ok-clause-placed
invariant_of-self-in-Ok-clause-placed g c =
    ∥∥₁_map c.args.self.now.placed
    (
    placed_numbered (c.args.self.now.rows).table c.put_number.new.rows c.args.scope c.args.side (place_of c.args.place.now, kind_of c.args.kind, c.args.number) c.in_ok-named.named c.args.self.now.places c.push.new.self
    (scope_there c.args.self.now c.args.scope (sym (c.is_live.ensures at_first) ∙ c.if-not-is_live.false)) c.in-Ok.ensures.put
    (none_there c.args.self.now.places c.args.number c.get.result c.get.ensures.value (sym c.is_some.ensures ∙ c.if-is_some.false)) c.in_ok-named.ensures.named c.in_ok-push.ensures.ok
    )

pub invariant_of-self-in-Ok-clause-readers : goal.invariant_of-self-in-Ok-clause-readers
invariant_of-self-in-Ok-clause-readers g c =
    known_numbered (c.args.self.now.rows).table c.put_number.new.rows c.args.scope (side_name_of c.args.side) (place_of c.args.place.now, kind_of c.args.kind, c.args.number) (c.args.self.now.cells).reads
    (scope_there c.args.self.now c.args.scope (sym (c.is_live.ensures at_first) ∙ c.if-not-is_live.false)) c.in-Ok.ensures.put c.args.self.now.readers

pub invariant_of-self-in-Err-clause-readers : goal.invariant_of-self-in-Err-clause-readers
invariant_of-self-in-Err-clause-readers g c = rw c.in-Err.ensures.err c.args.self.now.readers

pub invariant_of-self-in-Ok-clause-listed : goal.invariant_of-self-in-Ok-clause-listed
invariant_of-self-in-Ok-clause-listed g c =
    listed_numbered (c.args.self.now.rows).table c.put_number.new.rows c.args.scope (side_name_of c.args.side) (place_of c.args.place.now, kind_of c.args.kind, c.args.number) c.args.self.now.effects c.args.self.now.held
    (scope_there c.args.self.now c.args.scope (sym (c.is_live.ensures at_first) ∙ c.if-not-is_live.false)) c.in-Ok.ensures.put c.args.self.now.listed

pub invariant_of-self-in-Err-clause-listed : goal.invariant_of-self-in-Err-clause-listed
invariant_of-self-in-Err-clause-listed g c = rw c.in-Err.ensures.err c.args.self.now.listed

pub invariant_of-self-in-Err-clause-placed : goal.invariant_of-self-in-Err-clause-placed
invariant_of-self-in-Err-clause-placed g c =
    let back = c.remove.ensures.others
    ∙ ap (λ ps. without ps c.args.number) c.in_ok-push.ensures.ok
    ∙ taken_back c.args.self.now.places c.args.number c.in_ok-named.named (none_there c.args.self.now.places c.args.number c.get.result c.get.ensures.value (sym c.is_some.ensures ∙ c.if-is_some.false)) in
    rw (c.in-Err.ensures.err, back) c.args.self.now.placed

pub returns-in-Ok : goal.returns-in-Ok
returns-in-Ok g c = λ kept.
    numbered_state kept c.args.self.now c.put_number.new.rows c.args.scope (side_name_of c.args.side) (place_of c.args.place.now, kind_of c.args.kind, c.args.number)
    (scope_there c.args.self.now c.args.scope (sym (c.is_live.ensures at_first) ∙ c.if-not-is_live.false)) c.in-Ok.ensures.put
