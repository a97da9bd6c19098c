use Rattle.std.proofs.Common.{◌∷◌, ◌++◌, [], ap, sym, ◌∙◌}
use Rattle.std.proofs.Math.Logic.{∥∥₁_map}
use Rattle.run_named.specs.Standings.{drawn_in}
use Rattle.run_owed.specs.Owing.{Owing}
use Rattle.run_owed.proofs.Tables.{values_more}
use Rattle.run_state.specs.Heights.{height_in, heights_of}
use Rattle.run_state.specs.Mounts.{is_above, seats_in}
use Rattle.run_state.proofs.Waiting.{scope_waits}
use Rattle.run_state.proofs.Pushed.{scope_joined}
use Rattle.run_state.proofs.Placed.{placed_pushed}
use Rattle.run_state.proofs.Listing.{listed_come}
use Rattle.run_state.proofs.Known.{known_pushed}
use Rattle.run_state.proofs.state.State.push_scope.Goals as goal

pub returns : goal.returns
returns g c = λ kept.
    let made = c.in_ok-enter_row.ensures.rows in
    scope_joined kept c.args.self.now c.enter_row.new.owed c.enter_row.new.rows c.args.next c.args.coming.height made.0 _ c.in_ok-enter_row.ensures.owed made.2 made.1

-- where there is no room, nothing is entered
pub invariant_of-self : goal.invariant_of-self
invariant_of-self g c =
    record {
      entered =
          ap heights_of c.in_err-enter_row.ensures.rows_err
          ∙ c.args.self.now.entered
          ∙ sym (ap (λ (o : Owing). o.scopes) c.in_err-enter_row.ensures.owed_err);
      known = c.args.self.now.known ∙ sym (ap (λ (o : Owing). o.tasks) c.in_err-enter_row.ensures.owed_err);
      waiting = rw (c.in_err-enter_row.ensures.rows_err, c.in_err-enter_row.ensures.fresh_err) c.args.self.now.waiting;
      placed = rw c.in_err-enter_row.ensures.rows_err c.args.self.now.placed;
      readers = rw c.in_err-enter_row.ensures.rows_err c.args.self.now.readers;
      heard = c.args.self.now.heard;
      listed = rw c.in_err-enter_row.ensures.rows_err c.args.self.now.listed;
    }

pub invariant_of-self-2-clause-entered : goal.invariant_of-self-2-clause-entered
invariant_of-self-2-clause-entered g c =
    let made = c.in_ok-enter_row.ensures.rows in
    ap heights_of made.2
    ∙ values_more height_in (c.args.self.now.rows).table c.args.self.now.next_scope made.0
    ∙ ap (λ h. heights_of (c.args.self.now.rows).table ++ (c.args.self.now.next_scope, h) ∷ []) (ap (λ x. x.height) made.1)
    ∙ ap (λ es. es ++ (c.args.self.now.next_scope, c.args.coming.height) ∷ []) c.args.self.now.entered
    ∙ sym (ap (λ (o : Owing). o.scopes) c.in_ok-enter_row.ensures.owed)

pub invariant_of-self-2-clause-known : goal.invariant_of-self-2-clause-known
invariant_of-self-2-clause-known g c = c.args.self.now.known ∙ sym (ap (λ (o : Owing). o.tasks) c.in_ok-enter_row.ensures.owed)

pub invariant_of-self-2-clause-placed : goal.invariant_of-self-2-clause-placed
invariant_of-self-2-clause-placed g c =
    let made = c.in_ok-enter_row.ensures.rows in
    ∥∥₁_map c.args.self.now.placed
    (placed_pushed (c.args.self.now.rows).table c.enter_row.new.rows c.args.self.now.next_scope made.0 c.args.self.now.places made.2 (ap (λ x. drawn_in x) made.1))

pub invariant_of-self-2-clause-waiting : goal.invariant_of-self-2-clause-waiting
invariant_of-self-2-clause-waiting g c =
    let made = c.in_ok-enter_row.ensures.rows in
    ∥∥₁_map c.args.self.now.waiting
    (
    scope_waits (c.args.self.now.rows).table c.enter_row.new.rows c.args.self.now.fresh c.enter_row.new.fresh c.args.self.now.hidden c.args.next c.args.self.now.next_scope made.0
    made.2 c.in_ok-enter_row.ensures.fresh c.requires.next (ap (λ x. is_above c.args.self.now.next_scope x.parent) made.1 ∙ c.requires.above)
    (ap (λ x. seats_in x) made.1)
    )

pub invariant_of-self-2-clause-readers : goal.invariant_of-self-2-clause-readers
invariant_of-self-2-clause-readers g c =
    let made = c.in_ok-enter_row.ensures.rows in
    known_pushed (c.args.self.now.rows).table c.enter_row.new.rows c.args.self.now.next_scope made.0 (c.args.self.now.cells).reads made.2 (ap (λ x. x.reads) made.1) c.args.self.now.readers

pub invariant_of-self-2-clause-listed : goal.invariant_of-self-2-clause-listed
invariant_of-self-2-clause-listed g c =
    let made = c.in_ok-enter_row.ensures.rows in
    listed_come (c.args.self.now.rows).table c.enter_row.new.rows c.args.self.now.next_scope made.0 c.args.self.now.effects c.args.self.now.held made.2 (ap (λ x. x.effects) made.1) (ap (λ x. x.holders) made.1) c.args.self.now.listed
