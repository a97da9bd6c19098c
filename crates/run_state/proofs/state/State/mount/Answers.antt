use Rattle.std.proofs.Common.{◌≡◌, ◌∙◌, refl, rules, ap, take, true}
use Rattle.std.proofs.Math.Logic.{∥∥₁_map}
use Rattle.run_state.specs.Drawn.{drawn_for}
use Rattle.run_state.specs.Heights.{height_in}
use Rattle.run_state.proofs.Fronts.{front_left}
use Rattle.run_state.proofs.Mounts.{mount_shows, mount_waits}
use Rattle.run_state.proofs.Listing.{listed_by, listed_changed}
use Rattle.run_state.proofs.Known.{known_changed}
use Rattle.run_state.proofs.Placed.{placed_changed}
use Rattle.run_state.proofs.Unchanged.{values_changed}
use Rattle.run_state.proofs.Waiting.{rows_apart}
use Rattle.run_state.proofs.state.State.mount.Goals as goal

pub returns-clause-mounted : goal.returns-clause-mounted
returns-clause-mounted g c =
    mount_shows _ (c.args.self.now.rows).table c.change-done.new.self c.args.scope c.requires.shown c.change-done.ensures.changed (λ x y ret. search rules) c.args.scope refl
    (rows_apart (c.args.self.now.rows).table c.args.self.now.fresh c.args.self.now.hidden c.args.self.now.next_scope c.args.self.now.waiting)

pub returns-clause-before : goal.returns-clause-before
returns-clause-before g c = ap (λ ns. take c.args.index ns) c.remove-gone.ensures.others ∙ front_left c.args.self.now.fresh c.args.index

pub returns-clause-others : goal.returns-clause-others
returns-clause-others g c = λ kept. refl

pub invariant_of-self-clause-entered : goal.invariant_of-self-clause-entered
invariant_of-self-clause-entered g c =
    values_changed height_in _ (c.args.self.now.rows).table c.change-done.new.self c.args.scope c.change-done.ensures.absent c.change-done.ensures.changed
    (λ x y ret. let same : y ≡ record x { rest = record (x.rest) { mounted = true } } = search rules in ap (λ z. height_in z) same)
    ∙ c.args.self.now.entered

pub invariant_of-self-clause-placed : goal.invariant_of-self-clause-placed
invariant_of-self-clause-placed g c =
    ∥∥₁_map c.args.self.now.placed
    (
    placed_changed _ (c.args.self.now.rows).table c.change-done.new.self c.args.scope c.args.self.now.places c.change-done.ensures.absent c.change-done.ensures.changed
    (λ x y ret. let same : y ≡ record x { rest = record (x.rest) { mounted = true } } = search rules in ap (λ z. drawn_for z) same)
    )

pub invariant_of-self-clause-waiting : goal.invariant_of-self-clause-waiting
invariant_of-self-clause-waiting g c =
    ∥∥₁_map c.args.self.now.waiting
    (
    mount_waits _ (c.args.self.now.rows).table c.change-done.new.self c.args.scope c.requires.shown c.change-done.ensures.changed (λ x y ret. search rules)
    c.args.self.now.fresh c.remove-gone.new.self c.args.self.now.hidden c.args.self.now.next_scope c.args.index c.requires.own c.remove-gone.ensures.others
    )

pub invariant_of-self-clause-readers : goal.invariant_of-self-clause-readers
invariant_of-self-clause-readers g c =
    known_changed _ (c.args.self.now.rows).table c.change-done.new.self c.args.scope (c.args.self.now.cells).reads c.change-done.ensures.absent c.change-done.ensures.changed
    (λ x y ret. let same : y ≡ record x { rest = record (x.rest) { mounted = true } } = search rules in ap (λ z. (z.rest).reads) same) c.args.self.now.readers

pub invariant_of-self-clause-listed : goal.invariant_of-self-clause-listed
invariant_of-self-clause-listed g c =
    listed_changed _ (c.args.self.now.rows).table c.change-done.new.self c.args.scope c.args.self.now.effects c.args.self.now.held c.change-done.ensures.absent c.change-done.ensures.changed
    (λ x y ret. let same : y ≡ record x { rest = record (x.rest) { mounted = true } } = search rules in ap (λ z. listed_by (z.rest).height (z.rest).effects (z.rest).holders) same) c.args.self.now.listed
