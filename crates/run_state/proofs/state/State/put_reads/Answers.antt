use Rattle.std.proofs.Common.{◌≡◌, rules, refl, ap, sym, ◌∙◌, cond, map}
use Rattle.std.proofs.Math.Logic.{∥∥₁_map}
use Rattle.std.specs.Prelude.{None}
use Rattle.std.specs.BTreeMap.{is_at}
use Rattle.rt_cells.specs.declared.sources.Reader.TheVariants.{Scope}
use Rattle.rt_cells.specs.Orders.{reader_cmp, source_cmp}
use Rattle.rt_cells.specs.Reads.{in_order, reads_of}
use Rattle.run_records.specs.Records.{source_of}
use Rattle.run_records.specs.Kept.{each, scope_of}
use Rattle.rt_model.specs.State.{changed_scope}
use Rattle.run_state.specs.Drawn.{drawn_for}
use Rattle.run_state.specs.Heights.{height_in}
use Rattle.run_state.specs.Mounts.{way_of, ways_of}
use Rattle.run_state.specs.Mirror.{state_of}
use Rattle.run_state.proofs.CellsKept.{reads_alone}
use Rattle.run_state.proofs.Each.{found-each}
use Rattle.run_state.proofs.Listing.{listed_by, listed_changed}
use Rattle.run_state.proofs.Known.{known_read}
use Rattle.run_state.proofs.Rereads.{read_again}
use Rattle.run_state.proofs.Placed.{placed_changed}
use Rattle.run_state.proofs.Unchanged.{scope_surely, values_changed}
use Rattle.run_state.proofs.Waiting.{ways_changed, waits_stay}
use Rattle.run_state.proofs.Heard.{heard_told}
use Rattle.run_state.proofs.state.State.put_reads.Goals as goal

-- of a scope that isn't live nothing changes
pub returns-in_default : goal.returns-in_default
returns-in_default g c = λ kept.
    ap (λ o. changed_scope (state_of kept c.args.self.now) c.args.scope (λ x. record x { reads = map source_of c.args.reads }) o)
    (sym (found-each scope_of (c.args.self.now.rows).table c.args.scope None c.in_default.ensures.value))

-- nor of one that had read the same
pub returns-then-same : goal.returns-then-same
returns-then-same g c = λ kept. read_again kept c.args.self.now c.args.scope c.in-Some.found.now c.args.reads c.in-Some.ensures.value (c.same.ensures.same.0 c.if-same.true)

pub invariant_of-self-2-clause-readers : goal.invariant_of-self-2-clause-readers
invariant_of-self-2-clause-readers g c =
    known_read _ (c.args.self.now.rows).table c.change-done.new.self c.args.scope c.in-Some.found.now c.args.reads (c.args.self.now.cells).reads (c.set_reads.new.self).reads c.in-Some.ensures.value c.change-done.ensures.changed
    (λ x y ret. let same : y ≡ record x { rest = record (x.rest) { reads = c.args.reads } } = search rules in ap (λ z. (z.rest).reads) same)
    (
    λ q.
    c.in_ok-set_reads.ensures.each q
    ∙ ap (λ xs. cond (is_at (reader_cmp (Scope (record { 0 = c.args.scope }))) q) (in_order source_cmp xs) (reads_of q (c.args.self.now.cells).reads)) c.as_slice.ensures.items
    )
    c.args.self.now.readers

pub invariant_of-self-2-clause-entered : goal.invariant_of-self-2-clause-entered
invariant_of-self-2-clause-entered g c =
    values_changed height_in _ (c.args.self.now.rows).table c.change-done.new.self c.args.scope c.change-done.ensures.absent c.change-done.ensures.changed
    (λ x y ret. let same : y ≡ record x { rest = record (x.rest) { reads = c.args.reads } } = search rules in ap (λ z. height_in z) same)
    ∙ c.args.self.now.entered

pub invariant_of-self-2-clause-waiting : goal.invariant_of-self-2-clause-waiting
invariant_of-self-2-clause-waiting g c =
    waits_stay (ways_of c.change-done.new.self) (ways_of (c.args.self.now.rows).table) c.args.self.now.fresh c.args.self.now.hidden c.args.self.now.next_scope
    (
    ways_changed _ (c.args.self.now.rows).table c.change-done.new.self c.args.scope c.change-done.ensures.absent c.change-done.ensures.changed
    (λ x y ret. let same : y ≡ record x { rest = record (x.rest) { reads = c.args.reads } } = search rules in ap (λ z. way_of z) same)
    )
    c.args.self.now.waiting

pub invariant_of-self-2-clause-placed : goal.invariant_of-self-2-clause-placed
invariant_of-self-2-clause-placed g c =
    ∥∥₁_map c.args.self.now.placed
    (
    placed_changed _ (c.args.self.now.rows).table c.change-done.new.self c.args.scope c.args.self.now.places c.change-done.ensures.absent c.change-done.ensures.changed
    (λ x y ret. let same : y ≡ record x { rest = record (x.rest) { reads = c.args.reads } } = search rules in ap (λ z. drawn_for z) same)
    )

pub returns : goal.returns
returns g c = λ kept.
    reads_alone kept c.args.self.now (each scope_of c.change-done.new.self) c.set_reads.new.self (ap (λ t. t.cells) c.in_ok-set_reads.ensures.ok) (ap (λ t. t.contexts) c.in_ok-set_reads.ensures.ok)
    ∙ scope_surely _ c.args.self.now c.change-done.new.self c.args.scope (λ x. record x { rest = record (x.rest) { reads = c.args.reads } }) (λ x. record x { reads = map source_of c.args.reads })
    c.change-done.ensures.absent c.change-done.ensures.changed (λ x y ret. search rules) (λ x. refl) kept

pub invariant_of-self-2-clause-listed : goal.invariant_of-self-2-clause-listed
invariant_of-self-2-clause-listed g c =
    listed_changed _ (c.args.self.now.rows).table c.change-done.new.self c.args.scope c.args.self.now.effects c.args.self.now.held c.change-done.ensures.absent c.change-done.ensures.changed
    (λ x y ret. let same : y ≡ record x { rest = record (x.rest) { reads = c.args.reads } } = search rules in ap (λ z. listed_by (z.rest).height (z.rest).effects (z.rest).holders) same) c.args.self.now.listed

pub invariant_of-self-2-clause-heard : goal.invariant_of-self-2-clause-heard
invariant_of-self-2-clause-heard g c =
    heard_told c.args.self.now.cells c.set_reads.new.self c.args.self.now.read_order (record { 0 = c.args.scope }) (in_order source_cmp c.as_slice.result.now)
    (ap (λ t. t.contexts) c.in_ok-set_reads.ensures.ok) c.in_ok-set_reads.ensures.each c.args.self.now.heard
