use Rattle.std.proofs.Common.{◌∙◌, ap}
use Rattle.rt_cells.specs.Held.{numbers_of}
use Rattle.run_records.specs.Kept.{each, scope_of}
use Rattle.run_state.specs.Mirror.{forgets}
use Rattle.run_state.proofs.Heard.{heard_dropped, heard_kept}
use Rattle.run_state.proofs.Known.{known_kept, known_reads}
use Rattle.run_state.proofs.Removed.{scope_dropped}
use Rattle.run_state.proofs.state.State.drop_scope.Goals as goal

pub returns : goal.returns
returns g c = λ kept.
    c.remove_scope.ensures.removed (forgets kept c.args.scope)
    ∙ scope_dropped kept c.args.self.now c.args.scope c.drop_cells.new.self c.drop_contexts.new.self c.drop_number.new.numbers c.drop_skipped.new.scopes
    c.drop_cells.ensures.dropped c.drop_contexts.ensures.dropped c.drop_number.ensures c.drop_skipped.ensures

pub remove_scope-requires : goal.remove_scope-requires
remove_scope-requires g c = record { unseen = c.requires.unseen; no_tasks = c.requires.no_tasks }

pub invariant_of-self-clause-readers : goal.invariant_of-self-clause-readers
invariant_of-self-clause-readers g c =
    known_reads (each scope_of (c.args.self.now.rows).table) (c.drop_cells.new.self).reads (c.drop_contexts.new.self).reads (λ s. c.drop_contexts.ensures.scopes (record { 0 = s }))
    (known_kept (c.args.self.now.rows).table (c.args.self.now.cells).reads (c.drop_cells.new.self).reads (ap (λ t. t.reads) c.drop_cells.ensures.dropped) c.args.self.now.readers)

pub invariant_of-self-clause-heard : goal.invariant_of-self-clause-heard
invariant_of-self-clause-heard g c =
    heard_dropped (c.drop_cells.new.self).contexts (c.drop_contexts.new.self).contexts c.args.self.now.read_order (c.drop_cells.new.self).reads (c.drop_contexts.new.self).reads
    (numbers_of (record { 0 = c.args.scope }) (c.drop_cells.new.self).contexts) c.drop_contexts.ensures.each c.drop_contexts.ensures.left
    (heard_kept c.args.self.now.cells c.drop_cells.new.self c.args.self.now.read_order (ap (λ t. t.contexts) c.drop_cells.ensures.dropped) (ap (λ t. t.reads) c.drop_cells.ensures.dropped) c.args.self.now.heard)
