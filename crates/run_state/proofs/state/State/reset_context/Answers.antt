use Rattle.std.proofs.Common.{[], map, ap, ◌∙◌}
use Rattle.rt_cells.specs.declared.sources.Reader.TheVariants.{Scope}
use Rattle.run_records.specs.Records.{source_of}
use Rattle.run_records.specs.Kept.{each, scope_of}
use Rattle.rt_model.proofs.Maps.{eq_same, pick_false, pick_true}
use Rattle.run_state.specs.Mirror.{context_of}
use Rattle.run_state.specs.Sources.{read_into}
use Rattle.run_state.proofs.Contexts.{context_read, none_read}
use Rattle.run_state.proofs.Heard.{heard_reset}
use Rattle.run_state.proofs.Known.{known_reads}
use Rattle.run_state.proofs.state.State.reset_context.Goals as goal

pub returns-in_default : goal.returns-in_default
returns-in_default g c = λ kept app scope polled. none_read kept c.args.self.now c.args.context (λ x. record x { sources = [] }) c.in_default.ensures.target

pub returns : goal.returns
returns g c = λ kept app scope polled.
    context_read kept c.args.self.now c.args.context c.in-Some._target c.drop_reader.new.self c.begin.new.self (λ x. record x { sources = [] })
    (ap (λ t. t.cells) c.drop_reader.ensures.dropped) (ap (λ t. t.contexts) c.drop_reader.ensures.dropped) c.in-Some.ensures.ascending c.in-Some.ensures.target
    (λ m q. c.begin.ensures m ∙ pick_false [] (read_into c.args.self.now.read_order m) q)
    (λ x. ap (λ xs. record (context_of c.args.self.now.read_order c.args.context x) { sources = map source_of xs })
    (c.begin.ensures c.args.context ∙ pick_true [] (read_into c.args.self.now.read_order c.args.context) (eq_same c.args.context)))

pub invariant_of-self-clause-readers : goal.invariant_of-self-clause-readers
invariant_of-self-clause-readers g c =
    known_reads (each scope_of (c.args.self.now.rows).table) (c.args.self.now.cells).reads (c.drop_reader.new.self).reads (λ s. c.drop_reader.ensures.each (Scope (record { 0 = s }))) c.args.self.now.readers

pub invariant_of-self-clause-heard : goal.invariant_of-self-clause-heard
invariant_of-self-clause-heard g c =
    heard_reset c.args.self.now.cells c.drop_reader.new.self c.args.self.now.read_order c.begin.new.self c.args.context
    (ap (λ t. t.contexts) c.drop_reader.ensures.dropped) c.drop_reader.ensures.each c.begin.ensures c.args.self.now.heard
