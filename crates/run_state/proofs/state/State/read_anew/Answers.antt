-- A reset and all that is read since are one change of the context.
use Rattle.std.proofs.Common.{[], map, ap, sym, ◌∙◌}
use Rattle.rt_cells.specs.declared.sources.Reader.TheVariants.{Scope}
use Rattle.rt_cells.specs.Held.{held_at}
use Rattle.rt_model.proofs.Maps.{eq_same, pick_false, pick_true}
use Rattle.run_records.specs.Records.{source_of}
use Rattle.run_records.specs.Kept.{each, scope_of}
use Rattle.run_state.specs.Mirror.{context_of, state_of}
use Rattle.run_state.specs.Sources.{joined_all, read_into}
use Rattle.run_state.proofs.Contexts.{context_read, found_held, none_read}
use Rattle.run_state.proofs.Heard.{heard_anew}
use Rattle.run_state.proofs.Known.{known_reads}
use Rattle.run_state.proofs.ReadAnew.{anew_is}
use Rattle.run_state.proofs.state.State.read_anew.Goals as goal

pub returns-in_default : goal.returns-in_default
returns-in_default g c = λ kept app scope polled.
    none_read kept c.args.self.now c.args.context (λ x. record x { sources = map source_of (joined_all [] c.args.sources.now) }) c.in_default.ensures.target
    ∙ sym (anew_is app scope polled c.args.context (state_of kept c.args.self.now) c.args.sources.now)

pub returns : goal.returns
returns g c = λ kept app scope polled.
    context_read kept c.args.self.now c.args.context c.in-Some._target c.set_reads.new.self c.anew.new.self (λ x. record x { sources = map source_of (joined_all [] c.args.sources.now) })
    (ap (λ t. t.cells) c.in_ok-set_reads.ensures.ok) (ap (λ t. t.contexts) c.in_ok-set_reads.ensures.ok) c.in-Some.ensures.ascending c.in-Some.ensures.target
    (λ m q. c.anew.ensures m ∙ pick_false (joined_all [] c.args.sources.now) (read_into c.args.self.now.read_order m) q)
    (λ x. ap (λ xs. record (context_of c.args.self.now.read_order c.args.context x) { sources = map source_of xs })
    (c.anew.ensures c.args.context ∙ pick_true (joined_all [] c.args.sources.now) (read_into c.args.self.now.read_order c.args.context) (eq_same c.args.context)))
    ∙ sym (anew_is app scope polled c.args.context (state_of kept c.args.self.now) c.args.sources.now)

pub invariant_of-self-2-clause-readers : goal.invariant_of-self-2-clause-readers
invariant_of-self-2-clause-readers g c =
    known_reads (each scope_of (c.args.self.now.rows).table) (c.args.self.now.cells).reads (c.set_reads.new.self).reads (λ s. c.in_ok-set_reads.ensures.each (Scope (record { 0 = s }))) c.args.self.now.readers

pub invariant_of-self-2-clause-heard : goal.invariant_of-self-2-clause-heard
invariant_of-self-2-clause-heard g c =
    let found = found_held (held_at c.args.context (c.args.self.now.cells).contexts) c.in-Some._target c.in-Some.ensures.target in
    heard_anew c.args.self.now.cells c.set_reads.new.self c.args.self.now.read_order c.anew.new.self c.args.context c.args.sources.now found.0
    (ap (λ t. t.contexts) c.in_ok-set_reads.ensures.ok) found.1 c.in_ok-set_reads.ensures.each c.anew.ensures c.args.self.now.heard
