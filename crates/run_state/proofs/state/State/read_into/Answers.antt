use Rattle.std.proofs.Common.{map, ap, ◌∙◌}
use Rattle.rt_cells.specs.declared.sources.Reader.TheVariants.{Scope}
use Rattle.rt_cells.specs.Held.{held_at}
use Rattle.rt_model.specs.Commands.{one_more_source}
use Rattle.rt_model.proofs.Maps.{eq_same, pick_false, pick_true}
use Rattle.run_records.specs.Records.{source_of}
use Rattle.run_records.specs.Kept.{each, scope_of}
use Rattle.run_state.specs.Mirror.{context_of}
use Rattle.run_state.specs.Sources.{joined, read_into}
use Rattle.run_state.proofs.Contexts.{context_read, found_held, joined-is, none_read}
use Rattle.run_state.proofs.Heard.{heard_more}
use Rattle.run_state.proofs.Known.{known_reads}
use Rattle.run_state.proofs.state.State.read_into.Goals as goal

pub returns-in_default : goal.returns-in_default
returns-in_default g c = λ kept app scope polled. none_read kept c.args.self.now c.args.context (λ x. record x { sources = one_more_source x.sources (source_of c.args.source) }) c.in_default.ensures.target

pub returns : goal.returns
returns g c = λ kept app scope polled.
    let before = read_into c.args.self.now.read_order c.args.context in
    context_read kept c.args.self.now c.args.context c.in-Some._target c.add_read.new.self c.read.new.self (λ x. record x { sources = one_more_source x.sources (source_of c.args.source) })
    (ap (λ t. t.cells) c.in_ok-add_read.ensures.ok) (ap (λ t. t.contexts) c.in_ok-add_read.ensures.ok) c.in-Some.ensures.ascending c.in-Some.ensures.target
    (λ m q. c.read.ensures m ∙ pick_false (joined (read_into c.args.self.now.read_order m) c.args.source) (read_into c.args.self.now.read_order m) q)
    (λ x i. record (context_of c.args.self.now.read_order c.args.context x) {
      sources = (ap (map source_of) (c.read.ensures c.args.context ∙ pick_true (joined before c.args.source) before (eq_same c.args.context)) ∙ joined-is before c.args.source) i;
    })

pub invariant_of-self-2-clause-readers : goal.invariant_of-self-2-clause-readers
invariant_of-self-2-clause-readers g c =
    known_reads (each scope_of (c.args.self.now.rows).table) (c.args.self.now.cells).reads (c.add_read.new.self).reads (λ s. c.in_ok-add_read.ensures.each (Scope (record { 0 = s }))) c.args.self.now.readers

pub invariant_of-self-2-clause-heard : goal.invariant_of-self-2-clause-heard
invariant_of-self-2-clause-heard g c =
    let found = found_held (held_at c.args.context (c.args.self.now.cells).contexts) c.in-Some._target c.in-Some.ensures.target in
    heard_more c.args.self.now.cells c.add_read.new.self c.args.self.now.read_order c.read.new.self c.args.context c.args.source found.0
    (ap (λ t. t.contexts) c.in_ok-add_read.ensures.ok) found.1 c.in_ok-add_read.ensures.each c.read.ensures c.args.self.now.heard
