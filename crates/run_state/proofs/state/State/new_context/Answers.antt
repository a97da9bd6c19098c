use Rattle.std.proofs.Common.{sym, ap, ◌∙◌}
use Rattle.rt_cells.specs.declared.sources.Reader.TheVariants.{Scope}
use Rattle.run_records.specs.Kept.{each, scope_of}
use Rattle.run_state.proofs.Contexts.{context_made, no_context_made}
use Rattle.run_state.proofs.Heard.{heard_made}
use Rattle.run_state.proofs.Known.{known_reads}
use Rattle.run_state.proofs.state.State.new_context.Goals as goal

pub returns-then-not-is_live : goal.returns-then-not-is_live
returns-then-not-is_live g c = no_context_made c.args.self.now c.args.scope c.args.context c.args.target (λ kept. sym (c.is_live.ensures kept) ∙ c.if-not-is_live.true)

pub returns-in-Ok : goal.returns-in-Ok
returns-in-Ok g c =
    context_made c.args.self.now c.args.scope c.args.context c.args.target c.enter_context.new.self c.begin.new.self (λ kept. sym (c.is_live.ensures kept) ∙ c.if-not-is_live.false)
    c.in-Ok.ensures.ok c.in-Ok.ensures.ascending c.begin.ensures

pub invariant_of-self-clause-readers : goal.invariant_of-self-clause-readers
invariant_of-self-clause-readers g c =
    known_reads (each scope_of (c.args.self.now.rows).table) (c.args.self.now.cells).reads (c.enter_context.new.self).reads (λ s. c.in-Ok.ensures.each (Scope (record { 0 = s }))) c.args.self.now.readers

pub invariant_of-self-clause-heard : goal.invariant_of-self-clause-heard
invariant_of-self-clause-heard g c =
    heard_made c.args.self.now.cells c.enter_context.new.self c.args.self.now.read_order c.begin.new.self c.args.context (record { owner = record { 0 = c.args.scope }; value = c.args.target })
    (ap (λ t. t.contexts) c.in-Ok.ensures.ok) c.in-Ok.ensures.each c.begin.ensures c.args.self.now.heard
