use Rattle.std.proofs.Common.{[], ◌∙◌, sym, ap}
use Rattle.std.proofs.Math.Logic.{∥∥₁_map}
use Rattle.rt_model.specs.Lists.{without}
use Rattle.run_owed.specs.Owing.{Owing}
use Rattle.run_owed.proofs.Tables.{values_without}
use Rattle.run_state.specs.Heights.{height_in, heights_of}
use Rattle.run_state.specs.Mirror.{state_of}
use Rattle.run_state.proofs.Entered.{scope_entered}
use Rattle.run_state.proofs.Covers.{covers_by}
use Rattle.run_state.proofs.Waiting.{scope_left}
use Rattle.run_state.proofs.Gone.{scopes_less, without_none}
use Rattle.run_state.proofs.Listing.{listed_gone}
use Rattle.run_state.proofs.Known.{known_less}
use Rattle.run_state.proofs.Heard.{heard_told}
use Rattle.run_state.proofs.state.State.remove_scope.Goals as goal

pub returns-then-not-is_live : goal.returns-then-not-is_live
returns-then-not-is_live g c = record { removed = λ kept. without_none (state_of kept c.args.self.now) c.args.scope (sym (c.is_live.ensures kept) ∙ c.if-not-is_live.true) }

pub leave_scope-requires : goal.leave_scope-requires
leave_scope-requires g c =
    record {
      entered = scope_entered c.args.self.now c.args.scope (λ kept. sym (c.is_live.ensures kept) ∙ c.if-not-is_live.false);
      unseen = c.requires.unseen;
      no_tasks = c.requires.no_tasks;
    }

pub returns : goal.returns
returns g c = record { removed = λ kept. scopes_less kept c.args.self.now c.leave_scope.new.self c.drop_reader.new.self c.remove_rows.new.rows c.args.scope c.leave_scope.ensures.scopes (ap (λ t. t.cells) c.drop_reader.ensures.dropped) (ap (λ t. t.contexts) c.drop_reader.ensures.dropped) c.remove_rows.ensures.rows }

pub invariant_of-self-clause-entered : goal.invariant_of-self-clause-entered
invariant_of-self-clause-entered g c =
    ap heights_of c.remove_rows.ensures.rows
    ∙ values_without height_in (c.args.self.now.rows).table c.args.scope
    ∙ ap (λ es. without es c.args.scope) c.args.self.now.entered
    ∙ sym (ap (λ (o : Owing). o.scopes) c.leave_scope.ensures.scopes)

pub invariant_of-self-clause-placed : goal.invariant_of-self-clause-placed
invariant_of-self-clause-placed g c = ∥∥₁_map c.args.self.now.placed c.remove_rows.ensures.placed

pub invariant_of-self-clause-readers : goal.invariant_of-self-clause-readers
invariant_of-self-clause-readers g c =
    known_less (c.args.self.now.rows).table c.remove_rows.new.rows c.args.scope (c.args.self.now.cells).reads (c.drop_reader.new.self).reads c.remove_rows.ensures.rows c.drop_reader.ensures.each c.args.self.now.readers

pub invariant_of-self-clause-waiting : goal.invariant_of-self-clause-waiting
invariant_of-self-clause-waiting g c =
    ∥∥₁_map c.args.self.now.waiting
    (
    scope_left (c.args.self.now.rows).table c.remove_rows.new.rows c.args.self.now.fresh c.args.self.now.fresh c.args.self.now.hidden c.drop_hidden.new.hidden c.args.self.now.next_scope c.args.scope
    c.remove_rows.ensures.rows
    (
    λ ways height s other q.
    covers_by ways c.args.self.now.fresh c.args.self.now.fresh c.args.self.now.hidden c.drop_hidden.new.hidden height s (λ r. r) (λ a r. c.drop_hidden.ensures a s other ∙ r) q
    )
    )

pub invariant_of-self-clause-listed : goal.invariant_of-self-clause-listed
invariant_of-self-clause-listed g c = listed_gone (c.args.self.now.rows).table c.remove_rows.new.rows c.args.scope c.args.self.now.effects c.args.self.now.held c.drop_paired.new.pairs c.remove_rows.ensures.rows c.drop_paired.ensures c.args.self.now.listed

pub invariant_of-self-clause-heard : goal.invariant_of-self-clause-heard
invariant_of-self-clause-heard g c =
    heard_told c.args.self.now.cells c.drop_reader.new.self c.args.self.now.read_order (record { 0 = c.args.scope }) []
    (ap (λ t. t.contexts) c.drop_reader.ensures.dropped) c.drop_reader.ensures.each c.args.self.now.heard
