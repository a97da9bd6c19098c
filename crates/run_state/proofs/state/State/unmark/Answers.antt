use Rattle.std.proofs.Common.{ap, sym, ◌∙◌}
use Rattle.run_owed.specs.Owing.{Owing}
use Rattle.run_state.specs.Mirror.{state_of}
use Rattle.run_state.specs.Names.{scope_numbers}
use Rattle.run_state.proofs.Posts.{unmarked_by}
use Rattle.run_state.proofs.state.State.unmark.Goals as goal

pub returns : goal.returns
returns g c = λ kept. unmarked_by (state_of kept c.args.self.now) c.args.self.now.owed c.unmark.new.self c.args.scope (scope_numbers c.drop_skipped.new.scopes) c.unmark.ensures.unmarked c.drop_skipped.ensures

pub invariant_of-self-clause-entered : goal.invariant_of-self-clause-entered
invariant_of-self-clause-entered g c = c.args.self.now.entered ∙ sym (ap (λ (o : Owing). o.scopes) c.unmark.ensures.unmarked)

pub invariant_of-self-clause-known : goal.invariant_of-self-clause-known
invariant_of-self-clause-known g c = c.args.self.now.known ∙ sym (ap (λ (o : Owing). o.tasks) c.unmark.ensures.unmarked)
