use Rattle.std.proofs.Common.{ap, sym, ◌∙◌}
use Rattle.run_owed.specs.Owing.{Owing}
use Rattle.run_state.specs.Mirror.{state_of}
use Rattle.run_state.proofs.Posts.{with_all}
use Rattle.run_state.proofs.state.State.unqueue.Goals as goal

pub returns : goal.returns
returns g c = λ kept. ap (λ o. with_all (state_of kept c.args.self.now) o) c.unwake.ensures.unqueued

pub invariant_of-self-clause-entered : goal.invariant_of-self-clause-entered
invariant_of-self-clause-entered g c = c.args.self.now.entered ∙ sym (ap (λ (o : Owing). o.scopes) c.unwake.ensures.unqueued)

pub invariant_of-self-clause-known : goal.invariant_of-self-clause-known
invariant_of-self-clause-known g c = c.args.self.now.known ∙ sym (ap (λ (o : Owing). o.tasks) c.unwake.ensures.unqueued)
