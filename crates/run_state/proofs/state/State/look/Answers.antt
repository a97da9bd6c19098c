use Rattle.std.proofs.Common.{◌∙◌, ap, sym}
use Rattle.run_owed.specs.Owing.{Owing}
use Rattle.run_state.specs.Mirror.{state_of}
use Rattle.run_state.proofs.Entered.{live_entered, works_entered}
use Rattle.run_state.proofs.LooksOnce.{looked_by}
use Rattle.run_state.proofs.Posts.{with_all}
use Rattle.run_state.proofs.state.State.look.Goals as goal

pub returns-clause-looked : goal.returns-clause-looked
returns-clause-looked g c = λ kept.
    ap (λ o. with_all (state_of kept c.args.self.now) o) c.look.ensures.looked
    ∙ looked_by (state_of kept c.args.self.now) (c.args.self.now.owed).scopes (c.args.self.now.owed).tasks (live_entered kept c.args.self.now) (works_entered kept c.args.self.now)

pub invariant_of-self-clause-entered : goal.invariant_of-self-clause-entered
invariant_of-self-clause-entered g c = c.args.self.now.entered ∙ sym (ap (λ (o : Owing). o.scopes) c.look.ensures.looked)

pub invariant_of-self-clause-known : goal.invariant_of-self-clause-known
invariant_of-self-clause-known g c = c.args.self.now.known ∙ sym (ap (λ (o : Owing). o.tasks) c.look.ensures.looked)
