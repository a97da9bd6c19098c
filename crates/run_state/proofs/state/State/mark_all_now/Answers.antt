use Rattle.std.proofs.Common.{◌∙◌, ap, sym}
use Rattle.run_owed.specs.Lists.{joins, numbers_of}
use Rattle.run_owed.specs.Owing.{Owing}
use Rattle.run_state.specs.Mirror.{state_of}
use Rattle.run_state.proofs.AllSeen.{all_seen}
use Rattle.run_state.proofs.Entered.{rows_entered}
use Rattle.run_state.proofs.Posts.{with_all}
use Rattle.run_state.proofs.state.State.mark_all_now.Goals as goal

pub see_all-requires : goal.see_all-requires
see_all-requires g c = let is = c.as_slice.ensures.rows in record { entered = rw is (rows_entered c.args.self.now) }

pub returns-clause-marked : goal.returns-clause-marked
returns-clause-marked g c = λ kept.
    ap (λ o. with_all (state_of kept c.args.self.now) o) c.see_all.ensures.seen
    ∙ all_seen kept c.args.self.now (joins c.args.self.now.owed.seen (numbers_of c.as_slice.result.now)) (ap (λ es. joins c.args.self.now.owed.seen (numbers_of es)) c.as_slice.ensures.rows)

pub invariant_of-self-clause-entered : goal.invariant_of-self-clause-entered
invariant_of-self-clause-entered g c = c.args.self.now.entered ∙ sym (ap (λ (o : Owing). o.scopes) c.see_all.ensures.seen)

pub invariant_of-self-clause-known : goal.invariant_of-self-clause-known
invariant_of-self-clause-known g c = c.args.self.now.known ∙ sym (ap (λ (o : Owing). o.tasks) c.see_all.ensures.seen)
