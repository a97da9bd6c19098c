use Rattle.std.proofs.Common.{◌∙◌, sym, ap, refl}
use Rattle.run_records.specs.Records.{source_of}
use Rattle.run_records.specs.Kept.{scope_of}
use Rattle.run_owed.specs.Owing.{Owing}
use Rattle.run_state.specs.Mirror.{state_of, task_of}
use Rattle.run_state.specs.Posts.{stands_in}
use Rattle.run_state.proofs.Each.{live-each}
use Rattle.run_state.proofs.Entered.{rows_entered, tasks_entered}
use Rattle.run_state.proofs.Posts.{with_all}
use Rattle.run_state.proofs.Told.{told}
use Rattle.run_state.proofs.state.State.tell.Goals as goal

pub post_readers-requires : goal.post_readers-requires
post_readers-requires g c =
    record {
      known = c.args.self.now.readers;
      heard = c.args.self.now.heard;
      entered = rows_entered c.args.self.now;
      woken = tasks_entered c.args.self.now;
    }

pub returns-clause-told : goal.returns-clause-told
returns-clause-told g c = λ kept.
    let w = state_of kept c.args.self.now in
    ap (λ o. with_all w o) c.post_readers.ensures.posted
    ∙ told w (source_of c.args.source) c.args.self.now.read_order (c.args.self.now.cells).contexts (stands_in (c.args.self.now.rows).table) (stands_in c.args.self.now.tasks) refl
    (λ s. live-each scope_of (c.args.self.now.rows).table s) (λ t. live-each task_of c.args.self.now.tasks t)

pub invariant_of-self-clause-entered : goal.invariant_of-self-clause-entered
invariant_of-self-clause-entered g c = c.args.self.now.entered ∙ sym (ap (λ (o : Owing). o.scopes) c.post_readers.ensures.posted)

pub invariant_of-self-clause-known : goal.invariant_of-self-clause-known
invariant_of-self-clause-known g c = c.args.self.now.known ∙ sym (ap (λ (o : Owing). o.tasks) c.post_readers.ensures.posted)
