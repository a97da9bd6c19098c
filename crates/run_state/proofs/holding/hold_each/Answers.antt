use Rattle.std.proofs.Common.{◌∙◌, refl, sym, ap}
use Rattle.run_owed.specs.Lists.{numbers_of}
use Rattle.run_state.proofs.Entered.{row_entered}
use Rattle.run_state.proofs.Posts.{owed_twice, with_owed}
use Rattle.run_state.proofs.Released.{held_step, held_end}
use Rattle.run_state.proofs.holding.hold_each.Goals as goal

pub loop-entry-init : goal.loop-entry-init
loop-entry-init g c = record { same = refl; done = refl }

pub add_held-requires : goal.add_held-requires
add_held-requires g c =
    record { entered = row_entered c.args.scopes.now (numbers_of c.loop-entry.owed.scopes) c.loop-entry.entry-index c.entry-item.result (c.requires.entered ∙ sym (ap (λ o. numbers_of o.scopes) c.loop-entry.invariant.same)) c.loop-entry-test.true c.entry-item.is }

pub loop-entry-preserved : goal.loop-entry-preserved
loop-entry-preserved g c =
    record {
      same = owed_twice c.args.owed.now c.loop-entry.owed c.add_held.new.owed c.loop-entry.owed.posted c.add_held.new.owed.posted c.loop-entry.invariant.same (c.add_held.ensures.posted ∙ ap (λ ps. with_owed c.loop-entry.owed ps) (sym (ap (λ o. o.posted) c.add_held.ensures.posted)));
      done =
          held_step c.args.scopes.now c.loop-entry.entry-index c.entry-item.result c.args.task c.loop-entry.owed.posted c.add_held.new.owed.posted c.loop-entry-test.true c.entry-item.is (ap (λ o. o.posted) c.add_held.ensures.posted)
          ∙ c.loop-entry.invariant.done;
    }

pub returns : goal.returns
returns g c =
    record {
      posted = c.loop-entry.invariant.same
          ∙ ap (λ ps. with_owed c.args.owed.now ps) (held_end c.args.scopes.now c.loop-entry.entry-index c.args.task c.loop-entry.owed.posted _ c.loop-entry-test.false c.loop-entry.invariant.done);
    }
