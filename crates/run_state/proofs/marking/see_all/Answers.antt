use Rattle.std.proofs.Common.{◌∙◌, refl, sym, ap}
use Rattle.run_owed.specs.Lists.{numbers_of}
use Rattle.run_state.proofs.Entered.{row_entered}
use Rattle.run_state.proofs.SeenAll.{joins_end, joins_step, seen_once_more, with_owed_seen}
use Rattle.run_state.proofs.marking.see_all.Goals as goal

pub loop-entry-init : goal.loop-entry-init
loop-entry-init g c = record { same = refl; left = refl }

pub see-requires : goal.see-requires
see-requires g c =
    record { entered = row_entered c.args.scopes.now (numbers_of c.loop-entry.owed.scopes) c.loop-entry.entry-index c.entry-item.result (c.requires.entered ∙ sym (ap (λ o. numbers_of o.scopes) c.loop-entry.invariant.same)) c.loop-entry-test.true c.entry-item.is }

pub loop-entry-preserved : goal.loop-entry-preserved
loop-entry-preserved g c =
    record {
      same = seen_once_more c.args.owed.now c.loop-entry.owed c.see.new.self c.entry-item.result.0 c.loop-entry.invariant.same c.see.ensures.seen;
      left = joins_step c.args.scopes.now c.loop-entry.entry-index c.entry-item.result c.loop-entry.owed.seen c.see.new.self.seen c.loop-entry-test.true c.entry-item.is (ap (λ o. o.seen) c.see.ensures.seen) ∙ c.loop-entry.invariant.left;
    }

pub returns : goal.returns
returns g c =
    record {
      seen = c.loop-entry.invariant.same ∙ ap (λ ns. with_owed_seen c.args.owed.now ns) (joins_end c.args.scopes.now c.loop-entry.entry-index c.loop-entry.owed.seen _ c.loop-entry-test.false c.loop-entry.invariant.left);
    }
