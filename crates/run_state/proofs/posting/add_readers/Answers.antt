use Rattle.std.proofs.Common.{◌∙◌, refl, sym, ap}
use Rattle.run_records.specs.Records.{source_of}
use Rattle.run_owed.specs.Lists.{numbers_of}
use Rattle.run_state.proofs.Entered.{row_entered}
use Rattle.run_state.proofs.Posts.{reader_step, reader_end, owed_twice, with_owed}
use Rattle.run_state.proofs.posting.add_readers.Goals as goal

pub loop-entry-init : goal.loop-entry-init
loop-entry-init g c = record { same = refl; done = refl }

pub add_reader-requires : goal.add_reader-requires
add_reader-requires g c =
    record { entered = row_entered c.args.scopes.now (numbers_of c.loop-entry.owed.scopes) c.loop-entry.entry-index c.entry-item.result (c.requires.entered ∙ sym (ap (λ o. numbers_of o.scopes) c.loop-entry.invariant.same)) c.loop-entry-test.true c.entry-item.is }

pub loop-entry-preserved : goal.loop-entry-preserved
loop-entry-preserved g c =
    record {
      same = owed_twice c.args.owed.now c.loop-entry.owed c.add_reader.new.owed c.loop-entry.owed.posted c.add_reader.new.owed.posted c.loop-entry.invariant.same (c.add_reader.ensures.posted ∙ ap (λ ps. with_owed c.loop-entry.owed ps) (sym (ap (λ o. o.posted) c.add_reader.ensures.posted)));
      done =
          reader_step c.args.scopes.now c.loop-entry.entry-index c.entry-item.result (source_of c.args.source) c.as_slice.result.now c.loop-entry.owed.posted c.add_reader.new.owed.posted
          c.loop-entry-test.true c.entry-item.is (c.as_slice.ensures.items ∙ ap (λ s. (s.rest).reads) c.get-scope.ensures.value) (ap (λ o. o.posted) c.add_reader.ensures.posted)
          ∙ c.loop-entry.invariant.done;
    }

pub returns : goal.returns
returns g c =
    record {
      posted = c.loop-entry.invariant.same
          ∙ ap (λ ps. with_owed c.args.owed.now ps) (reader_end c.args.scopes.now c.loop-entry.entry-index (source_of c.args.source) c.loop-entry.owed.posted _ c.loop-entry-test.false c.loop-entry.invariant.done);
    }
