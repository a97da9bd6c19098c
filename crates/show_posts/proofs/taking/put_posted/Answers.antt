-- The messages follow the reports, or none is begun.
use Rattle.std.proofs.Common.{rules, ◌≡◌, Err}
use Rattle.rt_model.specs.Lists.{joined}
use Rattle.rt_session.specs.Posted.{drains_of}
use Rattle.show_words.specs.Texts.{run_lines_of}
use Rattle.show_posts.specs.Posting.{taken_lines}
use Rattle.show_words.proofs.Puts.{writes_both, writes_first}
use Rattle.show_posts.proofs.taking.put_posted.Goals as goal

pub returns : goal.returns
returns g c = record { writes = writes_both _ _ _ _ _ _ _ _ _ c.in_ok-put_run.ensures.writes c.put_drains.ensures.writes }

pub returns-in_err-put_run : goal.returns-in_err-put_run
returns-in_err-put_run g c =
    let failed : c.from_residual.result ≡ Err c.in_err-put_run.field-0.0 = search rules in
    record {
      writes = rw failed
          (writes_first (run_lines_of c.args.edits.now c.args.reports.now) (joined (taken_lines 1 (drains_of c.args.drains.now))) _ _ _ _
          c.in_err-put_run.field-0.0 c.in_err-put_run.ensures.writes);
    }
