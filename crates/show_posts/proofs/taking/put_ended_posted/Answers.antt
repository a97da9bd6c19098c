-- The line follows the messages, or isn't begun.
use Rattle.std.proofs.Common.{rules, ◌≡◌, [], ◌∷◌, map, Err}
use Rattle.tree_edits.specs.Documents.{edit_of}
use Rattle.run_reports.specs.Seen.{report_of}
use Rattle.rt_session.specs.Posted.{drains_of}
use Rattle.show_posts.specs.Posting.{posted_text}
use Rattle.show_words.proofs.Puts.{writes_both, writes_first}
use Rattle.show_posts.proofs.taking.put_ended_posted.Goals as goal

pub returns : goal.returns
returns g c = record { writes = writes_both _ _ _ _ _ _ _ _ _ c.in_ok-put_posted.ensures.writes c.put.ensures.writes }

pub returns-in_err-put_posted : goal.returns-in_err-put_posted
returns-in_err-put_posted g c =
    let failed : c.from_residual.result ≡ Err c.in_err-put_posted.field-0.0 = search rules in
    record {
      writes = rw failed
          (writes_first (posted_text (map edit_of c.args.edits.now) (map report_of c.args.reports.now) (drains_of c.args.drains.now))
          (c.args.line.now ∷ []) _ _ _ _ c.in_err-put_posted.field-0.0 c.in_err-put_posted.ensures.writes);
    }
