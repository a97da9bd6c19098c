-- The reports are those of a session.
use Rattle.lang_syntax.specs.Mirror.{source_of}
use Rattle.run_reports.specs.Seen.{usual}
use Rattle.show_runs.proofs.Runs.{headline_untold, headline_generated, memos_generated}
use Rattle.show_runs.proofs.running.make.Goals as goal

pub returns-in-Ok : goal.returns-in-Ok
returns-in-Ok c =
    record {
      headline =
          headline_generated c.args.rows (source_of c.in_ok-described.described) c.in-Ok.reports c.in_ok-described.ensures.generated
          (headline_untold usual (source_of c.in_ok-described.described) _ _ c.in-Ok.reports (c.in-Ok.ensures.headline (source_of c.in_ok-described.described) c.in_ok-script.ensures.made));
      memos =
          memos_generated c.args.rows (source_of c.in_ok-described.described) c.in-Ok.reports c.in_ok-described.ensures.generated
          (c.in-Ok.ensures.memos (source_of c.in_ok-described.described) c.in_ok-script.ensures.made);
    }
