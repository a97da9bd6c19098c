-- The status is that of where the program stops.
use Rattle.std.proofs.Common.{Ok, Err, refl}
use Rattle.show_html.proofs.Pagings.{shows_paged}
use Rattle.show_html.proofs.paged.show_paged_and_say.Goals as goal

pub returns-in-Ok : goal.returns-in-Ok
returns-in-Ok g c = record { shows = shows_paged _ _ _ _ _ _ _ _ _ _ (Ok tt) refl c.in-Ok.ensures.unasked c.in-Ok.ensures.pages }

pub returns-in-Err : goal.returns-in-Err
returns-in-Err g c =
    record {
      shows = shows_paged _ _ _ _ _ _ _ _ _ _ (Err c.in-Err.stop) c.status.ensures.status c.in-Err.ensures.unasked c.in-Err.ensures.pages;
    }
