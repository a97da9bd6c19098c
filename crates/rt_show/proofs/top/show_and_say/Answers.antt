-- The status is that of where the program stops.
use Rattle.std.proofs.Common.{Ok, Err, refl}
use Rattle.rt_show.proofs.Shown.{shows}
use Rattle.rt_show.proofs.top.show_and_say.Goals as goal

pub returns-in-Ok : goal.returns-in-Ok
returns-in-Ok g c = record { shows = shows _ _ _ _ _ _ _ _ _ _ (Ok tt) refl c.shown.ensures.reads c.in-Ok.ensures.comes }

pub returns-in-Err : goal.returns-in-Err
returns-in-Err g c = record { shows = shows _ _ _ _ _ _ _ _ _ _ (Err c.in-Err.stop) c.status.ensures.status c.shown.ensures.reads c.in-Err.ensures.comes }
