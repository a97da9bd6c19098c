use Rattle.std.proofs.Common.{sym, subst}
use Rattle.rt_inbox.specs.Ends.{posters_of}
use Rattle.rt_inbox.specs.Gathered.{HasEach}
use Rattle.rt_inbox.proofs.taken.finish.Goals as goal

pub gather-requires-clause-all : goal.gather-requires-clause-all
gather-requires-clause-all g c = subst (λ ns. HasEach (posters_of c.args.inbox) ns) (sym c.into_vec.ensures.items) c.requires.all
