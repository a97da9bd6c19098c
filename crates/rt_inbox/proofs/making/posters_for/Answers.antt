-- The posters are ready, by their ends and their lists.
use Rattle.rt_inbox.proofs.Ready.{all_ready}
use Rattle.rt_inbox.proofs.making.posters_for.Goals as goal

pub returns-clause-ready : goal.returns-clause-ready
returns-clause-ready c = λ inbox own nothing few.
    all_ready inbox c.in_ok-posters.posters c.args.notifiers c.args.posts.now c.in_ok-posters.ensures.notifiers c.in_ok-posters.ensures.lists own nothing few
