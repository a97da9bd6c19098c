use Rattle.law_patch.proofs.Served.{served_is_written}
use Rattle.law_patch.proofs.serving.served_is_written.Goals as goal

pub returns : goal.returns
returns g c = λ app b so_far above new old on agree. served_is_written app b so_far agree on above new old
