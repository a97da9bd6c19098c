use Rattle.law_pages.proofs.Listening.{kept_pages_ask_nothing}
use Rattle.law_pages.proofs.updating.kept_pages_ask_nothing.Goals as goal

pub returns : goal.returns
returns g c = kept_pages_ask_nothing _
