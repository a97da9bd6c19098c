use Rattle.tree_documents.proofs.Cut.{reports_show}
use Rattle.tree_documents.proofs.agreeing.reports_show.Goals as goal

pub returns : goal.returns
returns g c = reports_show
