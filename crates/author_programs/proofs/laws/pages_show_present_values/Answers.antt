-- A page shows what its function gives of the present values.
use Rattle.author_programs.proofs.Shows.{shows-present-values}
use Rattle.author_programs.proofs.laws.pages_show_present_values.Goals as goal

pub returns : goal.returns
returns g c = shows-present-values _
