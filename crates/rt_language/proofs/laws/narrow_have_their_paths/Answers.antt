use Rattle.rt_language.proofs.Wide.{narrow_have_their_paths}
use Rattle.rt_language.proofs.laws.narrow_have_their_paths.Goals as goal

pub returns : goal.returns
returns c = narrow_have_their_paths
