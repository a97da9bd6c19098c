use Rattle.law_elm.proofs.Sessions.{pages_keep_no_error}
use Rattle.law_elm.proofs.failing.pages_keep_no_error.Goals as goal

pub returns : goal.returns
returns g c = λ k a calm props inputs v log goes alive. pages_keep_no_error _ k a calm props inputs v log goes alive
