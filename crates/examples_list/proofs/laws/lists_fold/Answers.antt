-- So it is of all pages.
use Rattle.examples_list.specs.Meaning.{answers, keeping, no_props}
use Rattle.examples_list.proofs.laws.lists_fold.Goals as goal

pub returns : goal.returns
returns k = k.pages_reduce.ensures keeping answers no_props
