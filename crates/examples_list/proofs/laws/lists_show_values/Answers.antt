-- They are lawful, and a hook gives back the number that it keeps.
use Rattle.std.proofs.Common.{refl}
use Rattle.examples_list.specs.Meaning.{answers, decides, keeping, no_props}
use Rattle.examples_list.proofs.laws.lists_show_values.Goals as goal

pub returns : goal.returns
returns k = k.pages_show_values.ensures keeping answers (λ n. refl) (k.pages_are_lawful.ensures keeping answers decides) no_props
