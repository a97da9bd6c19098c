use Rattle.rt_language.proofs.Formulas.{expressions_look}
use Rattle.rt_language.proofs.laws.expressions_look.Goals as goal

pub returns : goal.returns
returns c = expressions_look
