-- No statement is one that may stand outside of bodies.
use Rattle.lang_syntax.proofs.Stands.{outside-none}
use Rattle.lang_script.proofs.script.Script.statements.Goals as goal

pub returns-in-None-clause-stand : goal.returns-in-None-clause-stand
returns-in-None-clause-stand c = outside-none
