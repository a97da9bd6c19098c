use Rattle.lang_lines.proofs.ReadSources.{done_tell, ended_tell, sorts_tell}
use Rattle.lang_lines.proofs.sessions_tell.Goals as goal

pub returns-clause-done : goal.returns-clause-done
returns-clause-done c = done_tell

pub returns-clause-ended : goal.returns-clause-ended
returns-clause-ended c = ended_tell

pub returns-clause-sorts : goal.returns-clause-sorts
returns-clause-sorts c = sorts_tell
