use Rattle.law_behavior.proofs.Reading.{runs_keep_reads}
use Rattle.law_behavior.proofs.lasting.runs_keep_reads.Goals as goal

pub returns : goal.returns
returns g c = λ app w v s x work live plain done. runs_keep_reads app w v s x work live plain done
