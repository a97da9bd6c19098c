-- By the posters' lists, one by one.
use Rattle.rt_session.proofs.Agreeing.{merges_agree}
use Rattle.rt_session.proofs.merges.merges_agree.Goals as goal

pub returns : goal.returns
returns c = merges_agree
