-- By the tasks themselves.
use Rattle.run_records.proofs.holders.Holders.drop_task.Goals as goal

pub returns : goal.returns
returns c = rw (← c.self.view_is) c.drop_task.ensures
