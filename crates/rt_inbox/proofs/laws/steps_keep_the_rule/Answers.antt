use Rattle.rt_inbox.proofs.Keeps.{pushes, pops, finds_none, forks, merges}
use Rattle.rt_inbox.proofs.laws.steps_keep_the_rule.Goals as goal

pub returns : goal.returns
returns c = record {
  pushed = pushes;
  popped = pops;
  found_none = λ pass made taken joined. finds_none pass _;
  made = forks;
  joined = merges;
}
