-- Where the root doesn't lead to the number nothing is found.
use Rattle.std.proofs.Common.{sym, ◌∙◌}
use Rattle.run_shown.proofs.finding.find_on.Goals as goal

pub returns-then-not-has : goal.returns-then-not-has
returns-then-not-has g c = sym (c.requires.leads.others c.args.look.now.scopes 0 (sym c.has.ensures ∙ c.if-not-has.true))
