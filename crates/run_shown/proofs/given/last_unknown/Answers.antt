-- By what stands last.
use Rattle.std.proofs.Common.{ap, ◌∙◌}
use Rattle.run_shown.specs.Unknowns.{unknown_of}
use Rattle.run_shown.proofs.given.last_unknown.Goals as goal

pub returns-in-Some : goal.returns-in-Some
returns-in-Some c = c.unknown.ensures ∙ ap (λ o. unknown_of c.args.given.now o) c.in-Some.ensures.value

pub returns-in-None : goal.returns-in-None
returns-in-None c = ap (λ o. unknown_of c.args.given.now o) c.in-None.ensures.value
