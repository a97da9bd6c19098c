use Rattle.run_answers.proofs.providers.+provider_from.Given as goal

abbrev pub decreases-provider_from : goal.decreases-provider_from
decreases-provider_from g l = l.steps
