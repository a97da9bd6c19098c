-- The first row is the scope's.
use Rattle.std.proofs.Common.{◌∙◌}
use Rattle.std.proofs.lemmas.Bool.{eqb-true}
use Rattle.rt_scopes.proofs.KnownLeft.{front_first}
use Rattle.rt_scopes.proofs.going.begins_at.Goals as goal

pub returns-in-Some-clause-begins : goal.returns-in-Some-clause-begins
returns-in-Some-clause-begins c =
    λ is t. front_first c.args.rows.now c.in-Some.row.now t c.in-Some.ensures.value ∙ eqb-true c.in-Some.row.now.0 c.args.scope is
