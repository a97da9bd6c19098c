-- The scopes that were found lead to the number.
use Rattle.std.proofs.Common.{subst}
use Rattle.std.specs.Prelude.{IfSome}
use Rattle.run_shown.specs.Leading.{Leads}
use Rattle.run_shown.proofs.finding.find.Goals as goal

pub find_on-requires : goal.find_on-requires
find_on-requires g c = record { leads = subst (λ o. IfSome o (λ way. Leads c.args.look.now c.args.number way)) c.in-Some.is c.in_ok-way.ensures }
