use Rattle.std.proofs.Common.{◌≡◌, ◌++◌, drop}
use Rattle.run_answers.proofs.Gathered.{named, numbers_in}
use Rattle.run_answers.proofs.kept.scopes_in.Given as goal

abbrev pub invariant-loop-row : goal.invariant-loop-row
invariant-loop-row g l = named l.scopes ++ numbers_in (drop l.row-index l.rows) ≡ numbers_in l.rows
