-- Those that are listed and those that are left are all.
use Rattle.std.proofs.Common.{drop}
use Rattle.run_state.specs.Mirror.{scopes_of}
use Rattle.run_answers.proofs.RanksFilled.{AllRanked}
use Rattle.run_answers.proofs.ranking.ranks_in.Given as goal

abbrev pub invariant-loop-row : goal.invariant-loop-row
invariant-loop-row g l = AllRanked (scopes_of l.state.rows.table) l.rows (drop l.row-index l.rows) l.ranks
