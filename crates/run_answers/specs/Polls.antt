-- What a poll answers.
use Rattle.std.specs.Prelude.{ℕ, Bool, true, false, List, [], ◌∷◌}
use Rattle.run_reports.specs.declared.poll.Poll.{Poll}
use Rattle.run_reports.specs.declared.poll.Poll.TheVariants as polls

-- no scope is seen
abbrev pub sees_none : List ℕ → Bool
sees_none [] = true
sees_none (s ∷ ss) = false

-- pending exactly where nothing is to be done
abbrev pub answers : Bool → Poll (Unit {0})
answers true = polls.Pending
answers false = polls.Ready tt
