-- What stands from here on went.
use Rattle.std.proofs.Common.{◌≡◌, ◌-◌, drop, length}
use Rattle.run_named.specs.Standings.{without_all}
use Rattle.run_state.specs.Drawn.{numbers_at}
use Rattle.run_state.proofs.places.forget_all.Given as goal

abbrev pub invariant-loop-back : goal.invariant-loop-back
invariant-loop-back l = l.places ≡ without_all l.initial.places (numbers_at l.nodes (drop (length l.drawn - l.back) l.drawn))
