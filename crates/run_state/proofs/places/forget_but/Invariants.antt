use Rattle.std.proofs.Common.{◌≡◌, drop}
use Rattle.run_state.proofs.Forgets.{left_of}
use Rattle.run_state.proofs.places.forget_but.Given as goal

abbrev pub invariant-loop-pair : goal.invariant-loop-pair
invariant-loop-pair l = left_of l.nodes l.places (drop l.pair-index l.drawn) (drop l.next l.stay) ≡ left_of l.nodes l.initial.places l.drawn l.stay
