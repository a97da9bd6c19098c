-- The whole comes to what the cells that are left come to after those so far.
use Rattle.std.proofs.Common.{◌≡◌, drop}
use Rattle.run_records.specs.Records.{world_of}
use Rattle.author_calls.specs.Calls.{call_of}
use Rattle.author_programs.specs.Came.{came}
use Rattle.author_programs.specs.Pages.{own_cells}
use Rattle.author_programs.specs.Sequence.{go_on}
use Rattle.author_bodies.proofs.Lists.{then_cells}
use Rattle.author_derived.proofs.gathering.own_cells.Given as goal

abbrev pub invariant-loop-first : goal.invariant-loop-first
invariant-loop-first g l =
    (came (world_of l.fn.cx.world) (own_cells g.P.KeepsCells.keeping l.firsts) (call_of l.fn.cx)
    ≡ came (world_of l.fn.cx.world) (go_on (own_cells g.P.KeepsCells.keeping (drop l.first-index l.firsts)) (then_cells l.own)) (call_of l.cx))
    × (l.cx.world ≡ l.fn.cx.world)
