-- The whole comes to what the derived cells that are left come to behind those so far.
use Rattle.std.proofs.Common.{◌≡◌, length}
use Rattle.std.specs.Vec.Iter.{into_iter_items, into_iter_len}
use Rattle.run_records.specs.Records.{world_of}
use Rattle.author_calls.specs.Calls.{call_of}
use Rattle.author_programs.specs.Came.{came}
use Rattle.author_derived.specs.Derived.{derived_behind}
use Rattle.author_derived.proofs.gathering.derived_behind.Given as goal

abbrev pub invariant-loop-formula : goal.invariant-loop-formula
invariant-loop-formula g l = record {
  came :
      came (world_of l.fn.cx.world) (derived_behind g.P.KeepsCells.keeping g.S.HasMemo.state (g.S.HasMemo.formulas l.app).empty l.fn.formulas l.fn.own) (call_of l.fn.cx)
      ≡ came (world_of l.fn.cx.world) (derived_behind g.P.KeepsCells.keeping g.S.HasMemo.state (g.S.HasMemo.formulas l.app).empty (into_iter_items l.formula-iterator) l.all) (call_of l.cx);
  world : l.cx.world ≡ l.fn.cx.world;
  count : into_iter_len l.formula-iterator ≡ length (into_iter_items l.formula-iterator);
}
