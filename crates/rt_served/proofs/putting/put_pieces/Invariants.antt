-- The pieces of those before were put and counted.
use Rattle.std.proofs.Common.{◌≤◌, take}
use Rattle.rt_vdom.specs.Doms.{StateIn}
use Rattle.rt_served.proofs.Pieces.{PutSoFar, numbers}
use Rattle.rt_served.proofs.putting.put_pieces.Given as goal

abbrev pub invariant-loop-scope : goal.invariant-loop-scope
invariant-loop-scope g l = record {
  put :
      (k : _)
      → PutSoFar (StateIn k l.dom) (numbers (take l.scope-index l.scopes)) (g.O.Out.puts l.fn.out) (g.O.Out.puts l.out)
      (g.O.Out.faults l.fn.out) (g.O.Out.faults l.out) l.count;
  rises : g.O.Out.faults l.fn.out ≤ g.O.Out.faults l.out;
}
