-- What the nodes passed don't have, the rest may.
use Rattle.std.proofs.Common.{◌≡◌, drop}
use Rattle.std.specs.List.{list_any}
use Rattle.rt_edits.specs.Nodes.{numbers}
use Rattle.rt_edits.specs.Document.{is_barred}
use Rattle.rt_edits.proofs.search.+barred.Given as goal

abbrev pub invariant-any_barred-loop-node : goal.invariant-any_barred-loop-node
invariant-any_barred-loop-node l =
    list_any (is_barred (numbers l.document) (numbers l.all)) (numbers (drop l.node-index l.nodes)) ≡ list_any (is_barred (numbers l.document) (numbers l.all)) (numbers l.nodes)
