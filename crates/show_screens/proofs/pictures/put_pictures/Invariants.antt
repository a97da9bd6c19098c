-- Wherever the edits lead, the rows so far have been put, and what is left goes on.
use Rattle.std.proofs.Common.{List, drop, map}
use Rattle.rt_edits.specs.declared.doc_node.DocNode.{DocNode}
use Rattle.run_reports.specs.Seen.{report_of}
use Rattle.rt_text.specs.Screens.{nodes_of, rows_of, width_of, height_of}
use Rattle.show_screens.specs.Drawing.{LeadAlong}
use Rattle.show_screens.proofs.Picturing.{GoesOn}
use Rattle.show_screens.proofs.pictures.put_pictures.Given as goal

abbrev pub invariant-loop-number : goal.invariant-loop-number
invariant-loop-number g l =
    (documents : List (List DocNode)) → LeadAlong (map report_of l.reports) l.edits (nodes_of l.fn.screen) documents
    → GoesOn (width_of l.fn.screen) (height_of l.fn.screen) (rows_of l.fn.screen) documents (drop l.number (map report_of l.reports)) l.number l.left l.screen
    (g.O.Out.puts l.fn.out) (g.O.Out.puts l.out) (g.O.Out.faults l.fn.out) (g.O.Out.faults l.out)
