-- Where the edits of reports lead, and what is put of one.
use Rattle.std.specs.Prelude.{◌≡◌, ℕ, List, [], ◌∷◌, map, take, drop, Result, OnOk}
use Rattle.rt_edits.specs.declared.doc_node.DocNode.{DocNode}
use Rattle.rt_edits.specs.declared.edit.Edit as code
use Rattle.tree_edits.specs.Documents.{forest_of}
use Rattle.tree_documents.specs.Cuts.{LeadsTo}
use Rattle.rt_model.specs.Document.{Forest}
use Rattle.rt_model.specs.Reports.{Report}
use Rattle.show_streams.specs.Writes.{Writes, Puts}
use Rattle.show_streams.specs.declared.out.OutError.{OutError}
use Rattle.rt_text.specs.Layout.{layout}
use Rattle.rt_text.specs.Printed.{picture}
use Rattle.rt_text.specs.Screens.{nodes_of, rows_of, width_of, height_of, KeepsSize}
use Rattle.rt_text.specs.declared.screen.Screen.{Screen}

-- the edits of reports, cut by their counts, lead from document to document, and none is refused
abbrev pub LeadAlong : List Report → List code.Edit → List DocNode → List (List DocNode) → Type 0
LeadAlong [] edits nodes [] = Unit {0}
LeadAlong [] edits nodes (next ∷ later) = ⊥
LeadAlong (report ∷ reports) edits nodes [] = ⊥
LeadAlong (report ∷ reports) edits nodes (next ∷ later) =
    LeadsTo (take report.edits edits) nodes next × LeadAlong reports (drop report.edits edits) next later

-- the edits of reports, made of a document that is empty at first, make this show after each
pub record ShowInTurn (edits : List code.Edit) (reports : List Report) (shown : List Forest) : Type 0 where
  pub documents : List (List DocNode)
  pub led : LeadAlong reports edits [] documents
  pub are : map forest_of documents ≡ shown

-- the rows of a report were put, and then the screen has this document, drawn
pub record Draws
    (number : ℕ) (next : List DocNode) (old new : Screen) (written now : Puts) (before after : ℕ)
    (result : Result (Unit {0}) OutError)
    : Type 0 where
  pub writes :
      Writes (picture number (rows_of old) (layout (width_of old) (height_of old) (forest_of next)))
      written now before after result
  pub document : OnOk result (nodes_of new ≡ next)
  pub rows : OnOk result (rows_of new ≡ layout (width_of old) (height_of old) (forest_of next))
  pub size : KeepsSize old new
