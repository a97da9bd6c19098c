-- A session's edits, cut by the counts of its reports, and made of a document report by report.
use Rattle.std.specs.Prelude.{◌≡◌, List, [], ◌∷◌, map, take, drop, Ok}
use Rattle.rt_edits.specs.Document as code
use Rattle.rt_edits.specs.declared.doc_node.DocNode.{DocNode}
use Rattle.rt_edits.specs.declared.edit.Edit.{Edit}
use Rattle.rt_model.specs.Lists.{joined}
use Rattle.rt_model.specs.Tree.{Types}
use Rattle.rt_model.specs.Document.{Empty}
use Rattle.rt_model.specs.View.{view}
use Rattle.rt_model.specs.Told.{Told, edits_of}
use Rattle.rt_model.specs.Reports.{Report, AllCount}
use Rattle.rt_model.specs.Headline.{DocumentIs}
use Rattle.tree_edits.specs.Documents.{edit_of, forest_of}

-- edits are made of a document one after another, none is refused, and this document comes of it
abbrev pub LeadsTo : List Edit → List DocNode → List DocNode → Type 0
LeadsTo [] nodes next = nodes ≡ next
LeadsTo (edit ∷ edits) nodes next = (mid : List DocNode) × (code.apply edit nodes ≡ Ok mid) × LeadsTo edits mid next

module _ {K : Types} where
  -- the edits of each report lead from the document before it to that which shows after it
  abbrev pub ShowsEach : List Report → List Edit → List (Told K) → List DocNode → Type 0
  ShowsEach [] edits told nodes = Unit {0}
  ShowsEach (report ∷ reports) edits [] nodes = ⊥
  ShowsEach (report ∷ reports) edits (told ∷ rest) nodes =
      (next : List DocNode)
      × LeadsTo (take report.edits edits) nodes next
      × (forest_of next ≡ view told.machine.state)
      × ShowsEach reports (drop report.edits edits) rest next

-- what finished reports say of a document that takes their edits, beginning with none: each of them shows
abbrev pub ReportsShow : Types → Type 0
ReportsShow K =
    (reports : List Report) (told : List (Told K)) (edits : List Edit)
    → AllCount reports told
    → DocumentIs (Ok Empty) told
    → map edit_of edits ≡ joined (edits_of told)
    → ShowsEach reports edits told []
