-- What an edit makes of a document of code, beside what the definitions make of its mirror.
use Rattle.std.specs.Prelude.{◌≡◌, List, [], ◌∷◌, Result, Ok, Err}
use Rattle.rt_edits.specs.Document as code
use Rattle.rt_edits.specs.declared.doc_node.DocNode.{DocNode}
use Rattle.rt_edits.specs.declared.document.DocFault.{DocFault}
use Rattle.rt_edits.specs.declared.document.DocFault.TheVariants as faults
use Rattle.rt_edits.specs.declared.edit.Edit.{Edit}
use Rattle.rt_model.specs.Document as doc
use Rattle.rt_model.specs.Document.{Forest}
use Rattle.tree_edits.specs.Documents.{forest_of}

-- the document after an edit, by the definitions
abbrev pub model_apply : doc.Edit → Forest → Result Forest doc.DocFault
model_apply = doc.apply

-- one document at the mirror, or one fault; want of memory is neither
abbrev pub AreAlike : Result (List DocNode) DocFault → Result Forest doc.DocFault → Type 0
AreAlike (Ok nodes) r = r ≡ Ok (forest_of nodes)
AreAlike (Err faults.UnknownId) r = r ≡ Err doc.UnknownId
AreAlike (Err faults.WrongKind) r = r ≡ Err doc.WrongKind
AreAlike (Err faults.RepeatedId) r = r ≡ Err doc.RepeatedId
AreAlike (Err faults.OutOfMemory) r = ⊥

-- edits are made of a document one after another, none is refused, and at the mirror this comes of it
abbrev pub Makes : List Edit → List DocNode → Forest → Type 0
Makes [] nodes made = forest_of nodes ≡ made
Makes (edit ∷ edits) nodes made = (next : List DocNode) × (code.apply edit nodes ≡ Ok next) × Makes edits next made
