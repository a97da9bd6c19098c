use Rattle.tree_documents.proofs.Applied.{edits_make}
use Rattle.tree_documents.proofs.agreeing.documents_go_on_alike.Goals as goal

pub returns : goal.returns
returns c = λ edits nodes made n h. edits_make edits nodes made n h
