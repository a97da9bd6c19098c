use Rattle.tree_documents.proofs.Back.{nodes_are_one}
use Rattle.tree_documents.proofs.agreeing.documents_are_one.Goals as goal

pub returns : goal.returns
returns c = λ a b h. nodes_are_one a b h
