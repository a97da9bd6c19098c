use Rattle.tree_documents.proofs.Back.{edits_are_one}
use Rattle.tree_documents.proofs.agreeing.edits_are_one.Goals as goal

pub returns : goal.returns
returns c = λ a b h. edits_are_one a b h
