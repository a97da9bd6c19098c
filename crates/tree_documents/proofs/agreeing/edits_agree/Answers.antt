use Rattle.tree_documents.proofs.Applied.{edits_agree}
use Rattle.tree_documents.proofs.agreeing.edits_agree.Goals as goal

pub returns : goal.returns
returns c = λ edit nodes none. edits_agree nodes none edit
