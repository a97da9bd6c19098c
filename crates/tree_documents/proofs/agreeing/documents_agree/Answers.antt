use Rattle.std.proofs.Common.{[], refl, arith}
use Rattle.tree_documents.proofs.Applied.{edits_make}
use Rattle.tree_documents.proofs.agreeing.documents_agree.Goals as goal

pub returns : goal.returns
returns c = λ edits made h. edits_make edits [] made (refl, λ number. omega arith) h
