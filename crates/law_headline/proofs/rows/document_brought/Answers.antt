use Rattle.law_headline.proofs.Changes.{document_brought}
use Rattle.law_headline.proofs.rows.document_brought.Goals as goal

pub returns : goal.returns
returns c = λ edits f g claims s a bound single x y. document_brought s a bound single x y
