use Rattle.law_headline.proofs.Changes.{children_bring}
use Rattle.law_headline.proofs.rows.children_bring.Goals as goal

pub returns : goal.returns
returns c = λ edits f g claims n content a. children_bring n content a
