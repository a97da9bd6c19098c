use Rattle.show_answers.proofs.Growing.{alike}
use Rattle.show_answers.proofs.laws.forms_tell_alike.Goals as goal

pub returns : goal.returns
returns c = record { alike = λ form lines number edits reports. alike form lines number edits reports }
