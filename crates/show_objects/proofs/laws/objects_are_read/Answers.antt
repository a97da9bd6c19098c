use Rattle.std.proofs.Common.{refl}
use Rattle.show_objects.proofs.Back.{read_back, told_back}
use Rattle.show_objects.proofs.Fit.{json_back, told_fits}
use Rattle.show_objects.specs.Objects.{told_json}
use Rattle.show_objects.proofs.laws.objects_are_read.Goals as goal

pub returns-clause-lines : goal.returns-clause-lines
returns-clause-lines c = λ told. refl

pub returns-clause-values : goal.returns-clause-values
returns-clause-values c = λ told fit. json_back (told_json told) (told_fits told fit)

pub returns-clause-told : goal.returns-clause-told
returns-clause-told c = λ told fit. told_back told fit

pub returns-clause-read : goal.returns-clause-read
returns-clause-read c = λ told fit. read_back told fit
