use Rattle.law_reduce.proofs.RootStays.{wrappers_stay}
use Rattle.law_reduce.proofs.keeping.wrappers_stay.Goals as goal

pub returns : goal.returns
returns g c = λ app lawful limits props inputs m v moves boundary error reached leads alive idle h. wrappers_stay app lawful limits props inputs m v moves boundary error reached leads alive idle h
