use Rattle.law_reduce.proofs.RootStays.{root_stays}
use Rattle.law_reduce.proofs.keeping.root_stays.Goals as goal

pub returns : goal.returns
returns g c = λ app lawful limits props inputs m v moves boundary error place sort root reached leads alive idle rests h has there kid. root_stays app (c.children_stay.ensures app) lawful limits props inputs m v moves boundary error place sort root reached leads alive idle rests h has there kid
