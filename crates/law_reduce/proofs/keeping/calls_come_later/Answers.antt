use Rattle.law_reduce.proofs.Later.{calls_come_later}
use Rattle.law_reduce.proofs.keeping.calls_come_later.Goals as goal

pub returns : goal.returns
returns g c = λ app lawful limits m v moves leads. calls_come_later app lawful limits m v moves leads
