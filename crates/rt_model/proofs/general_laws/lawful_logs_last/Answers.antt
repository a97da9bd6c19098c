use Rattle.rt_model.proofs.LastsAlways.{logs_last}
use Rattle.rt_model.proofs.general_laws.lawful_logs_last.Goals as goal

pub returns : goal.returns
returns g c = λ app lawful props inputs log m h. logs_last app lawful props inputs log m h
