use Rattle.rt_model.proofs.ViewOnce.{well_numbered_once, well_numbered_positive}
use Rattle.rt_model.proofs.NumbersStand.{replay_well_numbered}
use Rattle.rt_model.proofs.general_laws.shown_once.Goals as goal

pub returns : goal.returns
returns g c =
    λ app lawful props inputs log m h.
    let good = replay_well_numbered app lawful props inputs log m h in
    record { once = well_numbered_once m.state good; none_is_0 = well_numbered_positive m.state good }
