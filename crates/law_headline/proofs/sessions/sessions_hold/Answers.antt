use Rattle.rt_model.proofs.InputsLeft.{ran_is_valid}
use Rattle.law_headline.proofs.Fronts.{headlines_carry_anew}
use Rattle.law_headline.proofs.Reports.{finished_hold, ran_is_headline, ran_to_is_came_to}
use Rattle.law_headline.proofs.sessions.sessions_hold.Goals as goal

pub returns : goal.returns
returns g c = λ app. record {
  headline = ran_is_headline app;
  carried = headlines_carry_anew app;
  valid = ran_is_valid app;
  came_to = ran_to_is_came_to app;
  held = finished_hold app;
}
