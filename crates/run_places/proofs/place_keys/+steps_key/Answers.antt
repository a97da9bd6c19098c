-- The last step is led, and then those before it.
use Rattle.std.proofs.Common.{◌-◌, ◌∙◌, length, take, ap}
use Rattle.run_places.specs.PlaceKeys.{steps_key}
use Rattle.run_places.proofs.Lasts.{steps_front}
use Rattle.run_places.proofs.place_keys.+steps_key.Goals as goal

pub returns-in-len1-up : goal.returns-in-len1-up
returns-in-len1-up t c =
    let place = c.args.steps.now in
    c.steps_key.ensures ∙ ap (λ n. steps_key (take (length place - 1) place) n) c.step_key.ensures
    ∙ steps_front place c.last-item.result _ c.args.rest c.in-len1-up.len_at_least c.last-item.is
