-- One step more is told, and then the list is finished.
use Rattle.std.proofs.Common.{◌≡◌, ◌∙◌, [], ◌∷◌, ◌++◌, map, ap}
use Rattle.std.proofs.lemmas.List.{map-append}
use Rattle.std.proofs.lemmas.Result.{IfOk-weaker}
use Rattle.run_places.specs.declared.place.Step.TheVariants as inner
use Rattle.run_places.specs.Places.{place_of}
use Rattle.run_named.specs.Named.{step_in, steps_from}
use Rattle.run_named.proofs.Ways.{told_below}
use Rattle.run_named.proofs.naming.steps_below.Goals as goal

pub returns : goal.returns
returns c =
    IfOk-weaker c.from_list.result (λ steps. steps ≡ c.push.new.self)
    (λ steps. map step_in steps ≡ steps_from 0 (place_of (c.args.above.now ++ inner.Item c.args.position ∷ [])))
    (
    λ steps is.
    ap (map step_in) is
    ∙ told_below c.args.above.now c.args.position c.slot_of-slot.result (map step_in c.in_ok-steps.steps) (map step_in c.push.new.self) c.in_ok-steps.ensures c.slot_of-slot.ensures
    (ap (map step_in) c.in_ok-push.ensures.ok ∙ map-append step_in c.in_ok-steps.steps _)
    )
    c.from_list.ensures.items
