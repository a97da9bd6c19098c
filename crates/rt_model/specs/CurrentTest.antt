-- The test of current outputs decides the statement.
use Rattle.std.specs.Prelude.{true, ◌≡◌}
use Rattle.rt_model.specs.Tree.{Types}
use Rattle.rt_model.specs.World.{Application}
use Rattle.rt_model.specs.Laws.{Tests}
use Rattle.rt_model.specs.State.{State}
use Rattle.rt_model.specs.Current.{AllCurrent, all_current}

-- where the application's tests decide, every scope of a state is current exactly where the test says so
abbrev pub TestDecidesCurrent : {K : Types} → Application K → Type 0
TestDecidesCurrent {K = K} app =
    Tests K.Component app.same_component
    → Tests K.Props app.same_props
    → Tests K.Handler app.same_handler
    → (w : State K)
    → (all_current app w ≡ true → AllCurrent app w) × (AllCurrent app w → all_current app w ≡ true)
