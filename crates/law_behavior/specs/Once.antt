-- No body runs twice in a render that polls no task after its first rerun.
use Rattle.std.specs.Prelude.{Bool, true, false, List, [], ◌∷◌, ◌≡◌}
use Rattle.std.specs.List.{AllByRecursion}
use Rattle.rt_model.specs.Tree.{Types}
use Rattle.rt_model.specs.World.{Application}
use Rattle.rt_model.specs.Laws.{IsLawful}
use Rattle.rt_model.specs.State.{State}
use Rattle.rt_model.specs.Replay.{Entry, Rerun, Poll, Made, Fed, Kept, Removed, Input, Machine}
use Rattle.rt_model.specs.Bodies.{RerunsTheSeen}
use Rattle.rt_model.specs.Causes.{Limits}
use Rattle.rt_model.specs.Sentences.{NoBodyTwice, render_ends, call_begun, EndsAt}
use Rattle.law_moves.specs.Moves.{AtRest}
use Rattle.law_moves.specs.Reached.{Reached}

-- the entries of a render that polls no task: a scope is rerun, or open work is served
abbrev pub renders : Entry → Bool
renders (Rerun s) = true
renders (Made s) = true
renders (Fed s) = true
renders (Kept s) = true
renders (Removed s) = true
renders _ = false

-- tasks are polled first if at all, then scopes are rerun alone
abbrev pub PollsFirst : List Entry → Type 0
PollsFirst [] = Unit {0}
PollsFirst (Poll t ∷ log) = PollsFirst log
PollsFirst (e ∷ log) = (renders e ≡ true) × AllByRecursion (λ (x : Entry). renders x ≡ true) log

-- of a lawful application, wherever moves lead and nothing is at work: in a completed render that polls no task
-- after its first rerun no body runs twice
abbrev pub RendersOnce : {K : Types} → Application K → Type 0
RendersOnce {K = K} app =
    IsLawful K app
    → (limits : Limits) (props : K.Props) (inputs : List (Input K)) (m v : Machine K) (log : List Entry)
    → Reached app limits props inputs m
    → AtRest m
    → EndsAt app (λ (w : State K). render_ends w) (call_begun m) log v
    → PollsFirst log
    → NoBodyTwice log

-- the same from a machine as it is, without a look
abbrev pub RendersOnceFrom : {K : Types} → Application K → Type 0
RendersOnceFrom {K = K} app =
    IsLawful K app
    → (limits : Limits) (props : K.Props) (inputs : List (Input K)) (m v : Machine K) (log : List Entry)
    → Reached app limits props inputs m
    → AtRest m
    → EndsAt app (λ (w : State K). render_ends w) m log v
    → PollsFirst log
    → NoBodyTwice log

-- a render that polls no task after its first rerun reruns the scopes that are seen then, in their order, but for those that it
-- removes or feeds before their turn
abbrev pub RerunsInTurn : {K : Types} → Application K → Type 0
RerunsInTurn {K = K} app =
    IsLawful K app
    → (limits : Limits) (props : K.Props) (inputs : List (Input K)) (m v : Machine K) (log : List Entry)
    → Reached app limits props inputs m
    → AtRest m
    → EndsAt app (λ (w : State K). render_ends w) m log v
    → PollsFirst log
    → RerunsTheSeen app m log
