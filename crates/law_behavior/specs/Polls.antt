-- What a poll of suspended work on a built runtime does, poll by poll.
use Rattle.std.specs.Prelude.{ℕ, ◌+◌, true, false, nat_eq, List, ◌∷◌, ◌++◌, Some, ◌≡◌}
use Rattle.rt_model.specs.Tree.{Types}
use Rattle.rt_model.specs.World.{Application}
use Rattle.rt_model.specs.Laws.{IsLawful}
use Rattle.rt_model.specs.State.{State}
use Rattle.rt_model.specs.Next.{Work, at_rest, next}
use Rattle.rt_model.specs.Rendering.{polling_rest, polling_next, polls_within}
use Rattle.rt_model.specs.Replay.{Entry, is_quiet, Machine}
use Rattle.rt_model.specs.View.{view}
use Rattle.rt_model.specs.Causes.{Limits, replay_within}
use Rattle.rt_model.specs.Asides.{resting}
use Rattle.law_behavior.specs.Doms.{LedTo, NoneOpens}

-- what a poll of suspended work takes next is what comes next, once the rest was passed over
abbrev pub PolledComesNext : Types → Type 0
PolledComesNext K =
    (w : State K) (x : Work) → polling_next w ≡ Some x
    → (at_rest (polling_rest w) ≡ polling_rest w) × (next (polling_rest w) ≡ Some x)

module _ {K : Types} (app : Application K) where
  -- the tasks that it may not poll are passed over, and show nothing new; from then on a way isn't whole
  abbrev pub PollingLeads : Type 0
  PollingLeads =
      IsLawful K app
      → (limits : Limits) (props : K.Props) (w : State K)
      → LedTo app limits props false w
      → LedTo app limits props false (polling_rest w) × (view (polling_rest w) ≡ view w)

  -- one poll, replayed by itself from there to where nothing is at work, leads on and shows nothing new
  abbrev pub PollsLead : Type 0
  PollsLead =
      IsLawful K app
      → (limits : Limits) (props : K.Props) (w : State K) (work : Work) (e : Entry) (more : List Entry) (v : Machine K)
      → LedTo app limits props false w
      → polling_next w ≡ Some work
      → NoneOpens more
      → replay_within app limits (Some (resting (polling_rest w))) (e ∷ more) ≡ Some v
      → is_quiet v ≡ true
      → LedTo app limits props false v.state × (view v.state ≡ view w)

  -- it is one more unit of a poll of suspended work, which counts its units together
  abbrev pub PollsFollow : Type 0
  PollsFollow =
      (limits : Limits) (w x : State K) (units : ℕ) (log more : List Entry) (e : Entry) (work : Work) (v : Machine K)
      → polls_within app limits (Some (resting w)) log ≡ Some (record (resting x) { units = units })
      → nat_eq units limits.units ≡ false
      → polling_next x ≡ Some work
      → NoneOpens more
      → replay_within app limits (Some (resting (polling_rest x))) (e ∷ more) ≡ Some v
      → polls_within app limits (Some (resting w)) (log ++ e ∷ more) ≡ Some (record v { units = units + 1 })
