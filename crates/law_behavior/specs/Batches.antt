-- How a batch of effects is done.
use Rattle.std.specs.Prelude.{ℕ, false, List, [], ◌∷◌, Some, ◌≡◌}
use Rattle.rt_model.specs.Lists.{at}
use Rattle.rt_model.specs.Tree.{Types}
use Rattle.rt_model.specs.World.{Application}
use Rattle.rt_model.specs.State.{Scope, State, Item, Done, change}
use Rattle.rt_model.specs.Next.{look}
use Rattle.rt_model.specs.Run.{acted}
use Rattle.rt_model.specs.Replay.{effects_run}

module _ {K : Types} (app : Application K) where
  -- effects of a scope are done one after another, outside of a patch: each is called, and its commands are done before the next
  abbrev pub DoneInTurn : ℕ → State K → List K.Effect → State K → Type 0
  DoneInTurn s w [] v = v ≡ w
  DoneInTurn s w (e ∷ es) v = (u : State K) × (work : List (Item K)) × (acted app w s e false ≡ Done u work) × DoneInTurn s u es v

  -- a batch that isn't cut takes all effects that its scope has queued, does them in order of queueing, and ends with a look
  abbrev pub EffectsInTurn : Type 0
  EffectsInTurn =
      (w v : State K) (s : ℕ) (x : Scope K) (work : List (Item K))
      → at w.scopes s ≡ Some x
      → effects_run app w s ≡ Done v work
      → (u : State K) × DoneInTurn s (change w s (λ y. record y { effects = [] })) x.effects u × (v ≡ look u)
