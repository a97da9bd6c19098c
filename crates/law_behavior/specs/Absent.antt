-- An input that names what isn't there changes nothing.
use Rattle.std.specs.Prelude.{ℕ, true, false, List, [], ◌∷◌, Some, None, ◌≡◌}
use Rattle.rt_model.specs.Lists.{at}
use Rattle.rt_model.specs.Tree.{Types}
use Rattle.rt_model.specs.World.{Application}
use Rattle.rt_model.specs.State.{State, is_live}
use Rattle.rt_model.specs.Next.{at_rest, owes}
use Rattle.rt_model.specs.Replay.{Taken, Post, MarkScope, WakeTask, AllDirty, Message, Input, EventAt, WakeOf, WriteOf, MarkOf, Drain, Machine, accepts}
use Rattle.rt_model.specs.Document.{is_in}
use Rattle.rt_model.specs.View.{view}
use Rattle.rt_model.specs.Told.{Telling, tell_log}
use Rattle.law_moves.specs.Moves.{AtRest}

module _ {K : Types} where
  -- a message names a scope or a task that isn't live
  abbrev pub NamesNone : State K → Post → Type 0
  NamesNone w (MarkScope s) = is_live w s ≡ false
  NamesNone w (WakeTask t) = at w.tasks t ≡ None
  NamesNone w AllDirty = ⊥

  -- all of these messages do
  abbrev pub AllNameNone : State K → List Message → Type 0
  AllNameNone w [] = Unit {0}
  AllNameNone w (message ∷ messages) = NamesNone w message.what × AllNameNone w messages

  -- an input names an element that doesn't show, or a task, a cell or scopes that aren't there
  abbrev pub NamesAbsent : State K → Input K → Type 0
  NamesAbsent w (EventAt name payload element bubbles) = is_in element (view w) ≡ false
  NamesAbsent w (WakeOf t) = at w.tasks t ≡ None
  NamesAbsent w (WriteOf n v) = at w.cells n ≡ None
  NamesAbsent w (MarkOf s) = is_live w s ≡ false
  NamesAbsent w (Drain messages) = AllNameNone w messages

  -- nothing came of an input: the state is the one that nothing was owed in, nothing is owed and nothing is at work
  pub record NothingCame (m u : Machine K) : Type 0 where
    pub state : u.state ≡ at_rest m.state
    pub owes_nothing : owes u.state ≡ false
    pub rests : AtRest u
    pub no_units : u.units ≡ 0
    pub default_enabled : u.default_enabled ≡ true

-- where an input that names what isn't there is accepted nothing comes of it, and no edit is told
abbrev pub AbsentChangesNothing : {K : Types} → Application K → Type 0
AbsentChangesNothing {K = K} app =
    (m u : Machine K) (k : ℕ) (input : Input K) (more : List (Input K)) (t : Telling K)
    → AtRest m
    → m.inputs ≡ input ∷ more
    → NamesAbsent m.state input
    → accepts app m (Taken k) ≡ Some u
    → t.machine ≡ m
    → NothingCame m u × (tell_log app (Some t) (Taken k ∷ []) ≡ Some (record t { machine = u }))
