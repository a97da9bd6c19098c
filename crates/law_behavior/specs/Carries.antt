-- The numbers that the edits of a program's calls carry: each is that of a hidden node that is shown again, or one that no edit carried
-- before.
use Rattle.std.specs.Prelude.{ℕ, ◌<◌, Bool, false, List, [], ◌∷◌, ◌++◌, Some, ◌≡◌}
use Rattle.std.specs.List.{AllByRecursion}
use Rattle.rt_model.specs.Tree.{Types}
use Rattle.rt_model.specs.World.{Firsts, Application}
use Rattle.rt_model.specs.Laws.{IsLawful}
use Rattle.rt_model.specs.State.{State}
use Rattle.rt_model.specs.Next.{at_rest}
use Rattle.rt_model.specs.Rendering.{rendering_rest}
use Rattle.rt_model.specs.Replay.{Entry, Machine, replay_on, start_with}
use Rattle.rt_model.specs.Document.{Edit}
use Rattle.rt_model.specs.Causes.{Limits}
use Rattle.rt_model.specs.Told.{Telling, telling, told_entry, tell_log}
use Rattle.rt_model.specs.Sentences.{all_carried, AllMayCome}
use Rattle.rt_model.specs.Asides.{Aside, Looked, Allowed, aside_state, resting}
use Rattle.law_behavior.specs.Doms.{Until, Renders, left_by, LedTo, CallRan, CallSpent, RenderRan, GivenBuildRan, UnitRan}

module _ {K : Types} where
  -- the numbers that these edits carry were drawn; they begin at 1
  abbrev pub AllDrawn : State K → List Edit → Type 0
  AllDrawn w edits = AllByRecursion (λ (number : ℕ). (0 < number) × (number < w.next.elements)) (all_carried edits)

module _ {K : Types} (app : Application K) where
  -- along a log each entry adds edits, those of a unit that it ends, which carry what may come, with the edits before the log and those
  -- of the entries before this one as the earlier ones
  abbrev pub LogCarries : List Edit → Machine K → List Entry → Type 0
  LogCarries before from whole =
      (log rest : List Entry) (e : Entry) (t u : Telling K) (edits : List Edit)
      → whole ≡ log ++ e ∷ rest
      → tell_log app (Some (telling from)) log ≡ Some t
      → told_entry app t e ≡ Some u
      → u.edits ≡ t.edits ++ edits
      → AllMayCome (all_carried (before ++ t.edits)) u.before edits

  -- what the edits of a call carry that began at a machine, wrote these edits and left this state, after the edits before it
  pub record Carries (before : List Edit) (from : Machine K) (log : List Entry) (edits : List Edit) (left : State K) : Type 0 where
    -- what may come
    pub come : LogCarries before from log
    -- and all that was carried by then was drawn, so that it is with the next call as with this one
    pub drawn : AllDrawn left (before ++ edits)

  -- so it is after whatever edits carried what was drawn
  abbrev pub CarriesOn : State K → Machine K → List Entry → List Edit → State K → Type 0
  CarriesOn w from log edits left = (before : List Edit) → AllDrawn w before → Carries before from log edits left

  -- so it is with a call that takes unit after unit and ended
  abbrev pub CallsCarryAnew : Type 0
  CallsCarryAnew =
      IsLawful K app
      → (limits : Limits) (props : K.Props) (whole : Bool) (until : Until) (w : State K)
      → (log : List Entry) (edits : List Edit) (v : Machine K)
      → LedTo app limits props whole w
      → CallRan app limits until w log edits v
      → CarriesOn w (resting (aside_state app w Looked)) log edits (left_by until v.state)

  -- with a whole render that ended
  abbrev pub RendersCarryAnew : Type 0
  RendersCarryAnew =
      IsLawful K app
      → (limits : Limits) (props : K.Props) (whole : Bool) (w : State K)
      → (log : List Entry) (edits : List Edit) (v : Machine K)
      → LedTo app limits props whole w
      → RenderRan app limits w log edits v
      → CarriesOn w (resting (aside_state app w Looked)) log edits (left_by Renders v.state)

  -- with a call whose units were spent
  abbrev pub SpentCarryAnew : Type 0
  SpentCarryAnew =
      IsLawful K app
      → (limits : Limits) (props : K.Props) (whole : Bool) (w : State K)
      → (log : List Entry) (edits : List Edit) (v : Machine K)
      → LedTo app limits props whole w
      → CallSpent app limits w log edits v
      → CarriesOn w (resting (aside_state app w Looked)) log edits (at_rest v.state)

  -- with one unit of a render while suspended, by itself
  abbrev pub SuspendedCarryAnew : Type 0
  SuspendedCarryAnew =
      IsLawful K app
      → (limits : Limits) (props : K.Props) (w : State K) (log : List Entry) (edits : List Edit) (v : Machine K)
      → LedTo app limits props false w
      → UnitRan app limits w log edits v
      → CarriesOn w (resting (rendering_rest w)) log edits v.state

  -- and with a build, before which no edit was written
  abbrev pub BuildsCarryAnew : Type 0
  BuildsCarryAnew =
      IsLawful K app
      → (limits : Limits) (props : K.Props) (firsts : Firsts) (provided : List (ℕ × K.Value))
      → (log : List Entry) (edits : List Edit) (v : Machine K)
      → 0 < firsts.elements
      → GivenBuildRan app limits props firsts provided log edits v
      → Carries [] (start_with app props firsts provided []) log edits v.state

  -- along an accepted log what was drawn stays drawn
  abbrev pub LogsKeepDrawn : Type 0
  LogsKeepDrawn =
      IsLawful K app
      → (m v : Machine K) (log : List Entry) (edits : List Edit)
      → replay_on app (Some m) log ≡ Some v
      → AllDrawn m.state edits
      → AllDrawn v.state edits

  -- a call that logs no entry draws no number of an element
  abbrev pub AsidesDrawNone : Type 0
  AsidesDrawNone =
      IsLawful K app
      → (w : State K) (a : Aside K) → Allowed w a
      → (aside_state app w a).next.elements ≡ w.next.elements
