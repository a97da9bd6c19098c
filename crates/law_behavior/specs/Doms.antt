-- A built runtime that a program keeps and calls: which state it stands for, and what a call that takes unit after unit does.
use Rattle.std.specs.Prelude.{ℕ, ◌+◌, ◌<◌, Bool, true, false, nat_eq, List, [], ◌∷◌, ◌++◌, Some, Ok, ◌≡◌, ◌⊎◌}
use Rattle.rt_model.specs.Tree.{Types}
use Rattle.rt_model.specs.World.{Firsts, Application}
use Rattle.rt_model.specs.Laws.{IsLawful}
use Rattle.rt_model.specs.State.{Fault, State}
use Rattle.rt_model.specs.Next.{Work, drops, at_rest, next, owes}
use Rattle.rt_model.specs.Rendering.{rendering_rest, rendering_next, renders_within}
use Rattle.rt_model.specs.Replay.{Entry, Machine, accepts, replay_on, is_quiet, ones, start_with}
use Rattle.rt_model.specs.Document.{Empty, Edit, document_after}
use Rattle.rt_model.specs.View.{view}
use Rattle.rt_model.specs.Causes.{Limits, replay_within, edits_at_refusal}
use Rattle.rt_model.specs.Told.{Telling, opens}
use Rattle.rt_model.specs.Current.{AllCurrent}
use Rattle.rt_model.specs.Bodies.{RenderEnds, NoneAfterRerun, OthersMadeOrFed, RerunsTheSeen}
use Rattle.rt_model.specs.Headline.{AllHeldShown}
use Rattle.rt_model.specs.Sentences.{NoBodyTwice, AllCurrentOrOwed, EndsAt, CallComesTo, call_refusal, events_end, render_ends, settle_ends, call_begun}
use Rattle.law_moves.specs.Reached.{NonePassed, Reached}
use Rattle.law_moves.specs.Reports.{ToldSo}
use Rattle.rt_model.specs.Asides.{Aside, Looked, Raised, PassesNone, Allowed, aside_state, set_aside, resting}
use Rattle.rt_model.specs.Lists.{Text}

-- up to where a call takes unit after unit
pub data Until : Type 0 where
  -- up to the first state in which a scope is seen or nothing is owed
  Events : Until
  -- up to the first state in which nothing is seen or queued
  Renders : Until
  -- up to the first state that owes nothing
  Settles : Until

-- no entry of a log begins a unit
abbrev pub NoneOpens : List Entry → Type 0
NoneOpens [] = Unit {0}
NoneOpens (e ∷ log) = (opens e ≡ false) × NoneOpens log

module _ {K : Types} where
  -- the call ends here
  abbrev pub ends_by : Until → State K → Bool
  ends_by Events w = events_end w
  ends_by Renders w = render_ends w
  ends_by Settles w = settle_ends w

  -- the state as the test for that left it
  abbrev pub left_by : Until → State K → State K
  left_by Events w = elim w.seen [ [] ↦ at_rest w | s ∷ ss ↦ w ]
  left_by Renders w = drops w.queued w
  left_by Settles w = at_rest w

module _ {K : Types} (app : Application K) (limits : Limits) (props : K.Props) (whole : Bool) where
  -- a program's calls have led to this state; on a whole way nothing was passed over
  pub record LedTo (w : State K) : Type 0 where
    pub reached : Reached app limits props [] (resting w)
    pub known : NonePassed reached.parts ⊎ (whole ≡ false)

  -- a call that logs no entry leads on
  abbrev pub AsidesLead : Type 0
  AsidesLead =
      IsLawful K app
      → (w : State K) (a : Aside K) → LedTo w → Allowed w a → PassesNone a ⊎ (whole ≡ false)
      → LedTo (aside_state app w a)

module _ {K : Types} (app : Application K) where
  -- no unit of a log began where the test holds
  abbrev pub Unended : (State K → Bool) → Machine K → List Entry → Type 0
  Unended test m [] = Unit {0}
  Unended test m (e ∷ log) =
      (opens e ≡ true → test m.state ≡ false)
      × ((u : Machine K) → accepts app m e ≡ Some u → Unended test u log)

  module _ (limits : Limits) (until : Until) (w : State K) where
    -- what code proves of a call that ended: its log and its edits, and the machine at its end
    pub record CallRan (log : List Entry) (edits : List Edit) (v : Machine K) : Type 0 where
      pub last : Telling K
      pub so : ToldSo app limits (resting (aside_state app w Looked)) log last
      pub edits_are : last.edits ≡ edits
      pub machine : last.machine ≡ v
      pub unended : Unended (λ (x : State K). ends_by until x) (resting (aside_state app w Looked)) log
      pub quiet : is_quiet v ≡ true
      pub ended : ends_by until v.state ≡ true

    -- and of one that came to a fault
    pub record CallStopped (log : List Entry) (edits : List Edit) (fault : Fault) : Type 0 where
      pub last : Telling K
      pub so : ToldSo app limits (resting (aside_state app w Looked)) log last
      pub unended : Unended (λ (x : State K). ends_by until x) (resting (aside_state app w Looked)) log
      pub cause : call_refusal limits (λ (x : State K). ends_by until x) last.machine ≡ Some fault
      pub edits_are : edits_at_refusal app limits last ≡ edits

  module _ (limits : Limits) (w : State K) where
    -- what code proves of a whole render that ended: its log and its edits, the machine between, up to which events were processed,
    -- and the machine at its end
    pub record RenderRan (log : List Entry) (edits : List Edit) (v : Machine K) : Type 0 where
      pub last : Telling K
      pub so : ToldSo app limits (resting (aside_state app w Looked)) log last
      pub edits_are : last.edits ≡ edits
      pub machine : last.machine ≡ v
      pub quiet : is_quiet v ≡ true
      pub first : List Entry
      pub more : List Entry
      pub whole : first ++ more ≡ log
      pub between : Machine K
      pub goes : replay_on app (Some (resting (aside_state app w Looked))) first ≡ Some between
      pub events : Unended (λ (x : State K). events_end x) (resting (aside_state app w Looked)) first
      pub calm : is_quiet between ≡ true
      pub processed : events_end between.state ≡ true
      pub renders : Unended (λ (x : State K). render_ends x) between more
      pub ended : render_ends v.state ≡ true

    -- what code proves of a whole render that came to a fault after events were processed; before that it stops as a call that
    -- processes events
    pub record RenderStopped (log : List Entry) (edits : List Edit) (fault : Fault) : Type 0 where
      pub last : Telling K
      pub so : ToldSo app limits (resting (aside_state app w Looked)) log last
      pub edits_are : edits_at_refusal app limits last ≡ edits
      pub first : List Entry
      pub more : List Entry
      pub whole : first ++ more ≡ log
      pub between : Machine K
      pub goes : replay_on app (Some (resting (aside_state app w Looked))) first ≡ Some between
      pub events : Unended (λ (x : State K). events_end x) (resting (aside_state app w Looked)) first
      pub calm : is_quiet between ≡ true
      pub processed : events_end between.state ≡ true
      pub renders : Unended (λ (x : State K). render_ends x) between more
      pub cause : call_refusal limits (λ (x : State K). render_ends x) last.machine ≡ Some fault

    -- a whole render's log comes to this fault after events were processed
    pub record RenderComesTo (log : List Entry) (fault : Fault) : Type 0 where
      pub first : List Entry
      pub between : Machine K
      pub more : List Entry
      pub whole : first ++ more ≡ log
      pub events : EndsAt app (λ (x : State K). events_end x) (resting (aside_state app w Looked)) first between
      pub comes_to : CallComesTo app limits (λ (x : State K). render_ends x) between more fault

    -- what code proves of a call that stopped since its units were spent, where nothing is at work
    pub record CallSpent (log : List Entry) (edits : List Edit) (v : Machine K) : Type 0 where
      pub last : Telling K
      pub so : ToldSo app limits (resting (aside_state app w Looked)) log last
      pub edits_are : last.edits ≡ edits
      pub machine : last.machine ≡ v
      pub quiet : is_quiet v ≡ true

  -- what a whole render says, of a lawful application
  pub record RenderHolds
      (limits : Limits) (props : K.Props) (whole : Bool) (w : State K)
      (log : List Entry) (edits : List Edit) (v : Machine K) : Type 0 where
    -- it begins with a look, processes events, and goes on to the first state in which nothing is seen or queued
    pub ends : RenderEnds app (resting w) log v
    -- the program has led to the state that is left
    pub leads : LedTo app limits props whole (left_by Renders v.state)
    -- the edits never fault, and make what shows after it of what showed before it
    pub shows : document_after edits (view w) ≡ Ok (view (left_by Renders v.state))
    -- each live scope is current, or owed a run
    pub current : AllCurrentOrOwed app (left_by Renders v.state)

  -- a whole render that ended holds all that
  abbrev pub RendersHold : Type 0
  RendersHold =
      IsLawful K app
      → (limits : Limits) (props : K.Props) (whole : Bool) (w : State K)
      → (log : List Entry) (edits : List Edit) (v : Machine K)
      → LedTo app limits props whole w
      → RenderRan limits w log edits v
      → RenderHolds limits props whole w log edits v

  -- what a call says whose units were spent: what is owed stays, and the program goes on from there
  pub record SpentHolds
      (limits : Limits) (props : K.Props) (whole : Bool) (w : State K) (edits : List Edit) (v : Machine K) : Type 0 where
    pub leads : LedTo app limits props whole (at_rest v.state)
    pub shows : document_after edits (view w) ≡ Ok (view (at_rest v.state))
    pub current : AllCurrentOrOwed app (at_rest v.state)

  -- a call whose units were spent holds all that
  abbrev pub SpentHold : Type 0
  SpentHold =
      IsLawful K app
      → (limits : Limits) (props : K.Props) (whole : Bool) (w : State K)
      → (log : List Entry) (edits : List Edit) (v : Machine K)
      → LedTo app limits props whole w
      → CallSpent limits w log edits v
      → SpentHolds limits props whole w edits v

  -- what such a call says, of a lawful application
  pub record CallHolds
      (limits : Limits) (props : K.Props) (whole : Bool) (until : Until) (w : State K)
      (log : List Entry) (edits : List Edit) (v : Machine K) : Type 0 where
    -- it begins with a look, takes what comes next, and ends at the first state in which its test holds
    pub ends_at : EndsAt app (λ (x : State K). ends_by until x) (resting (aside_state app w Looked)) log v
    -- the program has led to the state that is left
    pub leads : LedTo app limits props whole (left_by until v.state)
    -- the edits never fault, and make what shows after it of what showed before it
    pub shows : document_after edits (view w) ≡ Ok (view (left_by until v.state))
    -- each live scope is current, or owed a run
    pub current : AllCurrentOrOwed app (left_by until v.state)

  -- a call that ended holds all that
  abbrev pub CallsHold : Type 0
  CallsHold =
      IsLawful K app
      → (limits : Limits) (props : K.Props) (whole : Bool) (until : Until) (w : State K)
      → (log : List Entry) (edits : List Edit) (v : Machine K)
      → LedTo app limits props whole w
      → CallRan limits until w log edits v
      → CallHolds limits props whole until w log edits v

  -- after a call that settles every output is current, and fallbacks show just while they are held
  abbrev pub SettledHold : Type 0
  SettledHold =
      IsLawful K app
      → (limits : Limits) (props : K.Props) (w : State K) (log : List Entry) (edits : List Edit) (v : Machine K)
      → LedTo app limits props true w
      → CallRan limits Settles w log edits v
      → AllCurrent app v.state × AllHeldShown v.state

  -- a whole render that polls no task after its first rerun runs no body twice
  abbrev pub RendersRunOnce : Type 0
  RendersRunOnce =
      IsLawful K app
      → (limits : Limits) (props : K.Props) (whole : Bool) (w : State K)
      → (log : List Entry) (edits : List Edit) (v : Machine K)
      → LedTo app limits props whole w
      → RenderRan limits w log edits v
      → NoneAfterRerun log
      → NoBodyTwice log

  -- it reruns the scopes that are seen when the first rerun is taken, in their order, but for those removed or fed before their turn
  abbrev pub RendersRerunInTurn : Type 0
  RendersRerunInTurn =
      IsLawful K app
      → (limits : Limits) (props : K.Props) (whole : Bool) (w : State K)
      → (log : List Entry) (edits : List Edit) (v : Machine K)
      → LedTo app limits props whole w
      → RenderRan limits w log edits v
      → NoneAfterRerun log
      → RerunsTheSeen app (call_begun (resting w)) log

  -- every body that a whole render runs without rerunning its scope is made, or fed what memoize refuses
  abbrev pub RendersMakeOrFeed : Type 0
  RendersMakeOrFeed =
      (limits : Limits) (w : State K) (log : List Entry) (edits : List Edit) (v : Machine K)
      → RenderRan limits w log edits v
      → OthersMadeOrFed app (call_begun (resting w)) log

  -- a call that stopped came to its fault
  abbrev pub CallsComeTo : Type 0
  CallsComeTo =
      IsLawful K app
      → (limits : Limits) (props : K.Props) (whole : Bool) (until : Until) (w : State K)
      → (log : List Entry) (edits : List Edit) (fault : Fault)
      → LedTo app limits props whole w
      → CallStopped limits until w log edits fault
      → CallComesTo app limits (λ (x : State K). ends_by until x) (resting (aside_state app w Looked)) log fault

  -- and a whole render that stopped after events were processed came to its fault
  abbrev pub RendersComeTo : Type 0
  RendersComeTo =
      IsLawful K app
      → (limits : Limits) (props : K.Props) (whole : Bool) (w : State K)
      → (log : List Entry) (edits : List Edit) (fault : Fault)
      → LedTo app limits props whole w
      → RenderStopped limits w log edits fault
      → RenderComesTo limits w log fault

  -- what code proves of a build that ended, whose numbers begin at these and whose root provides these values: its log and its edits,
  -- and the machine at its end
  pub record GivenBuildRan (limits : Limits) (props : K.Props) (firsts : Firsts) (provided : List (ℕ × K.Value))
      (log : List Entry) (edits : List Edit) (v : Machine K) : Type 0 where
    pub last : Telling K
    pub so : ToldSo app limits (start_with app props firsts provided []) log last
    pub edits_are : last.edits ≡ edits
    pub machine : last.machine ≡ v
    pub built : v.built ≡ true
    pub quiet : is_quiet v ≡ true

  -- what it says: a program's calls begin there, and its edits make what shows of an empty document
  pub record BuildHolds (limits : Limits) (props : K.Props) (edits : List Edit) (v : Machine K) : Type 0 where
    pub leads : LedTo app limits props true v.state
    pub shows : document_after edits Empty ≡ Ok (view v.state)
    pub current : AllCurrentOrOwed app v.state

  -- of a build at whose start nothing is given
  abbrev pub BuildRan : Limits → K.Props → List Entry → List Edit → Machine K → Type 0
  BuildRan limits props log edits v = GivenBuildRan limits props ones [] log edits v

  -- such a build that ended holds all that; elements have no number below 1
  abbrev pub GivenBuildsHold : Type 0
  GivenBuildsHold =
      IsLawful K app
      → (limits : Limits) (props : K.Props) (firsts : Firsts) (provided : List (ℕ × K.Value))
      → (log : List Entry) (edits : List Edit) (v : Machine K)
      → 0 < firsts.elements
      → GivenBuildRan limits props firsts provided log edits v
      → BuildHolds limits props edits v

  -- so does one at whose start nothing is given
  abbrev pub BuildsHold : Type 0
  BuildsHold =
      IsLawful K app
      → (limits : Limits) (props : K.Props) (log : List Entry) (edits : List Edit) (v : Machine K)
      → BuildRan limits props log edits v
      → BuildHolds limits props edits v

  -- what code proves of an event that was handled: from the machine at which it came to those that hear it, to where none waits
  pub record HandleRan
      (limits : Limits) (w : State K) (raised : Aside K) (log : List Entry) (edits : List Edit) (v : Machine K) : Type 0 where
    pub last : Telling K
    pub so : ToldSo app limits (set_aside app (resting w) raised) log last
    pub edits_are : last.edits ≡ edits
    pub machine : last.machine ≡ v
    pub quiet : is_quiet v ≡ true

  -- an event that was handled leads on, and its edits make what shows after it
  abbrev pub HandlesLead : Type 0
  HandlesLead =
      IsLawful K app
      → (limits : Limits) (props : K.Props) (whole : Bool) (w : State K)
      → (name : Text) (payload : K.Payload) (element : ℕ) (bubbles prevented : Bool)
      → (log : List Entry) (edits : List Edit) (v : Machine K)
      → LedTo app limits props whole w
      → HandleRan limits w (Raised name payload element bubbles prevented) log edits v
      → LedTo app limits props whole v.state × (document_after edits (view w) ≡ Ok (view v.state))

  -- what a render while suspended may not take is passed over, and shows nothing new; from then on a way isn't whole
  abbrev pub PassedLeads : Type 0
  PassedLeads =
      IsLawful K app
      → (limits : Limits) (props : K.Props) (w : State K)
      → LedTo app limits props false w
      → LedTo app limits props false (rendering_rest w) × (view (rendering_rest w) ≡ view w)

  -- what code proves of one unit of a render while suspended: from where the rest was passed over it goes on to where none is at work
  pub record UnitRan (limits : Limits) (w : State K) (log : List Entry) (edits : List Edit) (v : Machine K) : Type 0 where
    pub last : Telling K
    pub so : ToldSo app limits (resting (rendering_rest w)) log last
    pub edits_are : last.edits ≡ edits
    pub machine : last.machine ≡ v
    pub quiet : is_quiet v ≡ true

  -- such a unit leads on, and its edits make what shows after it; so units lead on one after another
  abbrev pub UnitsLead : Type 0
  UnitsLead =
      IsLawful K app
      → (limits : Limits) (props : K.Props) (w : State K) (log : List Entry) (edits : List Edit) (v : Machine K)
      → LedTo app limits props false w
      → UnitRan limits w log edits v
      → LedTo app limits props false v.state × (document_after edits (view w) ≡ Ok (view v.state))

  -- and it is one more unit of that render, which counts its units together
  abbrev pub UnitsFollow : Type 0
  UnitsFollow =
      (limits : Limits) (w x : State K) (units : ℕ) (log more : List Entry) (e : Entry) (work : Work) (v : Machine K)
      → renders_within app limits (Some (resting w)) log ≡ Some (record (resting x) { units = units })
      → nat_eq units limits.units ≡ false
      → rendering_next x ≡ Some work
      → NoneOpens more
      → replay_within app limits (Some (resting (rendering_rest x))) (e ∷ more) ≡ Some v
      → renders_within app limits (Some (resting w)) (log ++ e ∷ more) ≡ Some (record v { units = units + 1 })

  -- one more entry: a unit's where the test fails
  abbrev pub UnendedGrows : Type 0
  UnendedGrows =
      (test : State K → Bool) (m v : Machine K) (log : List Entry) (e : Entry)
      → replay_on app (Some m) log ≡ Some v
      → Unended test m log
      → (opens e ≡ true → test v.state ≡ false)
      → Unended test m (log ++ e ∷ [])

-- where a call goes on, its test leaves a state at which the same comes next
abbrev pub RestsAlike : Types → Type 0
RestsAlike K =
    (until : Until) (w : State K) → ends_by until w ≡ false
    → (at_rest (left_by until w) ≡ at_rest w) × (owes w ≡ true)

-- what a render while suspended takes next is what comes next, once the rest was passed over
abbrev pub PassedComesNext : Types → Type 0
PassedComesNext K =
    (w : State K) (x : Work) → rendering_next w ≡ Some x
    → (at_rest (rendering_rest w) ≡ rendering_rest w) × (next (rendering_rest w) ≡ Some x)
