-- The machine of the definitions that a session under way stands for, and what its turns do.
use Rattle.std.specs.Prelude.{◌≡◌, ℕ, Bool, true, false, nat_eq, List, [], ◌∷◌, ◌++◌, map, reverse, length, Option, Some, None, is_some, option_map, Result, Ok, Err}
use Rattle.rt_model.specs.OneLog.{types}
use Rattle.rt_model.specs.Tree as tree
use Rattle.rt_model.specs.World.{Application}
use Rattle.rt_model.specs.State as model
use Rattle.rt_model.specs.State.{Outcome, Done, Cut}
use Rattle.rt_model.specs.Next as next
use Rattle.rt_model.specs.Heard as heard
use Rattle.rt_model.specs.Replay as replay
use Rattle.rt_model.specs.Causes as causes
use Rattle.author_calls.specs.Answers.{event_of}
use Rattle.tree_nodes.specs.declared.event.Event.{Event}
use Rattle.run_reports.specs.Seen.{entry_of}
use Rattle.run_state.specs.Mirror.{Unkept, scopes_of, state_of}
use Rattle.run_state.specs.Names.{fault_of}
use Rattle.run_state.specs.declared.names.Stop.{Stop}
use Rattle.run_state.specs.declared.names.Stop.TheVariants as stops
use Rattle.run_shown.specs.Hearing.{listener_in, listeners_of}
use Rattle.run_shown.specs.Stands.{Stands}
use Rattle.run_shown.specs.declared.hearing.Listener.{Listener}
use Rattle.law_moves.specs.Turn.{turn_of, entries_at, unit_of, entry_for}
use Rattle.run_work.specs.Items.{work_of}
use Rattle.run_outside.specs.Hearings.{listeners_in, event_in, bubbles_in}
use Rattle.run_turns.specs.Counting.{CountsListener}
use Rattle.run_outside.specs.declared.ended.Ended.{Ended}
use Rattle.run_outside.specs.declared.ended.Ended.TheVariants as ends
use Rattle.run_machine.specs.declared.machine.Machine.{Machine}

module _ {K : tree.Types} (app : Application K) where
  -- a listener was called: it was the first of those that waited
  pub record HeardOne (m : replay.Machine K) (before after : List replay.Entry) (u : replay.Machine K) : Type 0 where
    pub first : heard.Listener K
    pub others : List (heard.Listener K)
    pub waits : replay.waiting m ≡ first ∷ others
    pub heard_is : replay.heard_event app m first others m.event ≡ u
    pub logged : after ≡ before ++ replay.Heard first.origin ∷ []

  -- its call was cut by a fault
  pub record HeardPart (m : replay.Machine K) (before after : List replay.Entry) (fault : model.Fault) : Type 0 where
    pub left : replay.Machine K
    pub one : HeardOne m before after left
    pub dead : left.dead ≡ Some fault
    pub refused : left.refused ≡ None

  -- a call of the first listener that waits, by what is answered
  abbrev pub HearsAs :
      replay.Machine K → List replay.Entry → List replay.Entry → (Unkept K → replay.Machine K) → Result Bool Stop → Type 0
  HearsAs m before after now (Ok false) = (replay.waiting m ≡ []) × (after ≡ before) × (h : Unkept K) × (m ≡ now h)
  HearsAs m before after now (Ok true) = (h : Unkept K) × HeardOne m before after (now h)
  HearsAs m before after now (Err stops.OutOfMemory) = Unit {0}
  HearsAs m before after now (Err (stops.Fault what)) = HeardPart m before after (fault_of what)

  -- a listener's call, by what is answered
  abbrev pub CallsAs :
      replay.Machine K → heard.Listener K → List (heard.Listener K) → List replay.Entry → List replay.Entry
      → (Unkept K → replay.Machine K) → Result (Unit {0}) Stop → Type 0
  CallsAs m first others before after now (Ok u) =
      (h : Unkept K) × (replay.heard_event app m first others m.event ≡ now h) × (after ≡ before ++ replay.Heard first.origin ∷ [])
  CallsAs m first others before after now (Err stops.OutOfMemory) = Unit {0}
  CallsAs m first others before after now (Err (stops.Fault what)) =
      (u : replay.Machine K)
      × (replay.heard_event app m first others m.event ≡ u)
      × (u.dead ≡ Some (fault_of what))
      × (u.refused ≡ None)
      × (after ≡ before ++ replay.Heard first.origin ∷ [])

-- whether a rerun is at work
abbrev pub is_rerun : Option replay.Entry → Bool
is_rerun (Some (replay.Rerun s)) = true
is_rerun _ = false

module _ {P C Q V H T E L : Type 0} where
  -- the open work, first item first
  abbrev pub open_work : Machine P C Q V H T E L → List (model.Item (types C Q V H T E L))
  open_work d = work_of (reverse d.work)

  -- the entries after the one that opened the report
  abbrev pub noted : Machine P C Q V H T E L → List replay.Entry
  noted d = map entry_of (d.course).entries

  -- the entry that began the build or the unit at work
  abbrev pub first_in : Machine P C Q V H T E L → Option replay.Entry
  first_in d = option_map entry_of d.first

  -- the machine that a session stands for, with these inputs left and so many taken
  abbrev pub machine_of :
      Unkept (types C Q V H T E L) → List (replay.Input (types C Q V H T E L)) → ℕ → Machine P C Q V H T E L
      → replay.Machine (types C Q V H T E L)
  machine_of g left taken d =
      record {
        state = state_of g (d.scopes).state;
        work = open_work d;
        listeners = listeners_in d.hearing;
        event = event_in d.hearing;
        bubbles = bubbles_in d.hearing;
        built = true;
        unit = is_some (first_in d);
        units = d.units;
        inputs = left;
        taken = taken;
        default_enabled = d.default_enabled;
        dead = None;
        refused = None;
      }

  -- a session at its start, before its build
  pub record IsFresh (d : Machine P C Q V H T E L) : Type 0 where
    pub work : d.work ≡ []
    pub hearing : d.hearing ≡ None
    pub first : d.first ≡ None
    pub course : (d.course).entries ≡ []
    pub units : d.units ≡ 0
    pub default_enabled : d.default_enabled ≡ true

  -- it is kept what the scopes were of which a rerun is at work
  abbrev pub RemembersFor :
      Option replay.Entry → Machine P C Q V H T E L → List (ℕ × model.Scope (types C Q V H T E L)) → Type 0
  RemembersFor (Some (replay.Rerun s)) d was = Stands d.stood was (scopes_of ((d.scopes).state.rows).table) × (d.lived ≡ length was)
  RemembersFor _ d was = Unit {0}

  -- the same of what is at work now
  abbrev pub Remembers : Machine P C Q V H T E L → List (ℕ × model.Scope (types C Q V H T E L)) → Type 0
  Remembers d was = RemembersFor (first_in d) d was

  -- the same, said of a machine that stands for a state
  abbrev pub RemembersAt : Unkept (types C Q V H T E L) → Machine P C Q V H T E L → List (ℕ × model.Scope (types C Q V H T E L)) → Type 0
  RemembersAt g d was = Remembers d was

  -- while it remembered, it still does; where memory was wanting nothing is said
  abbrev pub StillRemembers : Machine P C Q V H T E L → Machine P C Q V H T E L → Type 0
  StillRemembers old new = (g : Unkept (types C Q V H T E L)) (was : List (ℕ × model.Scope (types C Q V H T E L))) → Remembers old was
      → Remembers new was

  abbrev pub KeepsLow : Machine P C Q V H T E L → Machine P C Q V H T E L → Result (Unit {0}) Stop → Type 0
  KeepsLow old new (Ok u) = StillRemembers old new
  KeepsLow old new (Err stops.OutOfMemory) = Unit {0}
  KeepsLow old new (Err (stops.Fault what)) = StillRemembers old new

  abbrev pub KeepsOn : Machine P C Q V H T E L → Machine P C Q V H T E L → Result (Unit {0}) Ended → Type 0
  KeepsOn old new (Ok u) = StillRemembers old new
  KeepsOn old new (Err ends.Sink) = Unit {0}
  KeepsOn old new (Err (ends.OutOfTurns units)) = Unit {0}
  KeepsOn old new (Err (ends.TooDeep height)) = StillRemembers old new
  KeepsOn old new (Err (ends.Run stops.OutOfMemory)) = Unit {0}
  KeepsOn old new (Err (ends.Run (stops.Fault what))) = StillRemembers old new

  module _ (app : Application (types C Q V H T E L)) where
    -- a call of the first listener that waits
    abbrev pub Hears : Machine P C Q V H T E L → Machine P C Q V H T E L → Result Bool Stop → Type 0
    Hears old new result =
        (g : Unkept (types C Q V H T E L)) (left : List (replay.Input (types C Q V H T E L))) (taken : ℕ)
        → HearsAs app (machine_of g left taken old) (noted old) (noted new) (λ h. machine_of h left taken new) result

    -- a listener's call
    abbrev pub CallsListener :
        Machine P C Q V H T E L → Listener P C Q V H T E L → Event L → Bool → List (Listener P C Q V H T E L) → Machine P C Q V H T E L
        → Result (Unit {0}) Stop → Type 0
    CallsListener old first event bubbles others new result =
        (g : Unkept (types C Q V H T E L)) (left : List (replay.Input (types C Q V H T E L))) (taken : ℕ)
        (all : List (heard.Listener (types C Q V H T E L)))
        → CallsAs
        app
        (record (machine_of g left taken old) { listeners = all; event = Some (event_of event); bubbles = bubbles })
        (listener_in first)
        (listeners_of others)
        (noted old)
        (noted new)
        (λ h. machine_of h left taken new)
        result

    -- a change with the work that it leads to before what is open, and its entries
    pub record Did (o : Outcome (types C Q V H T E L)) (es : List replay.Entry) (old new : Machine P C Q V H T E L) : Type 0 where
      pub kept : Unkept (types C Q V H T E L)
      pub work : List (model.Item (types C Q V H T E L))
      pub done : o ≡ Done (state_of kept (new.scopes).state) work
      pub open_is : open_work new ≡ work ++ open_work old
      pub logged : noted new ≡ noted old ++ es

    -- it was cut
    pub record WasCut (o : Outcome (types C Q V H T E L)) (es : List replay.Entry) (fault : model.Fault)
        (old new : Machine P C Q V H T E L) : Type 0 where
      pub kept : Unkept (types C Q V H T E L)
      pub cut : o ≡ Cut (state_of kept (new.scopes).state) fault
      pub logged : noted new ≡ noted old ++ es

    -- by what is answered
    abbrev pub DidAs : Outcome (types C Q V H T E L) → List replay.Entry → Machine P C Q V H T E L → Machine P C Q V H T E L
        → Result (Unit {0}) Stop → Type 0
    DidAs o es old new (Ok u) = Did o es old new
    DidAs o es old new (Err stops.OutOfMemory) = Unit {0}
    DidAs o es old new (Err (stops.Fault what)) = WasCut o es (fault_of what) old new

    -- the build's own call
    abbrev pub Builds : Machine P C Q V H T E L → Machine P C Q V H T E L → Result (Unit {0}) Stop → Type 0
    Builds old new result = (g : Unkept (types C Q V H T E L))
        → DidAs (unit_of app (state_of g (old.scopes).state) (next.RerunScope 0)) [] old new result

    -- a unit's own call
    abbrev pub BeginsUnit : next.Work → Machine P C Q V H T E L → Machine P C Q V H T E L → Result (Unit {0}) Stop → Type 0
    BeginsUnit work old new result =
        (g : Unkept (types C Q V H T E L)) → DidAs (unit_of app (state_of g (old.scopes).state) work) (entry_for work ∷ []) old new result

    -- a turn at an item, at any height
    abbrev pub ServesLow : model.Item (types C Q V H T E L) → Machine P C Q V H T E L → Machine P C Q V H T E L → Result (Unit {0}) Stop
        → Type 0
    ServesLow item old new result =
        (g : Unkept (types C Q V H T E L))
        → DidAs (turn_of app (state_of g (old.scopes).state) item) (entries_at app (state_of g (old.scopes).state) item) old new result

    -- a unit begins, where units are left
    abbrev pub BeginsAs :
        causes.Limits → Outcome (types C Q V H T E L) → List replay.Entry → Machine P C Q V H T E L → Machine P C Q V H T E L
        → Result (Unit {0}) Ended → Type 0
    BeginsAs limits o es old new (Ok u) = (nat_eq old.units limits.units ≡ false) × Did o es old new
    BeginsAs limits o es old new (Err ends.Sink) = ⊥
    BeginsAs limits o es old new (Err (ends.OutOfTurns units)) =
        (nat_eq old.units limits.units ≡ true) × (units ≡ limits.units) × (noted new ≡ noted old)
    BeginsAs limits o es old new (Err (ends.TooDeep height)) = ⊥
    BeginsAs limits o es old new (Err (ends.Run stops.OutOfMemory)) = Unit {0}
    BeginsAs limits o es old new (Err (ends.Run (stops.Fault what))) = (nat_eq old.units limits.units ≡ false)
        × WasCut o es (fault_of what) old new

    abbrev pub Begins : causes.Limits → next.Work → Machine P C Q V H T E L → Machine P C Q V H T E L → Result (Unit {0}) Ended → Type 0
    Begins limits work old new result =
        (g : Unkept (types C Q V H T E L))
        → BeginsAs limits (unit_of app (state_of g (old.scopes).state) work) (entry_for work ∷ []) old new result

    -- an item is served, unless it makes a scope that is too deep
    abbrev pub ServesAs :
        Option model.Fault → Outcome (types C Q V H T E L) → List replay.Entry → Machine P C Q V H T E L → Machine P C Q V H T E L
        → Result (Unit {0}) Ended → Type 0
    ServesAs deep o es old new (Ok u) = (deep ≡ None) × Did o es old new
    ServesAs deep o es old new (Err ends.Sink) = ⊥
    ServesAs deep o es old new (Err (ends.OutOfTurns units)) = ⊥
    ServesAs deep o es old new (Err (ends.TooDeep height)) = (deep ≡ Some (model.TooDeep height)) × (new ≡ old)
    ServesAs deep o es old new (Err (ends.Run stops.OutOfMemory)) = Unit {0}
    ServesAs deep o es old new (Err (ends.Run (stops.Fault what))) = (deep ≡ None) × WasCut o es (fault_of what) old new

    abbrev pub Serves : causes.Limits → model.Item (types C Q V H T E L) → Machine P C Q V H T E L → Machine P C Q V H T E L
        → Result (Unit {0}) Ended → Type 0
    Serves limits item old new result =
        (g : Unkept (types C Q V H T E L))
        → ServesAs
        (causes.depth_refused limits (causes.height_at (state_of g (old.scopes).state) (item ∷ [])))
        (turn_of app (state_of g (old.scopes).state) item)
        (entries_at app (state_of g (old.scopes).state) item)
        old
        new
        result

module _ {P C Q V H T E L : Type 0} (app : Application (types C Q V H T E L)) where
  -- so it is of the first listener that waits; where none does it stays
  abbrev pub CountsHeard : Machine P C Q V H T E L → ℕ → ℕ → Bool → Type 0
  CountsHeard old old_count new_count false = new_count ≡ old_count
  CountsHeard old old_count new_count true =
      (g : Unkept (types C Q V H T E L)) (left : List (replay.Input (types C Q V H T E L))) (taken : ℕ)
      (first : heard.Listener (types C Q V H T E L)) (others : List (heard.Listener (types C Q V H T E L)))
      → replay.waiting (machine_of g left taken old) ≡ first ∷ others
      → CountsListener app (machine_of g left taken old) first others old_count new_count
