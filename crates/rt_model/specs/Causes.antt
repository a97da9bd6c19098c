-- Where a run has to stop: the causes of faults, by cases; and which inputs run without one.
use Rattle.std.specs.Prelude.{ℕ, ◌+◌, ◌&&◌, nat_eq, nat_lt, List, [], ◌∷◌, ◌++◌, Option, Some, None, if◌then◌else◌, ◌≡◌}
use Rattle.rt_model.specs.Lists.{first_of}
use Rattle.rt_model.specs.Tree.{Types}
use Rattle.rt_model.specs.World.{Application}
use Rattle.rt_model.specs.State.{Fault, OutOfTurns, TooDeep, State, Item, Draw, Row, Feed, Make, Drop, height_of}
use Rattle.rt_model.specs.Next.{owes}
use Rattle.rt_model.specs.Replay.{Entry, Input, Machine, accepts, is_quiet, start}
use Rattle.rt_model.specs.Document.{Edit}
use Rattle.rt_model.specs.Caused.{caused_until}
use Rattle.rt_model.specs.Told.{Telling}

-- units after the build or an input, the greatest height of a scope, the most messages of one drain
pub record Limits : Type 0 where
  pub units : ℕ
  pub height : ℕ
  pub drain : ℕ

-- the limits of a run that names none
abbrev pub usual : Limits
usual = record { units = 10000; height = 128; drain = 1024 }

-- the next make is deeper than the limit
abbrev pub depth_refused : Limits → Option ℕ → Option Fault
depth_refused limits None = None
depth_refused limits (Some height) = if nat_lt limits.height height then Some (TooDeep height) else None

module _ {K : Types} where
  -- the item that is served next
  abbrev pub first_item : List (Item K) → Option (Item K)
  first_item [] = None
  first_item (i ∷ rest) = Some i

  -- the height of the scope that is made next
  abbrev pub height_at : State K → List (Item K) → Option ℕ
  height_at w [] = None
  height_at w (Make s side p c ∷ rest) = Some (height_of w.scopes s + 1)
  height_at w (Draw s side p k ∷ rest) = None
  height_at w (Row b step ∷ rest) = None
  height_at w (Feed s side p c ∷ rest) = None
  height_at w (Drop t s side ∷ rest) = None

  -- the height of a make that comes next
  abbrev pub next_height : Machine K → Option ℕ
  next_height m = height_at m.state m.work

  -- the units are spent and one more is owed
  abbrev pub turns_refused : Limits → Machine K → Option Fault
  turns_refused limits m = if m.built && is_quiet m && nat_eq m.units limits.units && owes m.state then Some (OutOfTurns limits.units)
      else None

  -- the fault with which a run stops here: one that ended the last entry's change; else a make that is too deep; else units that are spent
  abbrev pub refusal : Limits → Machine K → Option Fault
  refusal limits m = first_of m.dead (first_of (depth_refused limits (next_height m)) (turns_refused limits m))

module _ {K : Types} (app : Application K) where
  -- an entry is accepted where no refusal came before it
  abbrev pub accepts_within : Limits → Machine K → Entry → Option (Machine K)
  accepts_within limits m e = elim (refusal limits m) [ None ↦ accepts app m e | Some fault ↦ None ]

  -- a log within limits: no entry after a refusal
  abbrev pub replay_within : Limits → Option (Machine K) → List Entry → Option (Machine K)
  replay_within limits None log = None
  replay_within limits (Some m) [] = Some m
  replay_within limits (Some m) (e ∷ log) = replay_within limits (accepts_within limits m e) log

  -- no log of the inputs comes to a refusal
  abbrev pub IsValid : K.Props → List (Input K) → Limits → Type 0
  IsValid props inputs limits =
      (log : List Entry) (m : Machine K) → replay_within limits (Some (start app props inputs)) log ≡ Some m → refusal limits m ≡ None

  -- a run comes to this fault
  pub record ComesTo (limits : Limits) (from : Machine K) (log : List Entry) (fault : Fault) : Type 0 where
    -- the replay up to there
    pub machine : Machine K
    pub goes_on : replay_within limits (Some from) log ≡ Some machine
    pub cause : refusal limits machine ≡ Some fault

  -- the edits of a report's units so far; of the open unit, where its next make is refused, those of the places passed
  abbrev pub edits_at_depth : Telling K → Option Fault → List Edit
  edits_at_depth t None = t.edits
  edits_at_depth t (Some fault) = t.edits ++ caused_until app t.before t.machine.state (first_item t.machine.work) t.first

  -- the edits of a report that a refusal ended
  abbrev pub edits_at_refusal : Limits → Telling K → List Edit
  edits_at_refusal limits t =
      elim t.machine.dead [ None ↦ edits_at_depth t (depth_refused limits (next_height t.machine)) | Some fault ↦ t.edits ]
