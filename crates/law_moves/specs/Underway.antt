-- Where a report stands between two turns, and where a refusal ended it.
use Rattle.std.specs.Prelude.{true, List, [], ◌∷◌, ◌++◌, Some, ◌≡◌}
use Rattle.rt_model.specs.Tree.{Types}
use Rattle.rt_model.specs.World.{Application}
use Rattle.rt_model.specs.State.{Fault, State}
use Rattle.rt_model.specs.Replay.{Entry, Input, Machine}
use Rattle.rt_model.specs.Document.{Edit}
use Rattle.rt_model.specs.Causes.{Limits, refusal, edits_at_refusal}
use Rattle.rt_model.specs.Told.{Telling, opens}
use Rattle.law_moves.specs.Moves.{busy, AtWork, AtRest, IsLogged}
use Rattle.law_moves.specs.Words.{Goes}
use Rattle.law_moves.specs.Reached.{Reached}
use Rattle.law_moves.specs.Reports.{ToldSo}

module _ {K : Types} (app : Application K) (limits : Limits) (props : K.Props) (inputs : List (Input K)) where
  -- a report that began at a machine stands at another one, where nothing is at work: its log and its edits so far
  pub record Rests (from : Machine K) (log : List Entry) (edits : List Edit) (m : Machine K) : Type 0 where
    -- the last unit's start, of which nothing more is asked
    pub before : State K
    pub first : Entry
    pub so : ToldSo app limits from log (record { machine = m; before = before; first = first; edits = edits })
    pub rest : AtRest m
    pub built : m.built ≡ true
    pub reached : Reached app limits props inputs m

  -- it stands in the midst of the build or of a unit, which began with this entry at this state
  pub record Works (from : Machine K) (log : List Entry) (edits : List Edit) (w : State K) (first : Entry) (m : Machine K) : Type 0 where
    -- the report up to the unit
    pub told : Telling K
    pub earlier : List Entry
    pub so : ToldSo app limits from earlier told
    pub edits_are : told.edits ≡ edits
    pub before : told.machine.state ≡ w
    -- the unit's first entry
    pub begun : Machine K
    pub opening : opens first ≡ true
    pub logged : IsLogged app limits told.machine first begun
    pub at_work : AtWork begun
    -- the entries since
    pub more : List Entry
    pub goes : Goes app limits begun [] more m
    pub log_is : log ≡ earlier ++ first ∷ more
    -- while work is served the machine's state and open work alone change
    pub same : m ≡ busy begun m.state m.work
    pub reached : Reached app limits props inputs m

  -- it has come to a refusal, with all edits up to there
  pub record Refused (from : Machine K) (log : List Entry) (edits : List Edit) (fault : Fault) : Type 0 where
    pub last : Telling K
    pub so : ToldSo app limits from log last
    pub cause : refusal limits last.machine ≡ Some fault
    pub edits_are : edits_at_refusal app limits last ≡ edits
