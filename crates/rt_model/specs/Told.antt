-- What the logs of reports tell: the state after each report, and the edits that its units write.
use Rattle.std.specs.Prelude.{ℕ, ◌+◌, Bool, true, false, ◌&&◌, ◌||◌, not, List, [], ◌∷◌, ◌++◌, Option, Some, None, Result, Ok, Err, if◌then◌else◌}
use Rattle.rt_model.specs.Lists.{same_list}
use Rattle.rt_model.specs.Tree.{Types}
use Rattle.rt_model.specs.World.{Application}
use Rattle.rt_model.specs.State.{State}
use Rattle.rt_model.specs.Next.{owes}
use Rattle.rt_model.specs.Replay.{Entry, Build, Rerun, Poll, Effects, Made, Fed, Machine, accepts, is_quiet}
use Rattle.rt_model.specs.Document.{Forest, Edit, DocFault, same_forest, same_edit, document_after}
use Rattle.rt_model.specs.View.{view}
use Rattle.rt_model.specs.Caused.{caused, caused_until}

-- the entries that begin the build or a unit
abbrev pub opens : Entry → Bool
opens Build = true
opens (Rerun s) = true
opens (Poll t) = true
opens (Effects s) = true
opens _ = false

-- the entries that are units
abbrev pub is_unit : Entry → Bool
is_unit (Rerun s) = true
is_unit (Poll t) = true
is_unit (Effects s) = true
is_unit _ = false

-- the entries in which a body of the component tree runs
abbrev pub is_body : Entry → Bool
is_body Build = true
is_body (Made s) = true
is_body (Fed s) = true
is_body (Rerun s) = true
is_body _ = false

-- how many entries of a log are of a kind
abbrev pub count_entries : (Entry → Bool) → List Entry → ℕ
count_entries test [] = 0
count_entries test (e ∷ log) = (if test e then 1 else 0) + count_entries test log

-- edits gave this document, without a fault
abbrev pub is_document : Result Forest DocFault → Forest → Bool
is_document (Ok d) shown = same_forest d shown
is_document (Err fault) shown = false

-- edits gave a document of which the test holds
abbrev pub document_or : (Forest → Bool) → Result Forest DocFault → Bool
document_or go (Ok d) = go d
document_or go (Err fault) = false

-- equal edits, report by report
abbrev pub same_edits : List (List Edit) → List (List Edit) → Bool
same_edits a b = same_list (λ x y. same_list same_edit x y) a b

module _ (K : Types) where
  -- a log on its way: the replay, the state before the open unit and the entry that began it, the edits so far
  pub record Telling : Type 0 where
    -- the replay so far
    pub machine : Machine K
    -- the state when the open unit began
    pub before : State K
    -- the entry that began it
    pub first : Entry
    pub edits : List Edit

  -- a report's edits, and the replay after it
  pub record Told : Type 0 where
    pub edits : List Edit
    pub machine : Machine K

module _ {K : Types} where
  -- nothing is at work, and nothing is owed
  abbrev pub is_settled : Machine K → Bool
  is_settled m = is_quiet m && not (owes m.state)

  -- the edits of each report
  abbrev pub edits_of : List (Told K) → List (List Edit)
  edits_of [] = []
  edits_of (r ∷ rs) = r.edits ∷ edits_of rs

  -- after the edits of each report the document is what shows, and nothing is owed
  abbrev pub all_shown : Forest → List (Told K) → Bool
  all_shown d [] = true
  all_shown d (r ∷ rs) =
      is_settled r.machine
      &&
      is_document (document_after r.edits d) (view r.machine.state)
      &&
      document_or (λ after. all_shown after rs) (document_after r.edits d)

  -- where an entry begins the build or a unit, the state before it is kept
  abbrev pub opened : Telling K → Entry → Telling K
  opened t e = if opens e then record t { before = t.machine.state; first = e } else t

  -- a log at its start
  abbrev pub telling : Machine K → Telling K
  telling m = record { machine = m; before = m.state; first = Build; edits = [] }

  -- the report of a log that is done
  abbrev pub told_by : Telling K → Told K
  told_by t = record { edits = t.edits; machine = t.machine }

module _ {K : Types} (app : Application K) where
  -- where the unit has ended its edits are written; where a fault ended it, those up to the refusal
  abbrev pub closed_unit : Telling K → Bool → Machine K → Telling K
  closed_unit t at_work m =
      elim m.dead [
        | None ↦
            if at_work && not m.unit
            then record t { machine = m; edits = t.edits ++ caused app t.before m.state t.first }
            else record t { machine = m }
        | Some fault ↦ record t { machine = m; edits = t.edits ++ caused_until app t.before m.state m.refused t.first }
      ]

  -- one more entry, where it is accepted
  abbrev pub told_entry : Telling K → Entry → Option (Telling K)
  told_entry t e =
      elim (accepts app t.machine e) [ None ↦ None | Some m ↦ Some (closed_unit (opened t e) (opens e || t.machine.unit) m) ]

  -- the entries of a log in turn
  abbrev pub tell_log : Option (Telling K) → List Entry → Option (Telling K)
  tell_log None log = None
  tell_log (Some t) [] = Some t
  tell_log (Some t) (e ∷ log) = tell_log (told_entry t e) log

  -- one report's log from a replay on; none where an entry isn't accepted
  abbrev pub tell_report : Machine K → List Entry → Option (Told K)
  tell_report m log = elim (tell_log (Some (telling m)) log) [ None ↦ None | Some t ↦ Some (told_by t) ]

  -- a report before others, where all are accepted
  abbrev pub one_more : Told K → Option (List (Told K)) → Option (List (Told K))
  one_more r None = None
  one_more r (Some rs) = Some (r ∷ rs)

  -- the reports that follow one
  abbrev pub tell_on : (Machine K → Option (List (Told K))) → Option (Told K) → Option (List (Told K))
  tell_on go None = None
  tell_on go (Some r) = one_more r (go r.machine)

  -- the logs of reports, one after another
  abbrev pub tell_reports : Machine K → List (List Entry) → Option (List (Told K))
  tell_reports m [] = Some []
  tell_reports m (log ∷ logs) = tell_on (λ v. tell_reports v logs) (tell_report m log)
