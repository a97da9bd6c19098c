-- What is told of the logs of a session with names is plain.
use Rattle.std.proofs.Common.{Bool, true, false, ◌&&◌, ◌||◌, not, List, [], ◌∷◌, ◌++◌, ◌≡◌, refl, ap, subst}
use Rattle.std.specs.Prelude.{Option, Some, None, if◌then◌else◌}
use Rattle.rt_model.specs.Lists.{joined}
use Rattle.rt_model.specs.Tree.{Types}
use Rattle.rt_model.specs.World.{Application}
use Rattle.rt_model.specs.Laws.{IsLawful}
use Rattle.rt_model.specs.State.{Fault}
use Rattle.rt_model.specs.Replay.{Entry, Input, Machine, accepts, replay_on, start}
use Rattle.rt_model.specs.Document.{Edit}
use Rattle.rt_model.specs.Caused.{caused, caused_until}
use Rattle.rt_model.specs.Causes.{Limits, first_item, next_height, depth_refused, edits_at_depth, edits_at_refusal}
use Rattle.rt_model.specs.Told.{Told, Telling, opens, opened, telling, closed_unit, told_entry, tell_log, tell_reports, edits_of}
use Rattle.rt_model.specs.Headline.{last_machine}
use Rattle.rt_model.proofs.ToldReplayed.{First, first-of}
use Rattle.law_moves.specs.Moves.{IsSettled}
use Rattle.lang_lines.specs.Named.{AnswersNamed}
use Rattle.lang_lines.proofs.NamedViews.{NamedScopes}
use Rattle.lang_lines.proofs.NamedWrites.{EditsPlain, both_plain, caused_plain, until_plain}
use Rattle.lang_lines.proofs.NamedMoves.{NamedMachine, logs_named, start_named}

module _ {K : Types} where
  -- a log on its way whose machine has names, and whose edits so far are plain
  record TellsPlain (t : Telling K) : Type 0 where
    pub settled : IsSettled t.machine
    pub named : NamedMachine t.machine
    pub before : NamedScopes t.before
    pub edits : EditsPlain t.edits

  opened_plain : (t : Telling K) (e : Entry) (b : Bool) → TellsPlain t → TellsPlain (if b then record t { before = t.machine.state; first = e } else t)
  opened_plain t e true h = record { settled = h.settled; named = h.named; before = h.named.still.scopes; edits = h.edits }
  opened_plain t e false h = h

  none_told : (told : List (Told K)) → Some [] ≡ Some told → [] ≡ told
  none_told told h = cc

  one_telling : (t u : Telling K) → Some t ≡ Some u → t ≡ u
  one_telling t u h = cc

module _ {K : Types} (app : Application K) (lawful : IsLawful K app) (answers : AnswersNamed app) where
  closed_if : (t : Telling K) (m : Machine K) (b : Bool) → TellsPlain t → IsSettled m → NamedMachine m
      → TellsPlain (if b then record t { machine = m; edits = t.edits ++ caused app t.before m.state t.first } else record t { machine = m })
  closed_if t m true h settled named =
      let edits : List Edit = caused app t.before m.state t.first in
      record { settled = settled; named = named; before = h.before; edits = both_plain t.edits edits h.edits (caused_plain app t.before m.state h.before named.still.scopes t.first) }
  closed_if t m false h settled named = record { settled = settled; named = named; before = h.before; edits = h.edits }

  closed_plain : (t : Telling K) (at_work : Bool) (m : Machine K) (o : Option Fault) → TellsPlain t → IsSettled m → NamedMachine m
      → TellsPlain (elim o as (λ z. Telling K) [
        | None ↦
            if at_work && not m.unit
            then record t { machine = m; edits = t.edits ++ caused app t.before m.state t.first }
            else record t { machine = m }
        | Some fault ↦ record t { machine = m; edits = t.edits ++ caused_until app t.before m.state m.refused t.first }
      ])
  closed_plain t at_work m None h settled named = closed_if t m (at_work && not m.unit) h settled named
  closed_plain t at_work m (Some fault) h settled named =
      let edits : List Edit = caused_until app t.before m.state m.refused t.first in
      record { settled = settled; named = named; before = h.before; edits = both_plain t.edits edits h.edits (until_plain app t.before m.state h.before named.still.scopes m.refused t.first) }

  -- one more entry
  entry_plain : (t u : Telling K) (e : Entry) (o : Option (Machine K)) → accepts app t.machine e ≡ o → TellsPlain t
      → elim o as (λ z. Option (Telling K)) [ None ↦ None | Some m ↦ Some (closed_unit app (opened t e) (opens e || t.machine.unit) m) ] ≡ Some u
      → TellsPlain u
  entry_plain t u e None is h gives = cc
  entry_plain t u e (Some m) is h gives =
      let accepted : replay_on app (Some t.machine) (e ∷ []) ≡ Some m = ap (λ (o : Option (Machine K)). replay_on app o []) is in
      let now = logs_named app lawful answers t.machine m (e ∷ []) h.settled h.named accepted in
      subst (λ (x : Telling K). TellsPlain x) (one_telling (closed_unit app (opened t e) (opens e || t.machine.unit) m) u gives)
      (closed_plain (opened t e) (opens e || t.machine.unit) m m.dead (opened_plain t e (opens e) h) now.0 now.1)

  log_plain : (log : List Entry) (t last : Telling K) → TellsPlain t → tell_log app (Some t) log ≡ Some last → TellsPlain last
  log_plain [] t last h gives = subst (λ (x : Telling K). TellsPlain x) (one_telling t last gives) h
  log_plain (e ∷ log) t last h gives = on (λ u k goes. log_plain log u last k goes) (told_entry app t e) refl gives
    where
      on : ((u : Telling K) → TellsPlain u → tell_log app (Some u) log ≡ Some last → TellsPlain last) → (o : Option (Telling K)) → told_entry app t e ≡ o → tell_log app o log ≡ Some last → TellsPlain last
      on further None is goes = cc
      on further (Some u) is goes = further u (entry_plain t u e (accepts app t.machine e) refl h is) goes

  telling_plain : (m : Machine K) → IsSettled m → NamedMachine m → TellsPlain (telling m)
  telling_plain m settled named = record { settled = settled; named = named; before = named.still.scopes; edits = tt }

  -- reports, and the machine after them
  reports_plain : (logs : List (List Entry)) (m : Machine K) (told : List (Told K)) → IsSettled m → NamedMachine m → tell_reports app m logs ≡ Some told
      → EditsPlain (joined (edits_of told)) × IsSettled (last_machine m told) × NamedMachine (last_machine m told)
  reports_plain [] m told settled named h =
      subst (λ (rs : List (Told K)). EditsPlain (joined (edits_of rs)) × IsSettled (last_machine m rs) × NamedMachine (last_machine m rs)) (none_told told h) (tt, settled, named)
  reports_plain (log ∷ logs) m told settled named h =
      let f : First app m log logs told = first-of app m log logs told h in
      let t : Telling K = f.0 in
      let one : TellsPlain t = log_plain log (telling m) t (telling_plain m settled named) f.2 in
      let rest = reports_plain logs t.machine f.1 one.settled one.named f.3 in
      subst (λ (rs : List (Told K)). EditsPlain (joined (edits_of rs)) × IsSettled (last_machine m rs) × NamedMachine (last_machine m rs)) f.4
      (both_plain t.edits (joined (edits_of f.1)) one.edits rest.0, rest.1, rest.2)

  depth_plain : (t : Telling K) (o : Option Fault) → TellsPlain t → EditsPlain (edits_at_depth app t o)
  depth_plain t None h = h.edits
  depth_plain t (Some fault) h =
      let edits : List Edit = caused_until app t.before t.machine.state (first_item t.machine.work) t.first in
      both_plain t.edits edits h.edits (until_plain app t.before t.machine.state h.before h.named.still.scopes (first_item t.machine.work) t.first)

  refusal_plain : (limits : Limits) (t : Telling K) (o : Option Fault) → TellsPlain t
      → EditsPlain (elim o as (λ z. List Edit) [ None ↦ edits_at_depth app t (depth_refused limits (next_height t.machine)) | Some fault ↦ t.edits ])
  refusal_plain limits t None h = depth_plain t (depth_refused limits (next_height t.machine)) h
  refusal_plain limits t (Some fault) h = h.edits

  -- the edits of a session's reports, and those after them
  pub session_plain : (props : K.Props) (inputs : List (Input K)) (logs : List (List Entry)) (told : List (Told K)) → tell_reports app (start app props inputs) logs ≡ Some told
      → EditsPlain (joined (edits_of told))
      × ((limits : Limits) (log : List Entry) (last : Telling K) → tell_log app (Some (telling (last_machine (start app props inputs) told))) log ≡ Some last → EditsPlain (edits_at_refusal app limits last))
  session_plain props inputs logs told h =
      let all = reports_plain logs (start app props inputs) told refl (start_named app lawful answers props inputs) h in (
        all.0,
        λ limits log last goes.
            refusal_plain limits last last.machine.dead (log_plain log (telling (last_machine (start app props inputs) told)) last (telling_plain (last_machine (start app props inputs) told) all.1 all.2) goes),
      )
