-- Inputs go one by one, at their entries alone.
use Rattle.std.proofs.Common.{ℕ, zero, suc, ◌+◌, Bool, true, false, not, List, [], ◌∷◌, ◌++◌, ◌≡◌, refl, sym, ap, ◌∙◌, nat_eq, arith}
use Rattle.std.specs.Prelude.{Option, Some, None, if◌then◌else◌}
use Rattle.std.specs.List.{AllByRecursion}
use Rattle.rt_model.specs.Lists.{joined}
use Rattle.rt_model.specs.Tree.{Types}
use Rattle.rt_model.specs.World.{CallFault, Event, Meaning, Application}
use Rattle.rt_model.specs.State.{Fault, world_of, Item, Draw, Row, Feed, Make, Drop, Outcome, Done, Cut}
use Rattle.rt_model.specs.Heard.{Listener}
use Rattle.rt_model.specs.Run.{fault_of, with_next, called_once, run}
use Rattle.rt_model.specs.Boundary.{boundary_step}
use Rattle.rt_model.specs.Removal.{removed}
use Rattle.rt_model.specs.Commands.{commands}
use Rattle.rt_model.specs.Replay.{Entry, Build, Taken, Heard, Rerun, Poll, Effects, Made, Fed, Kept, Removed, Input, EventAt, WakeOf, WriteOf, MarkOf, Drain, Machine, due, step, is_due, start, ended_by, draw_number, drawn_on, draws, row_first, row_next, served, closed_at, settled, waiting, looked_where_quiet, then_looked, taken_in, take_next, further, heard_event, heard_first, one_more_unit, rested, outcome_of, polled, effects_run, change_by, rows_left}
use Rattle.rt_model.specs.Told.{Told, is_settled, count_entries}
use Rattle.rt_model.specs.Causes.{Limits, refusal, replay_within}
use Rattle.rt_model.specs.Reports.{Report, logs_of, is_opening, OpensWith, InputsFrom, OneEach, AllCount}
use Rattle.rt_model.specs.Headline.{last_machine}
use Rattle.rt_model.specs.Finished.{RanIsValid}
use Rattle.rt_model.proofs.FaultsOnce.{open_gate}
use Rattle.rt_model.proofs.ValidOnce.{done_is_valid}

-- all but the first
abbrev later_of : {A : Type 0} → List A → List A
later_of [] = []
later_of (x ∷ xs) = xs

-- what is left after these entries, and whether the build has begun
abbrev after_log : {A : Type 0} → List Entry → List A × Bool → List A × Bool
after_log [] at = at
after_log (Build ∷ log) at = after_log log (at.0, true)
after_log (Taken k ∷ log) at = after_log log (later_of at.0, at.1)
after_log (Heard s ∷ log) at = after_log log at
after_log (Rerun s ∷ log) at = after_log log at
after_log (Poll s ∷ log) at = after_log log at
after_log (Effects s ∷ log) at = after_log log at
after_log (Made s ∷ log) at = after_log log at
after_log (Fed s ∷ log) at = after_log log at
after_log (Kept s ∷ log) at = after_log log at
after_log (Removed s ∷ log) at = after_log log at

module _ {K : Types} where
  -- what is left, and whether the build has begun
  abbrev key : Machine K → List (Input K) × Bool
  key m = (m.inputs, m.built)

  ended_key : (m : Machine K) (r : Option (Item K)) (rest : List (Item K)) (o : Outcome K) → key (ended_by m r rest o) ≡ key m
  ended_key m r rest (Done w work) = refl
  ended_key m r rest (Cut w f) = refl

  drawn_key : (go : Machine K → Machine K) → ((u : Machine K) → key (go u) ≡ key u) → (m : Machine K) (i : Item K) (rest : List (Item K)) (o : Outcome K)
      → key (drawn_on go m i rest o) ≡ key m
  drawn_key go h m i rest (Done w work) = h (ended_by m (Some i) rest (Done w work))
  drawn_key go h m i rest (Cut w f) = refl

  draws_key : (items : List (Item K)) (m : Machine K) → key (draws items m) ≡ key m
  draws_key [] m = refl
  draws_key (Draw s side p k ∷ rest) m = drawn_key (λ u. draws rest u) (λ u. draws_key rest u) m (Draw s side p k) rest (draw_number m.state s side p k)
  draws_key (Row b i ∷ rest) m = refl
  draws_key (Feed s side p c ∷ rest) m = refl
  draws_key (Make s side p c ∷ rest) m = refl
  draws_key (Drop t s side ∷ rest) m = refl

  closed_at_key : (m : Machine K) (items : List (Item K)) (b : Bool) → key (closed_at m items b) ≡ key m
  closed_at_key m [] true = refl
  closed_at_key m [] false = refl
  closed_at_key m (i ∷ rest) b = refl

  closed_by_key : (m : Machine K) (d : Option Fault) → key (elim d as (λ z. Machine K) [ None ↦ closed_at m m.work m.unit | Some f ↦ m ]) ≡ key m
  closed_by_key m None = closed_at_key m m.work m.unit
  closed_by_key m (Some f) = refl

  quiet_key : (m : Machine K) (ls : List (Listener K)) → key (looked_where_quiet m ls) ≡ key m
  quiet_key m [] = refl
  quiet_key m (l ∷ ls) = refl

  taken_in_key : (m : Machine K) (i : Input K) → key (taken_in m i) ≡ key m
  taken_in_key m (EventAt name payload element bubbles) = refl
  taken_in_key m (WakeOf t) = refl
  taken_in_key m (WriteOf n v) = refl
  taken_in_key m (MarkOf s) = refl
  taken_in_key m (Drain messages) = refl

  take_key : (m : Machine K) (is : List (Input K)) → is ≡ m.inputs → key (take_next m is) ≡ (later_of m.inputs, m.built)
  take_key m [] h = ap (λ (xs : List (Input K)). (xs, m.built)) (sym h ∙ ap (λ (xs : List (Input K)). later_of xs) h)
  take_key m (i ∷ rest) h =
      let u : Machine K = record m { inputs = rest; taken = m.taken + 1; units = 0; default_enabled = true; listeners = [] } in
      quiet_key (taken_in u i) (waiting (taken_in u i)) ∙ taken_in_key u i ∙ ap (λ (xs : List (Input K)). (later_of xs, m.built)) h

module _ {K : Types} (app : Application K) where
  row_key : (go : Machine K → Machine K) → ((u : Machine K) → key (go u) ≡ key u) → (m : Machine K) (items : List (Item K)) → key (row_first app go m items) ≡ key m
  row_key go h m [] = refl
  row_key go h m (Row b i ∷ rest) =
      h (ended_by m (Some (Row b i)) rest (boundary_step app m.state b i)) ∙ ended_key m (Some (Row b i)) rest (boundary_step app m.state b i)
  row_key go h m (Draw s side p k ∷ rest) = refl
  row_key go h m (Feed s side p c ∷ rest) = refl
  row_key go h m (Make s side p c ∷ rest) = refl
  row_key go h m (Drop t s side ∷ rest) = refl

  row_by_key : (go : Machine K → Machine K) → ((u : Machine K) → key (go u) ≡ key u) → (m : Machine K) (d : Option Fault)
      → key (elim d as (λ z. Machine K) [ None ↦ row_first app go m m.work | Some f ↦ m ]) ≡ key m
  row_by_key go h m None = row_key go h m m.work
  row_by_key go h m (Some f) = refl

  served_zero : (m : Machine K) (d : Option Fault) → key (elim d as (λ z. Machine K) [ None ↦ draws m.work m | Some f ↦ m ]) ≡ key m
  served_zero m None = draws_key m.work m
  served_zero m (Some f) = refl

  served_suc : (go : Machine K → Machine K) → ((u : Machine K) → key (go u) ≡ key u) → (m : Machine K) (d : Option Fault)
      → key (elim d as (λ z. Machine K) [ None ↦ row_next app go (draws m.work m) | Some f ↦ m ]) ≡ key m
  served_suc go h m None = row_by_key go h (draws m.work m) (draws m.work m).dead ∙ draws_key m.work m
  served_suc go h m (Some f) = refl

  served_key : (n : ℕ) (m : Machine K) → key (served app n m) ≡ key m
  served_key zero m = served_zero m m.dead
  served_key (suc n) m = served_suc (λ u. served app n u) (λ u. served_key n u) m m.dead

  settled_key : (m : Machine K) → key (settled app m) ≡ key m
  settled_key m = let u : Machine K = served app (rows_left m.work) m in closed_by_key u u.dead ∙ served_key (rows_left m.work) m

  heard_fault : (m : Machine K) (l : Listener K) (ls : List (Listener K)) (n : Meaning K (Event K)) (o : Option CallFault)
      → key (elim o as (λ z. Machine K) [
        | None ↦
            then_looked
            (record m {
              state = commands app (with_next m.state n.next) l.origin None n.commands;
              event = Some n.answer;
              default_enabled = not n.answer.prevented;
              listeners = further app m n.answer ls;
            })
        | Some f ↦ record m { state = with_next m.state n.next; listeners = ls; dead = Some (fault_of f); refused = None }
      ])
      ≡ key m
  heard_fault m l ls n None =
      let u : Machine K = record m {
        state = commands app (with_next m.state n.next) l.origin None n.commands;
        event = Some n.answer;
        default_enabled = not n.answer.prevented;
        listeners = further app m n.answer ls;
      } in
      quiet_key u (waiting u)
  heard_fault m l ls n (Some f) = refl

  heard_event_key : (m : Machine K) (l : Listener K) (ls : List (Listener K)) (o : Option (Event K)) → key (heard_event app m l ls o) ≡ key m
  heard_event_key m l ls None = refl
  heard_event_key m l ls (Some event) =
      let n = app.handle l.handler event (world_of m.state l.origin None false) in
      heard_fault (record m { state = called_once m.state }) l ls n n.fault

  heard_first_key : (m : Machine K) (ls : List (Listener K)) → key (heard_first app m ls) ≡ key m
  heard_first_key m [] = refl
  heard_first_key m (l ∷ ls) = heard_event_key m l ls m.event

  either_key : (m u v : Machine K) (b : Bool) → key u ≡ key m → key v ≡ key m → key (if b then u else v) ≡ key m
  either_key m u v true p q = p
  either_key m u v false p q = q

  -- what an entry leaves
  change_key : (m : Machine K) (items : List (Item K)) (e : Entry) → key (change_by app m items e) ≡ after_log (e ∷ []) (key m)
  change_key m (Make s side p c ∷ rest) (Made t) = ended_key m (Some (Make s side p c)) rest (outcome_of app m.state (Make s side p c))
  change_key m (Feed s side p c ∷ rest) (Kept t) = ended_key m (Some (Feed s side p c)) rest (outcome_of app m.state (Feed s side p c))
  change_key m (Feed s side p c ∷ rest) (Fed t) = ended_key m (Some (Feed s side p c)) rest (outcome_of app m.state (Feed s side p c))
  change_key m (Drop child s side ∷ rest) (Removed t) =
      let this : Item K = Drop child s side in
      either_key m (ended_by m (Some this) rest (removed app m.state t)) (ended_by m (Some this) (this ∷ rest) (removed app m.state t)) (nat_eq t child)
      (ended_key m (Some this) rest (removed app m.state t))
      (ended_key m (Some this) (this ∷ rest) (removed app m.state t))
  change_key m [] Build = ended_key (record m { built = true; unit = true }) None [] (run app m.state 0)
  change_key m (Draw s side p k ∷ rest) Build = ended_key (record m { built = true; unit = true }) None [] (run app m.state 0)
  change_key m (Row b i ∷ rest) Build = ended_key (record m { built = true; unit = true }) None [] (run app m.state 0)
  change_key m (Feed s side p c ∷ rest) Build = ended_key (record m { built = true; unit = true }) None [] (run app m.state 0)
  change_key m (Make s side p c ∷ rest) Build = ended_key (record m { built = true; unit = true }) None [] (run app m.state 0)
  change_key m (Drop x s side ∷ rest) Build = ended_key (record m { built = true; unit = true }) None [] (run app m.state 0)
  change_key m [] (Taken n) = let r : Machine K = rested app m in take_key r r.inputs refl
  change_key m (Draw s side p k ∷ rest) (Taken n) = let r : Machine K = rested app m in take_key r r.inputs refl
  change_key m (Row b i ∷ rest) (Taken n) = let r : Machine K = rested app m in take_key r r.inputs refl
  change_key m (Feed s side p c ∷ rest) (Taken n) = let r : Machine K = rested app m in take_key r r.inputs refl
  change_key m (Make s side p c ∷ rest) (Taken n) = let r : Machine K = rested app m in take_key r r.inputs refl
  change_key m (Drop x s side ∷ rest) (Taken n) = let r : Machine K = rested app m in take_key r r.inputs refl
  change_key m [] (Heard z) = heard_first_key m (waiting m)
  change_key m (Draw s side p k ∷ rest) (Heard z) = heard_first_key m (waiting m)
  change_key m (Row b i ∷ rest) (Heard z) = heard_first_key m (waiting m)
  change_key m (Feed s side p c ∷ rest) (Heard z) = heard_first_key m (waiting m)
  change_key m (Make s side p c ∷ rest) (Heard z) = heard_first_key m (waiting m)
  change_key m (Drop x s side ∷ rest) (Heard z) = heard_first_key m (waiting m)
  change_key m [] (Rerun z) = let r : Machine K = rested app m in ended_key (one_more_unit r) None [] (run app r.state z)
  change_key m (Draw s side p k ∷ rest) (Rerun z) = let r : Machine K = rested app m in ended_key (one_more_unit r) None [] (run app r.state z)
  change_key m (Row b i ∷ rest) (Rerun z) = let r : Machine K = rested app m in ended_key (one_more_unit r) None [] (run app r.state z)
  change_key m (Feed s side p c ∷ rest) (Rerun z) = let r : Machine K = rested app m in ended_key (one_more_unit r) None [] (run app r.state z)
  change_key m (Make s side p c ∷ rest) (Rerun z) = let r : Machine K = rested app m in ended_key (one_more_unit r) None [] (run app r.state z)
  change_key m (Drop x s side ∷ rest) (Rerun z) = let r : Machine K = rested app m in ended_key (one_more_unit r) None [] (run app r.state z)
  change_key m [] (Poll t) = let r : Machine K = rested app m in ended_key (one_more_unit r) None [] (polled app r.state t)
  change_key m (Draw s side p k ∷ rest) (Poll t) = let r : Machine K = rested app m in ended_key (one_more_unit r) None [] (polled app r.state t)
  change_key m (Row b i ∷ rest) (Poll t) = let r : Machine K = rested app m in ended_key (one_more_unit r) None [] (polled app r.state t)
  change_key m (Feed s side p c ∷ rest) (Poll t) = let r : Machine K = rested app m in ended_key (one_more_unit r) None [] (polled app r.state t)
  change_key m (Make s side p c ∷ rest) (Poll t) = let r : Machine K = rested app m in ended_key (one_more_unit r) None [] (polled app r.state t)
  change_key m (Drop x s side ∷ rest) (Poll t) = let r : Machine K = rested app m in ended_key (one_more_unit r) None [] (polled app r.state t)
  change_key m [] (Effects z) = let r : Machine K = rested app m in ended_key (one_more_unit r) None [] (effects_run app r.state z)
  change_key m (Draw s side p k ∷ rest) (Effects z) = let r : Machine K = rested app m in ended_key (one_more_unit r) None [] (effects_run app r.state z)
  change_key m (Row b i ∷ rest) (Effects z) = let r : Machine K = rested app m in ended_key (one_more_unit r) None [] (effects_run app r.state z)
  change_key m (Feed s side p c ∷ rest) (Effects z) = let r : Machine K = rested app m in ended_key (one_more_unit r) None [] (effects_run app r.state z)
  change_key m (Make s side p c ∷ rest) (Effects z) = let r : Machine K = rested app m in ended_key (one_more_unit r) None [] (effects_run app r.state z)
  change_key m (Drop x s side ∷ rest) (Effects z) = let r : Machine K = rested app m in ended_key (one_more_unit r) None [] (effects_run app r.state z)
  change_key m [] (Made t) = refl
  change_key m (Draw s side p k ∷ rest) (Made t) = refl
  change_key m (Row b i ∷ rest) (Made t) = refl
  change_key m (Feed s side p c ∷ rest) (Made t) = refl
  change_key m (Drop x s side ∷ rest) (Made t) = refl
  change_key m [] (Kept t) = refl
  change_key m (Draw s side p k ∷ rest) (Kept t) = refl
  change_key m (Row b i ∷ rest) (Kept t) = refl
  change_key m (Make s side p c ∷ rest) (Kept t) = refl
  change_key m (Drop x s side ∷ rest) (Kept t) = refl
  change_key m [] (Fed t) = refl
  change_key m (Draw s side p k ∷ rest) (Fed t) = refl
  change_key m (Row b i ∷ rest) (Fed t) = refl
  change_key m (Make s side p c ∷ rest) (Fed t) = refl
  change_key m (Drop x s side ∷ rest) (Fed t) = refl
  change_key m [] (Removed t) = refl
  change_key m (Draw s side p k ∷ rest) (Removed t) = refl
  change_key m (Row b i ∷ rest) (Removed t) = refl
  change_key m (Feed s side p c ∷ rest) (Removed t) = refl
  change_key m (Make s side p c ∷ rest) (Removed t) = refl

  step_key : (m : Machine K) (e : Entry) → key (step app m e) ≡ after_log (e ∷ []) (key m)
  step_key m e = settled_key (change_by app m m.work e) ∙ change_key m m.work e

-- entry by entry
after_one : {A : Type 0} (e : Entry) (log : List Entry) (at : List A × Bool) → after_log (e ∷ log) at ≡ after_log log (after_log (e ∷ []) at)
after_one Build log at = refl
after_one (Taken k) log at = refl
after_one (Heard s) log at = refl
after_one (Rerun s) log at = refl
after_one (Poll s) log at = refl
after_one (Effects s) log at = refl
after_one (Made s) log at = refl
after_one (Fed s) log at = refl
after_one (Kept s) log at = refl
after_one (Removed s) log at = refl

after_both : {A : Type 0} (log more : List Entry) (at : List A × Bool) → after_log (log ++ more) at ≡ after_log more (after_log log at)
after_both [] more at = refl
after_both (e ∷ log) more at =
    after_one e (log ++ more) at ∙ after_both log more (after_log (e ∷ []) at) ∙ ap (λ x. after_log more x) (sym (after_one e log at))

-- entries that open no report leave all
after_rest : {A : Type 0} (log : List Entry) (at : List A × Bool) → count_entries is_opening log ≡ 0 → after_log log at ≡ at
after_rest [] at h = refl
after_rest (Build ∷ log) at h = absurd (omega arith)
after_rest (Taken k ∷ log) at h = absurd (omega arith)
after_rest (Heard s ∷ log) at h = after_rest log at (omega arith)
after_rest (Rerun s ∷ log) at h = after_rest log at (omega arith)
after_rest (Poll s ∷ log) at h = after_rest log at (omega arith)
after_rest (Effects s ∷ log) at h = after_rest log at (omega arith)
after_rest (Made s ∷ log) at h = after_rest log at (omega arith)
after_rest (Fed s ∷ log) at h = after_rest log at (omega arith)
after_rest (Kept s ∷ log) at h = after_rest log at (omega arith)
after_rest (Removed s ∷ log) at h = after_rest log at (omega arith)

after_opened : {A : Type 0} (first : Entry) (log : List Entry) (at : List A × Bool) → OpensWith first log → after_log log at ≡ after_log (first ∷ []) at
after_opened first [] at h = absurd h
after_opened first (e ∷ log) at h =
    after_one e log at ∙ after_rest log (after_log (e ∷ []) at) h.1 ∙ ap (λ (x : Entry). after_log (x ∷ []) at) h.0

module _ {K : Types} where
  inputs_done : (k : ℕ) (inputs : List (Input K)) (logs : List (List Entry)) (b : Bool) → InputsFrom k inputs logs → after_log (joined logs) (inputs, b) ≡ ([], b)
  inputs_done k [] [] b h = refl
  inputs_done k (input ∷ inputs) (log ∷ logs) b h =
      after_both log (joined logs) (input ∷ inputs, b)
      ∙ ap (λ x. after_log (joined logs) x) (after_opened (Taken k) log (input ∷ inputs, b) h.0)
      ∙ inputs_done (k + 1) inputs logs b h.1
  inputs_done k [] (log ∷ logs) b h = absurd h
  inputs_done k (input ∷ inputs) [] b h = absurd h

  all_done : (inputs : List (Input K)) (logs : List (List Entry)) (b : Bool) → OneEach inputs logs → after_log (joined logs) (inputs, b) ≡ ([], true)
  all_done inputs [] b h = absurd h
  all_done inputs (log ∷ logs) b h =
      after_both log (joined logs) (inputs, b)
      ∙ ap (λ x. after_log (joined logs) x) (after_opened Build log (inputs, b) h.0)
      ∙ inputs_done 1 inputs logs true h.1

  last_settled : (m : Machine K) (r : Told K) (rs : List (Told K)) → is_settled r.machine ≡ true → AllByRecursion (λ (x : Told K). is_settled x.machine ≡ true) rs
      → is_settled (last_machine m (r ∷ rs)) ≡ true
  last_settled m r [] h hs = h
  last_settled m r (q ∷ qs) h hs = last_settled r.machine q qs hs.0 hs.1

  some_settled : (inputs : List (Input K)) (m : Machine K) (reports : List Report) (told : List (Told K)) → OneEach inputs (logs_of reports) → AllCount reports told
      → AllByRecursion (λ (x : Told K). is_settled x.machine ≡ true) told → is_settled (last_machine m told) ≡ true
  some_settled inputs m [] told one counted settled = absurd one
  some_settled inputs m (report ∷ reports) [] one counted settled = absurd counted
  some_settled inputs m (report ∷ reports) (r ∷ rs) one counted settled = last_settled m r rs settled.0 settled.1

module _ {K : Types} (app : Application K) where
  within_key : (limits : Limits) (log : List Entry) (m v : Machine K) → replay_within app limits (Some m) log ≡ Some v → key v ≡ after_log log (key m)
  within_key limits [] m v h = let e : m ≡ v = cc in ap (λ (x : Machine K). key x) (sym e)
  within_key limits (e ∷ log) m v h =
      let o = open_gate app limits (refusal limits m) (is_due app (due app m) e) (step app m e) log v h in
      within_key limits log (step app m e) v o.2
      ∙ ap (λ x. after_log log x) (step_key app m e)
      ∙ sym (after_one e log (key m))

  pub ran_is_valid : RanIsValid app
  ran_is_valid props inputs limits taken reports ran =
      let m : Machine K = start app props inputs in
      let v : Machine K = last_machine m ran.told in
      let all : key v ≡ ([], true) = within_key limits (joined (logs_of reports)) m v (ran.done).within ∙ all_done inputs (logs_of reports) false (ran.done).one_each in
      done_is_valid app props inputs limits (joined (logs_of reports)) v (ran.done).within
      (ap (λ (x : List (Input K) × Bool). x.1) all)
      (some_settled inputs m reports ran.told (ran.done).one_each (ran.recorded).counted (ran.recorded).settled)
      (ap (λ (x : List (Input K) × Bool). x.0) all)
