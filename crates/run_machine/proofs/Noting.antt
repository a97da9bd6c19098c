-- What a turn writes down and whom it leaves waiting, and where units are spent.
use Rattle.std.proofs.Common.{ℕ, Bool, true, false, ◌⊎◌, inl, inr, List, [], ◌∷◌, ◌++◌, ◌≡◌, refl, sym, ap, ◌∙◌, Ok, Err}
use Rattle.std.proofs.lemmas.List.{append-nil}
use Rattle.std.specs.Prelude.{Option, Some, None, Result, IfErr, if◌then◌else◌}
use Rattle.rt_model.specs.OneLog.{types}
use Rattle.rt_model.specs.Tree.{Types, VComponent}
use Rattle.rt_model.specs.World.{Application}
use Rattle.rt_model.specs.State as model
use Rattle.rt_model.specs.State.{Outcome}
use Rattle.rt_model.specs.Next as next
use Rattle.rt_model.specs.Next.{at_rest}
use Rattle.rt_model.specs.Removal.{next_removed}
use Rattle.rt_model.specs.Replay as replay
use Rattle.rt_model.specs.Replay.{fed_child}
use Rattle.rt_model.specs.Causes as causes
use Rattle.rt_model.specs.Told.{opens}
use Rattle.run_state.specs.Mirror.{Unkept, state_of}
use Rattle.run_state.specs.Names.{fault_of}
use Rattle.run_state.specs.declared.names.Cause.{Cause}
use Rattle.run_state.specs.declared.names.Cause.TheVariants as faults
use Rattle.run_state.specs.declared.names.Stop.{Stop}
use Rattle.run_state.specs.declared.names.Stop.TheVariants as stops
use Rattle.run_state.specs.declared.state.State as code
use Rattle.law_moves.specs.Turn.{entries_at, entry_for}
use Rattle.run_machine.specs.Keeps.{UnlessBroke, LogsOne, Logs, LogsLater, Spends, TurnKeeps, WorkKeeps}
use Rattle.run_machine.specs.Machines.{HearsAs, BeginsAs, ServesAs, noted}
use Rattle.run_outside.specs.Ends.{fault_in}
use Rattle.run_outside.specs.declared.ended.Ended.{Ended}
use Rattle.run_outside.specs.declared.ended.Ended.TheVariants as ends
use Rattle.run_machine.specs.declared.machine.Machine.{Machine}
use Rattle.run_outside.proofs.Said.{if_err}

-- a fault of the run is none of the limits'
never_spent : {A : Type 0} (what : Cause) (units : ℕ) → Some (fault_of what) ≡ Some (model.OutOfTurns units) → A
never_spent (faults.IdsExhausted w) units h = absurd (cc h)
never_spent (faults.HookChanged scope index kept asked) units h = absurd (cc h)
never_spent (faults.NoSuchTask scope task) units h = absurd (cc h)
never_spent (faults.BadNode scope) units h = absurd (cc h)

-- a turn that never spends units
pub never_spends : (A : Type 0) {X : Type 0} (result : Result X Ended)
    → IfErr result (λ ended. (units : ℕ) → fault_in ended ≡ Some (model.OutOfTurns units) → ⊥)
    → IfErr result (λ ended. (units : ℕ) → fault_in ended ≡ Some (model.OutOfTurns units) → A)
never_spends A (Ok answer) never = tt
never_spends A (Err ended) never = λ units why. absurd (never units why)

pub stop_never_spent : {A : Type 0} (stop : Stop) (units : ℕ) → fault_in (ends.Run stop) ≡ Some (model.OutOfTurns units) → A
stop_never_spent stops.OutOfMemory units h = absurd (cc h)
stop_never_spent (stops.Fault what) units h = never_spent what units h

-- a fact of a turn, put through an inference
unless_broke : {A B : Type 0} (result : Result (Option ℕ) Ended) → UnlessBroke result A → (A → B) → UnlessBroke result B
unless_broke (Ok turn) a f = f a
unless_broke (Err ended) a f = λ fault why. f (a fault why)

-- a turn at open work writes down one entry or none, which begins no unit
abbrev Few : List replay.Entry → Type 0
Few es = (es ≡ []) ⊎ ((e : replay.Entry) × (es ≡ e ∷ []) × (opens e ≡ false))

one_few : (t : ℕ) (b : Bool) → Few ((if b then replay.Kept t else replay.Fed t) ∷ [])
one_few t true = inr (replay.Kept t, refl, refl)
one_few t false = inr (replay.Fed t, refl, refl)

module _ {K : Types} (app : Application K) where
  fed_few : (w : model.State K) (c : VComponent K) (o : Option ℕ)
      → Few (elim o as (λ x. List replay.Entry) [ None ↦ [] | Some t ↦ (if replay.keeps app w t c then replay.Kept t else replay.Fed t) ∷ [] ])
  fed_few w c None = inl refl
  fed_few w c (Some t) = one_few t (replay.keeps app w t c)

  few : (w : model.State K) (item : model.Item K) → Few (entries_at app w item)
  few w (model.Draw s side p k) = inl refl
  few w (model.Row b step) = inl refl
  few w (model.Feed s side p c) = fed_few w c (fed_child w s side p)
  few w (model.Make s side p c) = inr (replay.Made w.next_scope, refl, refl)
  few w (model.Drop t s side) = inr (replay.Removed (next_removed w t), refl, refl)

module _ {P C Q V H T E L : Type 0} where
  logs_few : (old new : Machine P C Q V H T E L) (es : List replay.Entry) → noted new ≡ noted old ++ es → Few es
      → (noted new ≡ noted old) ⊎ LogsLater old new
  logs_few old new es log (inl none) = inl (log ∙ ap (λ (l : List replay.Entry). noted old ++ l) none ∙ append-nil (noted old))
  logs_few old new es log (inr one) = inr (record { entry = one.0; logged = log ∙ ap (λ (l : List replay.Entry). noted old ++ l) one.1; later = one.2 })

  -- an item was served
  pub served_keeps : (app : Application (types C Q V H T E L)) (w : model.State (types C Q V H T E L)) (item : model.Item (types C Q V H T E L)) (old new : Machine P C Q V H T E L) (edits : ℕ)
      → noted new ≡ noted old ++ entries_at app w item
      → new.hearing ≡ old.hearing → new.default_enabled ≡ old.default_enabled
      → WorkKeeps old new (Ok (Some edits))
  served_keeps app w item old new edits log hearing default =
      record { logs = logs_few old new (entries_at app w item) log (few app w item); hearing = hearing; default_enabled = default; unspent = tt }

  refused_logs : (app : Application (types C Q V H T E L)) (deep : Option model.Fault) (o : Outcome (types C Q V H T E L)) (es : List replay.Entry) (old new : Machine P C Q V H T E L) (ended : Ended) (fault : model.Fault)
      → Few es → ServesAs app deep o es old new (Err ended) → fault_in ended ≡ Some fault → (noted new ≡ noted old) ⊎ LogsLater old new
  refused_logs app deep o es old new ends.Sink fault small serves why = absurd serves
  refused_logs app deep o es old new (ends.OutOfTurns units) fault small serves why = absurd serves
  refused_logs app deep o es old new (ends.TooDeep height) fault small serves why = inl (ap (λ (d : Machine P C Q V H T E L). noted d) serves.1)
  refused_logs app deep o es old new (ends.Run stops.OutOfMemory) fault small serves why = absurd (cc why)
  refused_logs app deep o es old new (ends.Run (stops.Fault what)) fault small serves why = logs_few old new es serves.1.logged small

  refused_unspent : (app : Application (types C Q V H T E L)) (deep : Option model.Fault) (o : Outcome (types C Q V H T E L)) (es : List replay.Entry) (old new : Machine P C Q V H T E L) (ended : Ended) (units : ℕ)
      → ServesAs app deep o es old new (Err ended) → fault_in ended ≡ Some (model.OutOfTurns units) → ⊥
  refused_unspent app deep o es old new ends.Sink units serves why = serves
  refused_unspent app deep o es old new (ends.OutOfTurns u) units serves why = serves
  refused_unspent app deep o es old new (ends.TooDeep height) units serves why = absurd (cc why)
  refused_unspent app deep o es old new (ends.Run stop) units serves why = stop_never_spent stop units why

  -- an item was refused
  pub refused_keeps : (app : Application (types C Q V H T E L)) (w : model.State (types C Q V H T E L)) (item : model.Item (types C Q V H T E L)) (deep : Option model.Fault) (o : Outcome (types C Q V H T E L))
      (old new : Machine P C Q V H T E L) (ended result : Ended)
      → ServesAs app deep o (entries_at app w item) old new (Err ended)
      → ((fault : model.Fault) → fault_in result ≡ Some fault → fault_in ended ≡ Some fault)
      → new.hearing ≡ old.hearing → new.default_enabled ≡ old.default_enabled
      → WorkKeeps old new (Err result)
  refused_keeps app w item deep o old new ended result serves same hearing default =
      record {
        logs = λ fault why. refused_logs app deep o (entries_at app w item) old new ended fault (few app w item) serves (same fault why);
        hearing = hearing;
        default_enabled = default;
        unspent = λ units why. refused_unspent app deep o (entries_at app w item) old new ended units serves (same (model.OutOfTurns units) why);
      }

  -- the build or a unit ended
  pub closed_keeps : (old new : Machine P C Q V H T E L) (edits : ℕ) → noted new ≡ noted old → new.hearing ≡ old.hearing → new.default_enabled ≡ old.default_enabled
      → WorkKeeps old new (Ok (Some edits))
  closed_keeps old new edits log hearing default = record { logs = inl log; hearing = hearing; default_enabled = default; unspent = tt }

  pub unclosed_keeps : (old new : Machine P C Q V H T E L) (ended : Ended) → fault_in ended ≡ None → new.hearing ≡ old.hearing → new.default_enabled ≡ old.default_enabled
      → WorkKeeps old new (Err ended)
  unclosed_keeps old new ended none hearing default =
      record { logs = λ fault why. absurd (cc (sym none ∙ why)); hearing = hearing; default_enabled = default; unspent = λ units why. absurd (cc (sym none ∙ why)) }

  -- such a turn is a turn, whatever of the open work was taken off before it
  pub work_keeps : (old mid new : Machine P C Q V H T E L) (result : Result (Option ℕ) Ended) → noted mid ≡ noted old → mid.hearing ≡ old.hearing → mid.default_enabled ≡ old.default_enabled
      → WorkKeeps mid new result → TurnKeeps old new result
  work_keeps old mid new result log hearing default h =
      record {
        logs = unless_broke result h.logs by;
        silent = λ none. (h.hearing ∙ hearing ∙ none, h.default_enabled ∙ default);
        spent = if_err result h.unspent (λ ended never units why. absurd (never units why));
      }
    where
      by : (noted new ≡ noted mid) ⊎ LogsLater mid new → Logs old new
      by (inl same) = inl (same ∙ log)
      by (inr one) = inr (record { entry = one.entry; logged = one.logged ∙ ap (λ (l : List replay.Entry). l ++ one.entry ∷ []) log; alone = λ begins. absurd (cc (sym begins ∙ one.later)) })

  -- memory was wanting where nothing is at work
  pub wanting_keeps : (old new : Machine P C Q V H T E L) → new.hearing ≡ old.hearing → new.default_enabled ≡ old.default_enabled → TurnKeeps old new (Err (ends.Run stops.OutOfMemory))
  wanting_keeps old new hearing default =
      record { logs = λ fault why. absurd (cc why); silent = λ none. (hearing ∙ none, default); spent = λ units why. absurd (cc why) }

  -- nothing is left to do
  pub resting_keeps : (old new : Machine P C Q V H T E L) → noted new ≡ noted old → new.hearing ≡ old.hearing → new.default_enabled ≡ old.default_enabled → TurnKeeps old new (Ok None)
  resting_keeps old new log hearing default = record { logs = inl log; silent = λ none. (hearing ∙ none, default); spent = tt }

  -- one entry was written down where nothing was at work
  noted_alone : (old new : Machine P C Q V H T E L) (e : replay.Entry) → old.work ≡ [] → old.first ≡ None → noted new ≡ noted old ++ e ∷ [] → Logs old new
  noted_alone old new e idle over log = inr (record { entry = e; logged = log; alone = λ begins. (idle, over) })

  -- a unit has begun
  pub begun_keeps : (old new : Machine P C Q V H T E L) (e : replay.Entry) (edits : ℕ) → old.work ≡ [] → old.first ≡ None → noted new ≡ noted old ++ e ∷ []
      → new.hearing ≡ old.hearing → new.default_enabled ≡ old.default_enabled → TurnKeeps old new (Ok (Some edits))
  begun_keeps old new e edits idle over log hearing default = record { logs = noted_alone old new e idle over log; silent = λ none. (hearing ∙ none, default); spent = tt }

  unbegun_logs : (app : Application (types C Q V H T E L)) (limits : causes.Limits) (o : Outcome (types C Q V H T E L)) (e : replay.Entry) (old mid new : Machine P C Q V H T E L) (ended : Ended) (fault : model.Fault)
      → old.work ≡ [] → old.first ≡ None → noted mid ≡ noted old
      → BeginsAs app limits o (e ∷ []) mid new (Err ended) → fault_in ended ≡ Some fault → Logs old new
  unbegun_logs app limits o e old mid new ends.Sink fault idle over log begins why = absurd begins
  unbegun_logs app limits o e old mid new (ends.OutOfTurns units) fault idle over log begins why = inl (begins.2 ∙ log)
  unbegun_logs app limits o e old mid new (ends.TooDeep height) fault idle over log begins why = absurd begins
  unbegun_logs app limits o e old mid new (ends.Run stops.OutOfMemory) fault idle over log begins why = absurd (cc why)
  unbegun_logs app limits o e old mid new (ends.Run (stops.Fault what)) fault idle over log begins why =
      noted_alone old new e idle over (begins.1.logged ∙ ap (λ (l : List replay.Entry). l ++ e ∷ []) log)

  -- no unit has begun: its own call was cut, or the units are spent
  pub unbegun_keeps : (app : Application (types C Q V H T E L)) (limits : causes.Limits) (o : Outcome (types C Q V H T E L)) (e : replay.Entry) (old mid new : Machine P C Q V H T E L) (ended : Ended)
      → old.work ≡ [] → old.first ≡ None → noted mid ≡ noted old → mid.work ≡ old.work → mid.first ≡ old.first
      → ((g : Unkept (types C Q V H T E L)) → state_of g (mid.scopes).state ≡ at_rest (state_of g (old.scopes).state))
      → BeginsAs app limits o (e ∷ []) mid new (Err ended)
      → ((units : ℕ) → fault_in ended ≡ Some (model.OutOfTurns units) → new ≡ mid)
      → new.hearing ≡ old.hearing → new.default_enabled ≡ old.default_enabled
      → TurnKeeps old new (Err ended)
  unbegun_keeps app limits o e old mid new ended idle over log work first rested begins stays hearing default =
      record {
        logs = λ fault why. unbegun_logs app limits o e old mid new ended fault idle over log begins why;
        silent = λ none. (hearing ∙ none, default);
        spent =
            λ units why.
            let same : new ≡ mid = stays units why in
            record {
              work = idle;
              over = over;
              logged = ap (λ (d : Machine P C Q V H T E L). noted d) same ∙ log;
              idle = ap (λ (d : Machine P C Q V H T E L). d.work) same ∙ work ∙ idle;
              done = ap (λ (d : Machine P C Q V H T E L). d.first) same ∙ first ∙ over;
              state = λ g. ap (λ (d : Machine P C Q V H T E L). state_of g (d.scopes).state) same ∙ rested g;
            };
      }

  -- a listener was called
  pub heard_keeps : (app : Application (types C Q V H T E L)) (m : replay.Machine (types C Q V H T E L)) (now : Unkept (types C Q V H T E L) → replay.Machine (types C Q V H T E L)) (old new : Machine P C Q V H T E L) (edits : ℕ)
      → old.work ≡ [] → old.first ≡ None
      → HearsAs app m (noted old) (noted new) now (Ok true)
      → (old.hearing ≡ None → new ≡ old)
      → TurnKeeps old new (Ok (Some edits))
  heard_keeps app m now old new edits idle over h silent =
      record {
        logs = noted_alone old new (replay.Heard ((h.1).first).origin) idle over (h.1).logged;
        silent = λ none. (ap (λ (d : Machine P C Q V H T E L). d.hearing) (silent none) ∙ none, ap (λ (d : Machine P C Q V H T E L). d.default_enabled) (silent none));
        spent = tt;
      }

  -- its call was cut
  pub unheard_keeps : (app : Application (types C Q V H T E L)) (m : replay.Machine (types C Q V H T E L)) (now : Unkept (types C Q V H T E L) → replay.Machine (types C Q V H T E L)) (old new : Machine P C Q V H T E L) (stop : Stop)
      → old.work ≡ [] → old.first ≡ None
      → HearsAs app m (noted old) (noted new) now (Err stop)
      → (old.hearing ≡ None → new ≡ old)
      → TurnKeeps old new (Err (ends.Run stop))
  unheard_keeps app m now old new stops.OutOfMemory idle over h silent =
      record {
        logs = λ fault why. absurd (cc why);
        silent = λ none. (ap (λ (d : Machine P C Q V H T E L). d.hearing) (silent none) ∙ none, ap (λ (d : Machine P C Q V H T E L). d.default_enabled) (silent none));
        spent = λ units why. absurd (cc why);
      }
  unheard_keeps app m now old new (stops.Fault what) idle over h silent =
      record {
        logs = λ fault why. noted_alone old new (replay.Heard ((h.one).first).origin) idle over (h.one).logged;
        silent = λ none. (ap (λ (d : Machine P C Q V H T E L). d.hearing) (silent none) ∙ none, ap (λ (d : Machine P C Q V H T E L). d.default_enabled) (silent none));
        spent = λ units why. never_spent what units why;
      }

  -- no listener waited, and the turn goes on
  pub passed_keeps : (old mid new : Machine P C Q V H T E L) (result : Result (Option ℕ) Ended) → old.work ≡ [] → old.first ≡ None
      → mid ≡ record old { hearing = mid.hearing }
      → (old.hearing ≡ None → mid ≡ old)
      → TurnKeeps mid new result → TurnKeeps old new result
  passed_keeps old mid new result idle over frame silent h =
      let log : noted mid ≡ noted old = ap (λ (d : Machine P C Q V H T E L). noted d) frame in
      record {
        logs = unless_broke result h.logs by;
        silent =
            λ none.
            let later = h.silent (ap (λ (d : Machine P C Q V H T E L). d.hearing) (silent none) ∙ none) in
            (later.0, later.1 ∙ ap (λ (d : Machine P C Q V H T E L). d.default_enabled) frame);
        spent =
            if_err result h.spent (λ ended spends units why.
            let s = spends units why in
            record {
              work = idle;
              over = over;
              logged = s.logged ∙ log;
              idle = s.idle;
              done = s.done;
              state = λ g. s.state g ∙ ap (λ (d : Machine P C Q V H T E L). at_rest (state_of g (d.scopes).state)) frame;
            });
      }
    where
      by : Logs mid new → Logs old new
      by (inl same) = inl (same ∙ ap (λ (d : Machine P C Q V H T E L). noted d) frame)
      by (inr one) = noted_alone old new one.entry idle over (one.logged ∙ ap (λ (d : Machine P C Q V H T E L). noted d ++ one.entry ∷ []) frame)
