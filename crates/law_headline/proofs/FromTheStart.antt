-- From the start of a session through finished reports to any entry of the next one.
use Rattle.std.proofs.Common.{true, false, ◌&&◌, not, List, [], ◌∷◌, ◌++◌, ◌≡◌, inl, inr, refl, sym, ap, ◌∙◌, subst, append_assoc}
use Rattle.std.proofs.lemmas.List.{append-nil, append_cancel_left}
use Rattle.std.specs.Prelude.{Option, Some, None, if◌then◌else◌, is_some}
use Rattle.std.specs.List.{AllByRecursion}
use Rattle.rt_model.specs.Lists.{joined}
use Rattle.rt_model.specs.Tree.{Types}
use Rattle.rt_model.specs.World.{Application}
use Rattle.rt_model.specs.Laws.{IsLawful}
use Rattle.rt_model.specs.State.{Fault, Item}
use Rattle.rt_model.specs.Replay.{Entry, Build, Input, Machine, no_listener, no_work, waiting, is_quiet, is_due, if_live, due_item, due, step, replay_on, start, ones}
use Rattle.rt_model.specs.Document.{Edit}
use Rattle.rt_model.specs.Caused.{caused_until}
use Rattle.rt_model.specs.Causes.{Limits, first_item, next_height, depth_refused, replay_within, edits_at_depth}
use Rattle.rt_model.specs.Told.{Told, Telling, telling, told_by, told_entry, tell_log, tell_reports, edits_of}
use Rattle.rt_model.specs.Headline.{last_machine}
use Rattle.rt_model.specs.Sentences.{all_carried, AllMayCome}
use Rattle.rt_model.proofs.Conjunctions.{and-left, and-right}
use Rattle.rt_model.proofs.ToldReplayed.{First, first-of, log-replays, reports-replay, replay-append}
use Rattle.law_moves.proofs.Begun.{ones_above}
use Rattle.law_moves.specs.Moves.{moves_alone}
use Rattle.law_headline.proofs.Begins.{idle}
use Rattle.law_headline.specs.Carried.{UnitsCarryAnew, CutUnitsCarryAnew}
use Rattle.law_headline.proofs.Drawn.{Below}
use Rattle.law_moves.proofs.Limited.{alive_at, some_limits}
use Rattle.law_headline.proofs.Running.{open_come}
use Rattle.law_headline.proofs.EntriesCarry.{Between, entry_so}
use Rattle.law_headline.proofs.Faulted.{entry_faulted}

module _ {K : Types} where
  same_telling : (t u : Telling K) → Some t ≡ Some u → t ≡ u
  same_telling t u h = cc

  idle_work : (work : List (Item K)) → no_work work ≡ true → work ≡ []
  idle_work [] h = refl
  idle_work (i ∷ rest) h = cc

module _ {K : Types} (app : Application K) (lawful : IsLawful K app) (props : K.Props) (inputs : List (Input K)) (limits : Limits) where
  abbrev So : List Edit → Telling K → Type 0
  So before t = Between app lawful props inputs limits before t

  -- a log of such entries
  pub log_so : (before : List Edit) (log more : List Entry) (t u : Telling K) (last : Machine K) → So before t → tell_log app (Some t) log ≡ Some u → replay_within app limits (Some t.machine) (log ++ more) ≡ Some last
      → u.machine.dead ≡ None → So before u × (replay_within app limits (Some u.machine) more ≡ Some last)
  log_so before [] more t u last so tells go alive =
      subst (λ (x : Telling K). So before x × (replay_within app limits (Some x.machine) more ≡ Some last)) (same_telling t u tells) (so, go)
  log_so before (e ∷ log) more t u last so tells go alive =
      by_entry (told_entry app t e) refl tells (λ x next h rest. log_so before log more x u last next h rest alive)
    where
      by_entry : (o : Option (Telling K)) → told_entry app t e ≡ o → tell_log app o log ≡ Some u
          → ((x : Telling K) → So before x → tell_log app (Some x) log ≡ Some u → replay_within app limits (Some x.machine) (log ++ more) ≡ Some last → So before u × (replay_within app limits (Some u.machine) more ≡ Some last))
          → So before u × (replay_within app limits (Some u.machine) more ≡ Some last)
      by_entry None told h later = cc
      by_entry (Some x) told h later =
          let here : x.machine.dead ≡ None = alive_at app log x.machine u.machine (log-replays app log x u h) alive in
          let one = entry_so app lawful props inputs limits before (log ++ more) t x e last so go told here in
          later x one.0.next h one.1

  -- reports that are finished
  quiet_idle : (m : Machine K) → is_quiet m ≡ true → m.work ≡ []
  quiet_idle m h = idle_work m.work (and-right (not (is_some m.dead)) (no_work m.work) (and-left (not (is_some m.dead) && no_work m.work) (no_listener (waiting m)) h))

  quiet_alive : (m : Machine K) → is_quiet m ≡ true → m.dead ≡ None
  quiet_alive m h = by_dead m.dead (and-left (not (is_some m.dead)) (no_work m.work) (and-left (not (is_some m.dead) && no_work m.work) (no_listener (waiting m)) h))
    where
      by_dead : (o : Option Fault) → not (is_some o) ≡ true → o ≡ None
      by_dead None q = refl
      by_dead (Some fault) q = cc

  after_report : (before : List Edit) (t : Telling K) → So before t → is_quiet t.machine ≡ true → So (before ++ t.edits) (telling t.machine)
  after_report before t so quiet =
      let unit : t.machine.unit ≡ false =
      sym (ap (λ (o : Option Fault). moves_alone o t.machine.work t.machine.unit) so.alive ∙ ap (λ (xs : List (Item K)). moves_alone None xs t.machine.unit) (quiet_idle t.machine quiet)) ∙ so.settled in
      record {
        reached = so.reached;
        none_before = λ q. ap (λ (es : List Edit). all_carried es) (append-nil (before ++ t.edits)) ∙ so.none_before q;
        settled = so.settled;
        alive = so.alive;
        low = subst (λ (es : List Edit). Below t.machine.state.next.elements (all_carried es)) (sym (append-nil (before ++ t.edits))) so.low;
        phase = inl unit;
      }

  reports_so : (before : List Edit) (logs : List (List Entry)) (more : List Entry) (m last : Machine K) (told : List (Told K)) → So before (telling m) → tell_reports app m logs ≡ Some told
      → AllByRecursion (λ (r : Told K). is_quiet r.machine ≡ true) told → replay_within app limits (Some m) (joined logs ++ more) ≡ Some last
      → So (before ++ joined (edits_of told)) (telling (last_machine m told)) × (replay_within app limits (Some (last_machine m told)) more ≡ Some last)
  reports_so before [] more m last told so tells quiet go =
      subst (λ (rs : List (Told K)). So (before ++ joined (edits_of rs)) (telling (last_machine m rs)) × (replay_within app limits (Some (last_machine m rs)) more ≡ Some last)) (same_told [] told tells)
      (subst (λ (es : List Edit). So es (telling m)) (sym (append-nil before)) so, go)
    where
      same_told : (rs ss : List (Told K)) → Some rs ≡ Some ss → rs ≡ ss
      same_told rs ss h = ap (λ (o : Option (List (Told K))). elim o as (λ z. List (Told K)) [ None ↦ [] | Some x ↦ x ]) h
  reports_so before (log ∷ logs) more m last told so tells quiet go =
      let f : First app m log logs told = first-of app m log logs told tells in
      let t : Telling K = f.0 in
      let all_quiet : AllByRecursion (λ (r : Told K). is_quiet r.machine ≡ true) (told_by t ∷ f.1) = subst (λ (rs : List (Told K)). AllByRecursion (λ (r : Told K). is_quiet r.machine ≡ true) rs) (sym f.4) quiet in
      let on : replay_within app limits (Some m) (log ++ (joined logs ++ more)) ≡ Some last = ap (λ (es : List Entry). replay_within app limits (Some m) es) (sym (append_assoc log (joined logs) more)) ∙ go in
      let one = log_so before log (joined logs ++ more) (telling m) t last so f.2 on (quiet_alive t.machine all_quiet.0) in
      let rest = reports_so (before ++ t.edits) logs more t.machine last f.1 (after_report before t one.0 all_quiet.0) f.3 all_quiet.1 one.1 in
      subst (λ (rs : List (Told K)). So (before ++ joined (edits_of rs)) (telling (last_machine m rs)) × (replay_within app limits (Some (last_machine m rs)) more ≡ Some last)) f.4
      (subst (λ (es : List Edit). So es (telling (last_machine t.machine f.1))) (append_assoc before t.edits (joined (edits_of f.1))) rest.0, rest.1)

  start_so : So [] (telling (start app props inputs))
  start_so =
      record {
        reached = record { firsts = ones; above = ones_above; contexts = []; parts = []; comes = refl };
        none_before = λ q. refl;
        settled = refl;
        alive = refl;
        low = tt;
        phase = inl refl;
      }

module _ {K : Types} (app : Application K) where
  -- an accepted entry came where no fault had ended the run
  pub came_alive : (m v : Machine K) (e : Entry) → replay_on app (Some m) (e ∷ []) ≡ Some v → m.dead ≡ None
  came_alive m v e h = by_dead m.dead refl
    where
      by_dead : (o : Option Fault) → m.dead ≡ o → m.dead ≡ None
      by_dead None is = is
      by_dead (Some fault) is =
          let none : due app m ≡ None =
          ap (λ (o : Option Fault). if_live m.state (elim o as (λ z. Option Entry) [ None ↦ (if m.built then due_item app m m.work else Some Build) | Some f ↦ None ])) is in
          let absurdity : None ≡ Some v = sym (ap (λ (o : Option Entry). replay_on app (if is_due app o e then Some (step app m e) else None) []) none) ∙ h in
          cc

  pub units_carry_anew : UnitsCarryAnew app
  units_carry_anew lawful props inputs logs told log e t u edits tells quiet goes one grown = by_limits (some_limits app whole from u.machine accepted)
    where
      from : Machine K
      from = start app props inputs

      last : Machine K
      last = last_machine from told

      whole : List Entry
      whole = joined logs ++ (log ++ e ∷ [])

      before : List Edit
      before = joined (edits_of told)

      alone : replay_on app (Some t.machine) (e ∷ []) ≡ Some u.machine
      alone = log-replays app (e ∷ []) t u (ap (λ (o : Option (Telling K)). tell_log app o []) one)

      accepted : replay_on app (Some from) whole ≡ Some u.machine
      accepted =
          replay-append app (joined logs) (log ++ e ∷ []) (Some from)
          ∙ ap (λ (o : Option (Machine K)). replay_on app o (log ++ e ∷ [])) (reports-replay app from logs told tells)
          ∙ replay-append app log (e ∷ []) (Some last)
          ∙ ap (λ (o : Option (Machine K)). replay_on app o (e ∷ [])) (log-replays app log (telling last) t goes)
          ∙ alone

      by_limits : (limits : Limits) × (replay_within app limits (Some from) whole ≡ Some u.machine) → AllMayCome (all_carried (joined (edits_of told) ++ t.edits)) u.before edits
      by_limits found = by_dead u.machine.dead refl
        where
          limits : Limits
          limits = found.0

          reports : So app lawful props inputs limits before (telling last) × (replay_within app limits (Some last) (log ++ e ∷ []) ≡ Some u.machine)
          reports = reports_so app lawful props inputs limits [] logs (log ++ e ∷ []) from u.machine told (start_so app lawful props inputs limits) tells quiet found.1

          so : So app lawful props inputs limits before t × (replay_within app limits (Some t.machine) (e ∷ []) ≡ Some u.machine)
          so = log_so app lawful props inputs limits before log (e ∷ []) (telling last) t u.machine reports.0 goes reports.1 (came_alive t.machine u.machine e alone)

          these : (es : List Edit) → u.edits ≡ t.edits ++ es → AllMayCome (all_carried (before ++ t.edits)) u.before es → AllMayCome (all_carried (before ++ t.edits)) u.before edits
          these es same come = subst (λ (ds : List Edit). AllMayCome (all_carried (before ++ t.edits)) u.before ds) (append_cancel_left t.edits es edits (sym same ∙ grown)) come

          by_dead : (o : Option Fault) → u.machine.dead ≡ o → AllMayCome (all_carried (before ++ t.edits)) u.before edits
          by_dead None alive = let x = (entry_so app lawful props inputs limits before [] t u e u.machine so.0 so.1 one alive).0 in these x.edits x.grown x.come
          by_dead (Some fault) dead = let x = entry_faulted app lawful props inputs limits before [] t u e u.machine fault so.0 so.1 one dead in these x.edits x.grown x.come

  -- up to a place where no fault has ended the run
  module _ (lawful : IsLawful K app) (props : K.Props) (inputs : List (Input K)) (logs : List (List Entry)) (told : List (Told K)) (log : List Entry) (t : Telling K)
      (tells : tell_reports app (start app props inputs) logs ≡ Some told) (quiet : AllByRecursion (λ (r : Told K). is_quiet r.machine ≡ true) told)
      (goes : tell_log app (Some (telling (last_machine (start app props inputs) told))) log ≡ Some t) (alive : t.machine.dead ≡ None) where
    so_far : (limits : Limits) × Between app lawful props inputs limits (joined (edits_of told)) t
    so_far =
        let from : Machine K = start app props inputs in
        let last : Machine K = last_machine from told in
        let accepted : replay_on app (Some from) (joined logs ++ log) ≡ Some t.machine =
        replay-append app (joined logs) log (Some from)
        ∙ ap (λ (o : Option (Machine K)). replay_on app o log) (reports-replay app from logs told tells)
        ∙ log-replays app log (telling last) t goes in
        let found = some_limits app (joined logs ++ log) from t.machine accepted in
        let limits : Limits = found.0 in
        let reports = reports_so app lawful props inputs limits [] logs log from t.machine told (start_so app lawful props inputs limits) tells quiet found.1 in
        let on : replay_within app limits (Some last) (log ++ []) ≡ Some t.machine = ap (λ (es : List Entry). replay_within app limits (Some last) es) (append-nil log) ∙ reports.1 in
        (limits, (log_so app lawful props inputs limits (joined (edits_of told)) log [] (telling last) t t.machine reports.0 goes on alive).0)

    -- the edits up to any item that is refused next
    next_come : AllMayCome (all_carried (joined (edits_of told) ++ t.edits)) t.before (caused_until app t.before t.machine.state (first_item t.machine.work) t.first)
    next_come =
        let limits : Limits = so_far.0 in
        let so : Between app lawful props inputs limits (joined (edits_of told)) t = so_far.1 in
        elim so.phase [
          | inl rest ↦
              (let none : t.machine.work ≡ [] = idle app lawful limits props inputs t.machine so.reached alive rest in
              subst (λ (work : List (Item K)). AllMayCome (all_carried (joined (edits_of told) ++ t.edits)) t.before (caused_until app t.before t.machine.state (first_item work) t.first)) (sym none) tt)
          | inr o ↦ open_come app lawful props inputs limits (all_carried (joined (edits_of told) ++ t.edits)) t.before t.first t.machine o alive (first_item t.machine.work)
        ]

  pub cut_units_carry_anew : CutUnitsCarryAnew app
  cut_units_carry_anew lawful limits props inputs logs told log t edits tells quiet goes left = by_dead t.machine.dead refl left
    where
      Come : Type 0
      Come = AllMayCome (all_carried (joined (edits_of told) ++ t.edits)) t.before edits

      same_come : (es : List Edit) → t.edits ++ es ≡ t.edits ++ edits → AllMayCome (all_carried (joined (edits_of told) ++ t.edits)) t.before es → Come
      same_come es same h = subst (λ (ds : List Edit). AllMayCome (all_carried (joined (edits_of told) ++ t.edits)) t.before ds) (append_cancel_left t.edits es edits same) h

      by_depth : (o : Option Fault) → t.machine.dead ≡ None → edits_at_depth app t o ≡ t.edits ++ edits → Come
      by_depth None alive same = same_come [] (append-nil t.edits ∙ same) tt
      by_depth (Some fault) alive same =
          same_come (caused_until app t.before t.machine.state (first_item t.machine.work) t.first) same (next_come lawful props inputs logs told log t tells quiet goes alive)

      by_dead : (o : Option Fault) → t.machine.dead ≡ o
          → elim o as (λ z. List Edit) [ None ↦ edits_at_depth app t (depth_refused limits (next_height t.machine)) | Some fault ↦ t.edits ] ≡ t.edits ++ edits → Come
      by_dead None alive same = by_depth (depth_refused limits (next_height t.machine)) alive same
      by_dead (Some fault) dead same = same_come [] (append-nil t.edits ∙ same) tt
