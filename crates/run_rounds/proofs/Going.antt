-- Turns of a call, one after another, up to where its test holds or a fault comes.
use Rattle.std.proofs.Common.{ℕ, ◌+◌, Bool, true, false, ◌&&◌, not, List, [], ◌∷◌, ◌++◌, ◌≡◌, refl, sym, ap, ◌∙◌, subst, map, reverse, Ok, Err, inl, inr, append_assoc}
use Rattle.std.proofs.lemmas.List.{append-nil}
use Rattle.std.specs.Prelude.{nat_eq, Option, Some, None, option_map, if◌then◌else◌}
use Rattle.rt_edits.specs.declared.edit.Edit.{Edit}
use Rattle.tree_edits.specs.Documents.{edit_of}
use Rattle.rt_model.specs.Document as doc
use Rattle.rt_model.specs.Lists.{first_of}
use Rattle.rt_model.specs.OneLog.{types}
use Rattle.rt_model.specs.Tree as tree
use Rattle.rt_model.specs.World.{Application}
use Rattle.rt_model.specs.Laws.{IsLawful}
use Rattle.rt_model.specs.State as model
use Rattle.rt_model.specs.Next.{owes}
use Rattle.rt_model.specs.Replay as replay
use Rattle.rt_model.specs.Causes as causes
use Rattle.rt_model.specs.Causes.{refusal, replay_within, depth_refused, next_height, edits_at_refusal, edits_at_depth}
use Rattle.rt_model.specs.Told.{Telling, telling, tell_log, opens}
use Rattle.rt_model.specs.Sentences.{call_refusal}
use Rattle.rt_model.proofs.Maps.{by_test}
use Rattle.rt_model.proofs.ToldReplayed.{within-replays}
use Rattle.law_moves.proofs.Joins.{logs_join}
use Rattle.law_headline.proofs.Reports.{one_machine, one_telling}
use Rattle.run_reports.specs.Seen.{entry_of}
use Rattle.run_state.specs.Mirror.{Unkept, state_of}
use Rattle.law_moves.specs.Underway.{Rests}
use Rattle.law_behavior.specs.Doms.{Until, Unended, ends_by}
use Rattle.law_behavior.proofs.Loops.{unended_grows}
use Rattle.run_turns.specs.Counting.{CountsAlong}
use Rattle.run_machine.specs.Machines.{machine_of, noted}
use Rattle.run_outside.specs.Ends.{fault_in}
use Rattle.run_work.specs.Items.{work_of}
use Rattle.run_outside.specs.Hearings.{listeners_in}
use Rattle.run_machine.specs.Keeps.{Logs, Spends, TurnKeeps}
use Rattle.run_machine.specs.Stands.{Going, CameTo, StandsFor, StandsAt, TurnsAs}
use Rattle.run_outside.specs.declared.ended.Ended.{Ended}
use Rattle.run_machine.specs.declared.machine.Machine.{Machine}
use Rattle.run_machine.proofs.Quiet.{goes_none, goes_more, goes_came}
use Rattle.run_rounds.specs.Going.{Grown, GoneOn, GoneUpTo}

-- the fault with which a run stops is the one with which a call does, where its test fails at the spent units
calls_by : (u : ℕ) (d o : Option model.Fault) (b q s e t : Bool) (fault : model.Fault)
    → first_of d (first_of o (if b && q && s && e then Some (model.OutOfTurns u) else None)) ≡ Some fault
    → (fault ≡ model.OutOfTurns u → t ≡ false)
    → first_of d (first_of o (if q && s && not t then Some (model.OutOfTurns u) else None)) ≡ Some fault
calls_by u (Some f) o b q s e t fault h fails = h
calls_by u None (Some f) b q s e t fault h fails = h
calls_by u None None false q s e t fault h fails = cc
calls_by u None None true false s e t fault h fails = cc
calls_by u None None true true false e t fault h fails = cc
calls_by u None None true true true false t fault h fails = cc
calls_by u None None true true true true true fault h fails =
    let same : fault ≡ model.OutOfTurns u = sym (one h) in
    let absurdity : true ≡ false = fails same in
    cc
  where
    one : {a b : model.Fault} → Some a ≡ Some b → a ≡ b
    one k = cc
calls_by u None None true true true true false fault h fails = h

module _ {K : tree.Types} where
  calls_refusal : (limits : causes.Limits) (test : model.State K → Bool) (m : replay.Machine K) (fault : model.Fault)
      → refusal limits m ≡ Some fault → (fault ≡ model.OutOfTurns limits.units → test m.state ≡ false)
      → call_refusal limits test m ≡ Some fault
  calls_refusal limits test m fault h fails =
      calls_by limits.units m.dead (depth_refused limits (next_height m)) m.built (replay.is_quiet m) (nat_eq m.units limits.units)
      (owes m.state) (test m.state) fault h fails

module _ {K : tree.Types} (app : Application K) where
  -- an entry that begins no unit stays behind no test
  stays : (test : model.State K → Bool) (m : replay.Machine K) (log : List replay.Entry) (e : replay.Entry) → opens e ≡ false
      → Unended app test m log → Unended app test m (log ++ e ∷ [])
  stays test m [] e shut u = (λ o. let absurdity : true ≡ false = sym o ∙ shut in cc, λ z is. tt)
  stays test m (first ∷ log) e shut u = (u.0, λ z is. stays test z log e shut (u.1 z is))

  -- nothing is open where nothing is at work
  edits_quiet : (limits : causes.Limits) (t : Telling K) → (t.machine).dead ≡ None → (t.machine).work ≡ []
      → edits_at_refusal app limits t ≡ t.edits
  edits_quiet limits t alive idle =
      ap
      (λ (d : Option model.Fault). elim d as (λ z. List doc.Edit)
      [ None ↦ edits_at_depth app t (depth_refused limits (next_height t.machine)) | Some fault ↦ t.edits ])
      alive
      ∙ ap (λ (items : List (model.Item K)). edits_at_depth app t (depth_refused limits (next_height (record (t.machine) { work = items })))) idle

module _ {P C Q V H T E L : Type 0} (app : Application (types C Q V H T E L)) (lawful : IsLawful (types C Q V H T E L) app)
    (limits : causes.Limits) (r : Going (types C Q V H T E L)) (until : Until) where
  -- where nothing is at work the call goes on only where its test fails
  abbrev pub GoesAt : Machine P C Q V H T E L → Type 0
  GoesAt d = d.work ≡ [] → d.first ≡ None → (g : Unkept (types C Q V H T E L)) → ends_by until (state_of g (d.scopes).state) ≡ false

  -- where nothing is at work, the report so far
  pub resting_at : (edits : List doc.Edit) (d : Machine P C Q V H T E L) → StandsAt app limits r edits d → d.first ≡ None
      → StandsFor app limits r None edits d
  resting_at edits d s over = subst (λ (o : Option replay.Entry). StandsFor app limits r o edits d) (ap (λ o. option_map entry_of o) over) s

  grown_none : (d : Machine P C Q V H T E L) → Grown app limits r until d d
  grown_none d = record { more = []; logged = sym (append-nil (noted d)); unended = λ m go. tt }

  -- whatever the count is by now
  pub grown_along : (along : Option ℕ) (old new : Machine P C Q V H T E L) → Grown app limits r until old new
      → Grown app limits (record r { count = along }) until old new
  grown_along along old new h = record { more = h.more; logged = h.logged; unended = h.unended }

  grown_by : (edits : List doc.Edit) (old mid new : Machine P C Q V H T E L) → Grown app limits r until old mid
      → StandsAt app limits r edits mid → Logs mid new → GoesAt mid
      → Grown app limits r until old new
  grown_by edits old mid new h s (inl same) goes = record { more = h.more; logged = same ∙ h.logged; unended = h.unended }
  grown_by edits old mid new h s (inr one) goes =
      record {
        more = h.more ++ one.entry ∷ [];
        logged =
            one.logged ∙ ap (λ (l : List replay.Entry). l ++ one.entry ∷ []) h.logged ∙ append_assoc (noted old) h.more (one.entry ∷ []);
        unended =
            λ m go.
            by_test (opens one.entry)
            (
            λ q.
            let t = resting_at edits mid s (one.alone q).1 in
            let v : replay.Machine (types C Q V H T E L) = machine_of t.0 r.left r.taken mid in
            let all : replay.replay_on app (Some r.from) (r.opened ++ noted mid) ≡ Some v =
            within-replays app limits (r.opened ++ noted mid) r.from v t.1.so.accepted in
            let split : r.opened ++ noted mid ≡ (r.opened ++ noted old) ++ h.more =
            ap (λ (l : List replay.Entry). r.opened ++ l) h.logged ∙ sym (append_assoc r.opened (noted old) h.more) in
            let there : replay.replay_on app (Some m) h.more ≡ Some v =
            sym ((logs_join app limits (r.opened ++ noted old) h.more).1 r.from m go)
            ∙ ap (λ (l : List replay.Entry). replay.replay_on app (Some r.from) l) (sym split)
            ∙ all in
            unended_grows app (λ (x : model.State (types C Q V H T E L)). ends_by until x) m v h.more one.entry there (h.unended m go)
            (λ o. goes (one.alone q).0 (one.alone q).1 t.0)
            )
            (λ q. stays app (λ (x : model.State (types C Q V H T E L)). ends_by until x) m h.more one.entry q (h.unended m go));
      }

  -- silence lasts
  abbrev pub Silent : Machine P C Q V H T E L → Machine P C Q V H T E L → Type 0
  Silent old new = (new.hearing ≡ None) × (new.default_enabled ≡ old.default_enabled)

  still : (old mid new : Machine P C Q V H T E L) → Silent old mid → Silent mid new → Silent old new
  still old mid new first second = (second.0, second.1 ∙ first.1)

  -- nothing is at work, and no listener waits
  pub quiet_at : (g : Unkept (types C Q V H T E L)) (d : Machine P C Q V H T E L) → d.work ≡ [] → d.hearing ≡ None
      → replay.is_quiet (machine_of g r.left r.taken d) ≡ true
  quiet_at g d idle none =
      let v : replay.Machine (types C Q V H T E L) = machine_of g r.left r.taken d in
      λ i.
      replay.is_quiet
      (record v {
        work = ap (λ xs. work_of (reverse xs)) idle i;
        listeners = ap (λ o. listeners_in o) none i;
      })

  -- no turn yet
  pub gone_none : (edits : List doc.Edit) (now : Option (List Edit)) (d : Machine P C Q V H T E L) → StandsAt app limits r edits d
      → GoneOn app limits r until edits now now 0 d d
  gone_none edits now d s =
      record { on = goes_none app lawful limits r edits now d s; grown = grown_none d; silent = λ none. (none, refl) }

  -- one more turn
  pub gone_more : (along : Option ℕ) (edits : List doc.Edit) (before now after : Option (List Edit)) (count more all : ℕ) (old mid new : Machine P C Q V H T E L)
      → (h : GoneOn app limits r until edits before now count old mid)
      → all ≡ count + more
      → TurnsAs app limits (record r { count = along }) (edits ++ map edit_of (h.on).wrote) now after mid new (Ok (Some more))
      → TurnKeeps mid new (Ok (Some more))
      → GoesAt mid
      → GoneOn app limits (record r { count = along }) until edits before after all old new
  gone_more along edits before now after count more all old mid new h sum t keeps goes =
      record {
        on = goes_more app lawful limits r along edits before now after count more all mid new h.on sum t;
        grown = grown_along along old new (grown_by (edits ++ map edit_of (h.on).wrote) old mid new h.grown (h.on).stands keeps.logs goes);
        silent = λ none. still old mid new (h.silent none) (keeps.silent (h.silent none).0);
      }

  -- a fault after some turns
  pub gone_came : (along : Option ℕ) (edits : List doc.Edit) (before now after : Option (List Edit)) (count : ℕ) (old mid new : Machine P C Q V H T E L)
      (ended : Ended)
      → (h : GoneOn app limits r until edits before now count old mid)
      → TurnsAs app limits (record r { count = along }) (edits ++ map edit_of (h.on).wrote) now after mid new (Err ended)
      → TurnKeeps mid new (Err ended)
      → ((units : ℕ) → fault_in ended ≡ Some (model.OutOfTurns units) → along ≡ r.count)
      → GoesAt mid
      → (fault : model.Fault) → fault_in ended ≡ Some fault
      → GoneUpTo app limits (record r { count = along }) until edits before after fault old new
  gone_came along edits before now after count old mid new ended h t keeps stays goes fault why =
      let far : List doc.Edit = edits ++ map edit_of (h.on).wrote in
      let came : CameTo app limits (record r { count = along }) edits before after fault new =
      (goes_came app lawful limits r along edits before now after count mid new ended h.on t).0 fault why in
      let last : Telling (types C Q V H T E L) = (came.refused).last in
      record {
        came = came;
        grown = grown_along along old new (grown_by far old mid new h.grown (h.on).stands (keeps.logs fault why) goes);
        silent = λ none. still old mid new (h.silent none) (keeps.silent (h.silent none).0);
        cause =
            calls_refusal limits (λ (x : model.State (types C Q V H T E L)). ends_by until x) last.machine fault (came.refused).cause
            (
            λ out.
            let p : Spends mid new = keeps.spent limits.units (why ∙ ap (λ (f : model.Fault). Some f) out) in
            let s = resting_at far mid (h.on).stands p.over in
            ap (λ (x : replay.Machine (types C Q V H T E L)). ends_by until x.state) (sym (at_mid came p s))
            ∙ goes p.work p.over s.0
            );
        spent =
            λ units out.
            let p : Spends mid new = keeps.spent units (why ∙ ap (λ (f : model.Fault). Some f) out) in
            let s = resting_at far mid (h.on).stands p.over in
            let v : replay.Machine (types C Q V H T E L) = machine_of s.0 r.left r.taken mid in
            let told : Telling (types C Q V H T E L) = record { machine = v; before = s.1.before; first = s.1.first; edits = far } in
            let same : told ≡ last =
            one_telling told last
            (sym s.1.so.told
            ∙ ap (λ (l : List replay.Entry). tell_log app (Some (telling r.from)) (r.opened ++ l)) (sym p.logged)
            ∙ (came.refused).so.told) in
            let edits_same : far ≡ edits ++ map edit_of came.wrote =
            sym (edits_quiet app limits told s.1.rest.alive s.1.rest.idle)
            ∙ ap (λ (x : Telling (types C Q V H T E L)). edits_at_refusal app limits x) same
            ∙ (came.refused).edits_are in
            record {
              last = v;
              rests =
                  subst (λ (es : List doc.Edit). Rests app limits r.props r.inputs r.from (r.opened ++ noted new) es v) edits_same
                  (subst (λ (l : List replay.Entry). Rests app limits r.props r.inputs r.from (r.opened ++ l) far v) (sym p.logged) s.1);
              quiet = λ none. quiet_at s.0 mid p.work (h.silent none).0;
              kept = s.0;
              state = p.state s.0;
              idle = p.idle;
              over = p.done;
              along =
                  subst (λ (o : Option ℕ). CountsAlong o s.0.calls)
                  (sym (stays units (why ∙ ap (λ (f : model.Fault). Some f) out))) s.2;
            };
      }
    where
      -- the machine of the refusal is the one at which the units were spent
      at_mid : (came : CameTo app limits (record r { count = along }) edits before after fault new) (p : Spends mid new)
          → (s : StandsFor app limits r None (edits ++ map edit_of (h.on).wrote) mid)
          → machine_of s.0 r.left r.taken mid ≡ (((came.refused).last).machine)
      at_mid came p s =
          let v : replay.Machine (types C Q V H T E L) = machine_of s.0 r.left r.taken mid in
          one_machine v (((came.refused).last).machine)
          (sym s.1.so.accepted
          ∙ ap (λ (l : List replay.Entry). replay_within app limits (Some r.from) (r.opened ++ l)) (sym p.logged)
          ∙ (came.refused).so.accepted)
