-- Renders while suspended among entries: what holds between them.
use Rattle.std.proofs.Common.{inr, ℕ, Bool, true, false, ◌&&◌, List, [], ◌∷◌, ◌≡◌, ◌≤◌, inl, refl, sym, ap, ◌∙◌, subst, arith}
use Rattle.std.specs.Prelude.{Option, Some, None, if◌then◌else◌}
use Rattle.rt_model.specs.Lists.{at}
use Rattle.rt_model.specs.Tree.{Types}
use Rattle.rt_model.specs.World.{Application}
use Rattle.rt_model.specs.Laws.{IsLawful}
use Rattle.rt_model.specs.State.{Fault, Scope, State, Item, Outcome, Done, Cut}
use Rattle.rt_model.specs.Next.{Work, RerunScope, PollTask, RunEffects, at_rest}
use Rattle.rt_model.specs.Commands.{unqueued}
use Rattle.rt_model.specs.Run.{run}
use Rattle.rt_model.specs.Replay.{Entry, Rerun, Poll, Input, Machine, one_more_unit, rested, polled, ended_by, is_due, due, change_by, step, settled, outcome_of, rows_left, replay_on, start}
use Rattle.rt_model.specs.Causes.{Limits}
use Rattle.rt_model.specs.Rendering.{entry_of, rendering_rest, rendering_next, at_state, rendering_due_at, rendering_due, rendering_step_at, renders_on}
use Rattle.rt_model.specs.Sentences.{is_open, CurrentOrOwed}
use Rattle.rt_model.proofs.Begun.{Good}
use Rattle.rt_model.proofs.MachineFrames.{polled_later, change_follows}
use Rattle.rt_model.proofs.NumbersStand.{change_good, due_match}
use Rattle.rt_model.proofs.Maps.{by_test}
use Rattle.rt_model.proofs.Stands.{Stands}
use Rattle.rt_model.specs.Lasting.{IsRooted}
use Rattle.rt_model.proofs.OneLogOnly.{same_entry-true}
use Rattle.rt_model.proofs.SideRuns.{polled_stay}
use Rattle.rt_model.proofs.NumbersRun.{polled_idle}
use Rattle.rt_model.proofs.StepFrames.{follows_later}
use Rattle.rt_model.proofs.Turns.{stay_stands}
use Rattle.law_moves.specs.Moves.{Move, Silent, Closed, Logged, entries, IsSettled, IsLogged, Leads}
use Rattle.law_moves.specs.Reached.{Reached}
use Rattle.law_moves.proofs.Ways.{start_reached, reached_moved}
use Rattle.law_moves.proofs.Fuel.{fuel_suffices}
use Rattle.law_moves.proofs.Insides.{alive_before}
use Rattle.law_moves.proofs.Logs.{Silently, settles, logs_are_moves}
use Rattle.law_moves.proofs.Twigs.{SameTwigs}
use Rattle.law_moves.proofs.Woven.{Whole, Woven, idle_whole, woven_same}
use Rattle.law_moves.proofs.Weaves.{Knows, knows_of, run_whole}
use Rattle.law_moves.proofs.Opens.{calm_twigs}
use Rattle.law_moves.proofs.Everywhere.{WovenOn, calm_whole, begun_on, rested_whole, rested_knows, ReadyAt, move_ready, moves_ready, reached_ready}
use Rattle.law_moves.specs.Rendered.{Stretch, Ordinary, Suspended, Stretches, RenderedAreCurrentOrOwed, AllRenderedAreCurrentOrOwed}
use Rattle.law_moves.proofs.Limited.{limits_here, some_limits}
use Rattle.law_moves.proofs.Ran.{polled_calm}
use Rattle.law_moves.proofs.Owed.{rows_of}
use Rattle.law_moves.proofs.Passed.{rendering_stay, rendering_later, rendering_holds}
use Rattle.law_moves.proofs.Moved.{rest_holding, calm_o_holding, moves_hold, reached_holds}
use Rattle.law_moves.proofs.Moving.{Holding, HoldingOn, ended, run_alone}
use Rattle.law_moves.proofs.Settled.{each_entry, current_or_owed, closed_rows}

no_entry : (e : Entry) (es : List Entry) → e ∷ es ≡ [] → ⊥
no_entry e es h = cc

module _ {K : Types} where
  same_machine : (m v : Machine K) → Some m ≡ Some v → m ≡ v
  same_machine m v h = cc

  ended_built : (m : Machine K) (r : Option (Item K)) (rest : List (Item K)) (o : Outcome K) → (ended_by m r rest o).built ≡ m.built
  ended_built m r rest (Done v work) = refl
  ended_built m r rest (Cut v fault) = refl

  ended_unit : (m : Machine K) (r : Option (Item K)) (rest : List (Item K)) (o : Outcome K) → (ended_by m r rest o).unit ≡ m.unit
  ended_unit m r rest (Done v work) = refl
  ended_unit m r rest (Cut v fault) = refl

module _ {K : Types} (app : Application K) (lawful : IsLawful K app) where
  abbrev HoldsOn : Machine K → Type 0
  HoldsOn m = HoldingOn app lawful (Unit {0}) m

  -- what holds between entries once the build has begun
  record Between (m : Machine K) : Type 0 where
    ready : ReadyAt app lawful m
    holds : HoldsOn m
    built : m.dead ≡ None → m.built ≡ true
    settled : IsSettled m

  -- moves without an entry leave it built
  silent_built : (limits : Limits) (m v : Machine K) (moves : List Move) → Leads app limits m moves v → entries moves ≡ [] → m.built ≡ true → v.built ≡ true
  silent_built limits m v [] leads none built = ap (λ (x : Machine K). x.built) leads ∙ built
  silent_built limits m v (Silent ∷ moves) leads none built =
      let h = leads.1 in
      silent_built limits leads.0 v moves leads.2 none (ap (λ (x : Machine K). x.built) h.gives ∙ ended_built m (Some h.item) h.later (outcome_of app m.state h.item) ∙ built)
  silent_built limits m v (Closed ∷ moves) leads none built =
      let h = leads.1 in
      silent_built limits leads.0 v moves leads.2 none (ap (λ (x : Machine K). x.built) h.gives ∙ built)
  silent_built limits m v (Logged e ∷ moves) leads none built = absurd (no_entry e (entries moves) none)

  -- after a change the silent moves follow
  settled_between : (z : Machine K) → ReadyAt app lawful z → HoldsOn z → (z.dead ≡ None → z.built ≡ true) → Between (settled app z)
  settled_between z ready holds built =
      let limits : Limits = record { units = 0; height = 0; drain = 0 } in
      let s : Silently app limits z (settled app z) = settles app limits z in
      record {
        ready = moves_ready app lawful limits z (settled app z) s.moves s.leads ready;
        holds = moves_hold app lawful (Unit {0}) limits z (settled app z) s.moves s.leads ready holds;
        built = λ alive. silent_built limits z (settled app z) s.moves s.leads s.none (built (alive_before app limits z (settled app z) s.moves z.dead refl s.leads alive));
        settled = (fuel_suffices app (rows_left z.work) (rows_left z.work) z (omega arith) (omega arith)).1;
      }

  -- an entry that is due
  entry_due : (o : Option Entry) (e : Entry) → is_due app o e ≡ true → o ≡ Some e
  entry_due None e h = cc
  entry_due (Some d) e h = ap Some (same_entry-true d e h)

  ordinary_step : (m : Machine K) (e : Entry) → Between m → is_due app (due app m) e ≡ true → Between (step app m e)
  ordinary_step m e b due_now =
      let fits = due_match app m e (b.ready).sound.awaits due_now in
      let found = limits_here app m fits.0 in
      let limits : Limits = found.0 in
      let z : Machine K = change_by app m m.work e in
      let logged : IsLogged app limits m e z = record { settled = b.settled; within = found.1; due_is = entry_due (due app m) e due_now; gives = refl } in
      let good : Good z = change_good app lawful m m.work e fits.1 fits.2 (b.ready).sound.rooted ((b.ready).sound.stands fits.0) refl in
      settled_between z
      (move_ready app lawful limits m z (Logged e) logged b.ready)
      (moves_hold app lawful (Unit {0}) limits m z (Logged e ∷ []) (z, logged, refl) b.ready b.holds)
      (λ lives. (good lives).built)

  -- what is passed over
  passed_between : (m : Machine K) → Between m → Between (at_state m (rendering_rest m.state))
  passed_between m b =
      let w : State K = rendering_rest m.state in
      let r : Machine K = at_state m w in
      let same : SameTwigs m.state w = calm_twigs m.state w (rendering_stay m.state) (rendering_later m.state) in
      record {
        ready =
            record {
              sound =
                  record {
                    rooted = (follows_later m.state w (rendering_later m.state)).rooted (b.ready).sound.rooted;
                    stands = λ alive. stay_stands m.state w m.work (rendering_stay m.state) ((b.ready).sound.stands alive);
                    awaits = λ alive. (b.ready).sound.awaits alive;
                  };
              idle = λ alive. record { holds = tt; idle = λ q. ((b.ready).idle alive).idle q };
              woven = λ alive. woven_same m.state w same m.work ((b.ready).woven alive);
            };
        holds = λ alive. rendering_holds app lawful (Unit {0}) tt m.state m.work (b.holds alive);
        built = b.built;
        settled = b.settled;
      }

  -- a change that begins a unit where no work is open
  begun_between : (r : Machine K) (e : Entry) (o : Outcome K) → Between r → r.dead ≡ None → r.work ≡ [] → change_by app r [] e ≡ ended_by (one_more_unit (rested app r)) None [] o
      → WovenOn (ended_by (one_more_unit (rested app r)) None [] o) → HoldsOn (ended_by (one_more_unit (rested app r)) None [] o) → Between (settled app (change_by app r [] e))
  begun_between r e o b alive idle is woven holds =
      subst (λ (x : Machine K). Between (settled app x)) (sym is)
      (settled_between z
      (record {
        sound =
            record {
              rooted = subst (λ (x : Machine K). IsRooted x.state) is ((change_follows app lawful r [] e).rooted (b.ready).sound.rooted);
              stands = λ lives. (good lives).stands;
              awaits = λ lives. inl (good lives).built;
            };
        idle = λ lives. record { holds = tt; idle = λ q. let absurdity : true ≡ false = sym (ap (λ (c : Bool). c && z.unit) (good lives).built ∙ unit) ∙ q in cc };
        woven = woven;
      })
      holds (λ lives. (good lives).built))
    where
      z : Machine K
      z = ended_by (one_more_unit (rested app r)) None [] o

      unit : z.unit ≡ true
      unit = ended_unit (one_more_unit (rested app r)) None [] o

      good : Good z
      good =
          subst (λ (x : Machine K). Good x) is
          (change_good app lawful r [] e tt (inl (b.built alive)) (b.ready).sound.rooted (subst (λ (xs : List (Item K)). Stands r.state xs) idle ((b.ready).sound.stands alive)) idle)

  render_rerun : (r : Machine K) (s : ℕ) → Between r → r.dead ≡ None → r.work ≡ [] → Between (settled app (change_by app r [] (Rerun s)))
  render_rerun r s b alive idle =
      let v : State K = at_rest r.state in
      let k : Knows r.state = knows_of r.state [] (subst (λ (xs : List (Item K)). Stands r.state xs) idle ((b.ready).sound.stands alive)) in
      let whole : Whole r.state [] = idle_whole r.state (subst (λ (xs : List (Item K)). Woven r.state xs) idle ((b.ready).woven alive)) in
      let h : Holding app lawful (Unit {0}) r.state [] = subst (λ (xs : List (Item K)). Holding app lawful (Unit {0}) r.state xs) idle (b.holds alive) in
      begun_between r (Rerun s) (run app v s) b alive idle refl
      (begun_on app lawful (one_more_unit (rested app r)) (run app v s) (run_whole app lawful v [] s (rested_knows app lawful r.state k) (rested_whole app lawful r.state whole) tt))
      (ended app lawful (Unit {0}) (one_more_unit (rested app r)) None [] (run app v s) (run_alone app lawful (Unit {0}) v s (rest_holding app lawful (Unit {0}) r.state h)))

  render_poll : (r : Machine K) (t : ℕ) → Between r → r.dead ≡ None → r.work ≡ [] → Between (settled app (change_by app r [] (Poll t)))
  render_poll r t b alive idle =
      let v : State K = at_rest r.state in
      let level : v.next.cells ≤ v.next.cells = omega arith in
      let whole : Whole r.state [] = idle_whole r.state (subst (λ (xs : List (Item K)). Woven r.state xs) idle ((b.ready).woven alive)) in
      let h : Holding app lawful (Unit {0}) r.state [] = subst (λ (xs : List (Item K)). Holding app lawful (Unit {0}) r.state xs) idle (b.holds alive) in
      begun_between r (Poll t) (polled app v t) b alive idle refl
      (begun_on app lawful (one_more_unit (rested app r)) (polled app v t)
      (calm_whole v [] (polled app v t) (polled_stay app lawful v t) (polled_later app lawful v t) (polled_idle app lawful (unqueued v t) t (at v.tasks t)) (rested_whole app lawful r.state whole)))
      (ended app lawful (Unit {0}) (one_more_unit (rested app r)) None [] (polled app v t)
      (calm_o_holding app lawful (Unit {0}) v (polled app v t) (polled_calm app lawful v.next.cells v t level) (polled_stay app lawful v t) (polled_later app lawful v t)
      (polled_idle app lawful (unqueued v t) t (at v.tasks t)) (rest_holding app lawful (Unit {0}) r.state h)))

  -- an entry of a render where no work is open
  taken_between : (r : Machine K) (e : Entry) (o : Option Work) → Between r → r.dead ≡ None → r.work ≡ [] → is_due app (entry_of o) e ≡ true → Between (step app r e)
  taken_between r e None b alive idle h = cc
  taken_between r e (Some (RunEffects s)) b alive idle h = cc
  taken_between r e (Some (RerunScope s)) b alive idle h =
      subst (λ (x : Entry). Between (step app r x)) (same_entry-true (Rerun s) e h)
      (subst (λ (xs : List (Item K)). Between (settled app (change_by app r xs (Rerun s)))) (sym idle) (render_rerun r s b alive idle))
  taken_between r e (Some (PollTask t)) b alive idle h =
      subst (λ (x : Entry). Between (step app r x)) (same_entry-true (Poll t) e h)
      (subst (λ (xs : List (Item K)). Between (settled app (change_by app r xs (Poll t)))) (sym idle) (render_poll r t b alive idle))

  render_step : (m : Machine K) (e : Entry) → Between m → is_due app (rendering_due app m) e ≡ true → Between (rendering_step_at app m m.work e)
  render_step m e b h = by_dead m.dead refl h
    where
      by_work : (work : List (Item K)) → m.work ≡ work → m.dead ≡ None → is_due app (rendering_due_at app m work) e ≡ true → Between (rendering_step_at app m work e)
      by_work [] idle alive q = taken_between (at_state m (rendering_rest m.state)) e (rendering_next m.state) (passed_between m b) alive idle q
      by_work (i ∷ rest) open_work alive q = ordinary_step m e b q

      by_dead : (o : Option Fault) → m.dead ≡ o → is_due app (elim o as (λ z. Option Entry) [ None ↦ rendering_due_at app m m.work | Some fault ↦ None ]) e ≡ true → Between (rendering_step_at app m m.work e)
      by_dead None alive q = by_work m.work refl alive q
      by_dead (Some fault) dead q = cc

  -- logs of renders, and of entries that are accepted in turn

  render_between : (log : List Entry) (m u : Machine K) → Between m → renders_on app (Some m) log ≡ Some u → Between u
  render_between [] m u b h = by_due (rendering_due app m) h
    where
      by_due : (o : Option Entry) → (elim o as (λ z. Option (Machine K)) [ None ↦ Some (at_state m (rendering_rest m.state)) | Some e ↦ None ]) ≡ Some u → Between u
      by_due None q = subst (λ (x : Machine K). Between x) (same_machine (at_state m (rendering_rest m.state)) u q) (passed_between m b)
      by_due (Some e) q = cc
  render_between (e ∷ log) m u b h =
      by_test (is_due app (rendering_due app m) e)
      (
      λ q.
      let x : Machine K = rendering_step_at app m m.work e in
      render_between log x u (render_step m e b q) (ap (λ (c : Bool). renders_on app (if c then Some (rendering_step_at app m m.work e) else None) log) (sym q) ∙ h)
      )
      (
      λ q.
      let absurdity : None ≡ Some u = ap (λ (c : Bool). renders_on app (if c then Some (rendering_step_at app m m.work e) else None) log) (sym q) ∙ h in
      cc
      )

  log_between : (log : List Entry) (m u : Machine K) → Between m → replay_on app (Some m) log ≡ Some u → Between u
  log_between [] m u b h = subst (λ (x : Machine K). Between x) (same_machine m u h) b
  log_between (e ∷ log) m u b h =
      by_test (is_due app (due app m) e)
      (λ q. log_between log (step app m e) u (ordinary_step m e b q) (ap (λ (c : Bool). replay_on app (if c then Some (step app m e) else None) log) (sym q) ∙ h))
      (
      λ q.
      let absurdity : None ≡ Some u = ap (λ (c : Bool). replay_on app (if c then Some (step app m e) else None) log) (sym q) ∙ h in
      cc
      )

  stretches_between : (stretches : List Stretch) (m v : Machine K) → Between m → Stretches app m stretches v → Between v
  stretches_between [] m v b h = subst (λ (x : Machine K). Between x) h b
  stretches_between (Ordinary log ∷ rest) m v b h = stretches_between rest h.0 v (log_between log m h.0 b h.1) h.2
  stretches_between (Suspended log ∷ rest) m v b h = stretches_between rest h.0 v (render_between log m h.0 b h.1) h.2

  log_settled : (log : List Entry) (m v : Machine K) → IsSettled m → replay_on app (Some m) log ≡ Some v → IsSettled v
  log_settled [] m v s h = subst (λ (x : Machine K). IsSettled x) (same_machine m v h) s
  log_settled (e ∷ log) m v s h =
      by_test (is_due app (due app m) e)
      (
      λ q.
      let x : Machine K = change_by app m m.work e in
      log_settled log (step app m e) v ((fuel_suffices app (rows_left x.work) (rows_left x.work) x (omega arith) (omega arith)).1)
      (ap (λ (c : Bool). replay_on app (if c then Some (step app m e) else None) log) (sym q) ∙ h)
      )
      (
      λ q.
      let absurdity : None ≡ Some v = ap (λ (c : Bool). replay_on app (if c then Some (step app m e) else None) log) (sym q) ∙ h in
      cc
      )

  from_log : (props : K.Props) (inputs : List (Input K)) (log : List Entry) (m : Machine K) → replay_on app (Some (start app props inputs)) log ≡ Some m → m.built ≡ true → Between m
  from_log props inputs log m accepted built =
      let found = some_limits app log (start app props inputs) m accepted in
      let limits : Limits = found.0 in
      let moves = logs_are_moves app limits (start app props inputs) m log refl found.1 in
      let reached : Reached app limits props inputs m = reached_moved app limits props inputs (start app props inputs) m moves.0 (start_reached app limits props inputs) moves.1 in
      record {
        ready = reached_ready app lawful limits props inputs m reached;
        holds = λ alive. reached_holds app lawful (Unit {0}) limits props inputs m reached (inr tt) built alive;
        built = λ alive. built;
        settled = log_settled log (start app props inputs) m refl accepted;
      }

module _ {K : Types} (app : Application K) where
  pub rendered_are_current_or_owed : RenderedAreCurrentOrOwed app
  rendered_are_current_or_owed lawful props inputs log m v stretches accepted built leads alive =
      let b : Between app lawful v = stretches_between app lawful stretches m v (from_log app lawful props inputs log m accepted built) leads in
      let h : Holding app lawful (Unit {0}) v.state v.work = b.holds alive in
      each_entry (λ (e : ℕ × Scope K). is_open v.state e.0 v.work ≡ false → CurrentOrOwed app v.state e.0 e.1) v.state.scopes h.orderly.unique
      (λ s x live closed. current_or_owed app lawful v.state v.work h.owes s x live (closed_rows v.state s v.work closed))

  pub all_rendered_are_current_or_owed : AllRenderedAreCurrentOrOwed app
  all_rendered_are_current_or_owed lawful props inputs log m v stretches accepted built leads alive idle =
      let b : Between app lawful v = stretches_between app lawful stretches m v (from_log app lawful props inputs log m accepted built) leads in
      let h : Holding app lawful (Unit {0}) v.state v.work = b.holds alive in
      each_entry (λ (e : ℕ × Scope K). CurrentOrOwed app v.state e.0 e.1) v.state.scopes h.orderly.unique
      (λ s x live. current_or_owed app lawful v.state v.work h.owes s x live (ap (λ (work : List (Item K)). rows_of s work) idle))
