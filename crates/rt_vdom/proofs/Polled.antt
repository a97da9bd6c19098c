-- A task that is polled at once.
use Rattle.std.proofs.Common.{ℕ, Bool, true, false, ◌&&◌, List, [], ◌≡◌, inl, refl, sym, ap, ◌∙◌, subst}
use Rattle.std.specs.Prelude.{Option, Some, None, Err, is_some, if◌then◌else◌}
use Rattle.rt_lemmas.proofs.Options.{some_same as some_fault}
use Rattle.rt_model.specs.Asides.{Advanced, left_of}
use Rattle.rt_model.specs.Laws.{IsLawful}
use Rattle.rt_model.specs.Lists.{at}
use Rattle.rt_model.specs.Next.{is_active}
use Rattle.rt_model.specs.OneLog.{types}
use Rattle.rt_model.specs.Tree.{Types}
use Rattle.rt_model.specs.View.{view}
use Rattle.rt_model.specs.World.{Application}
use Rattle.rt_model.specs.Commands.{unqueued}
use Rattle.rt_model.specs.Replay as replay
use Rattle.rt_model.specs.State as model
use Rattle.rt_model.proofs.Maps.{pick_true, pick_false}
use Rattle.law_behavior.specs.Doms.{AsidesLead}
use Rattle.law_behavior.proofs.Muted.{asides_show_nothing}
use Rattle.run_outside.specs.Ends.{fault_in}
use Rattle.run_outside.specs.declared.ended.Ended.TheVariants as ends
use Rattle.run_reports.specs.Seen.{limits_of}
use Rattle.rt_scopes.specs.Counts.{Counts}
use Rattle.rt_scopes.specs.Outcomes.{CutBy}
use Rattle.rt_scopes.specs.declared.scopes.Scopes.{Scopes}
use Rattle.run_state.specs.Mirror.{Unkept, state_of}
use Rattle.run_state.specs.Names.{fault_of as cause_of}
use Rattle.run_state.specs.declared.names.Stop.{Stop}
use Rattle.run_state.specs.declared.names.Stop.TheVariants as stops
use Rattle.rt_vdom.specs.Calls.{PolledNow, PollsNowAs, ran_fault}
use Rattle.run_reports.specs.Polls.{told_by}
use Rattle.rt_vdom.specs.Doms.{Stands, StateIn}
use Rattle.run_answers.specs.declared.stage.Stage.TheVariants as stages
use Rattle.rt_vdom.specs.declared.dom.VirtualDom.{VirtualDom}
use Rattle.run_reports.specs.declared.poll.Poll.{Poll}
use Rattle.run_answers.specs.declared.refusal.DomFault.{DomFault}
use Rattle.run_answers.specs.declared.refusal.DomFault.TheVariants as refusals

module _ {K : Types} (app : Application K) where
  pub polled_none : (w : model.State K) (t : ℕ) → is_active w t ≡ false → replay.polled_now app w t ≡ model.Done w []
  polled_none w t idle = pick_false (replay.polled_apart app w t) (model.Done w []) idle

  pub polled_is : (w : model.State K) (t : ℕ) → is_active w t ≡ true → replay.polled_now app w t ≡ replay.polled_apart app w t
  polled_is w t active = pick_true (replay.polled_apart app w t) (model.Done w []) active

  -- a task that isn't live is ready, and not active
  pub ready_gone : (w : model.State K) (t : ℕ) → is_some (at w.tasks t) ≡ false → true ≡ replay.ready_now app w t
  ready_gone w t gone = by (at w.tasks t) gone
    where
      by : (o : Option (model.TaskRow K)) → is_some o ≡ false → true ≡ replay.ready_at app (unqueued w t) t o
      by None h = refl
      by (Some x) h = cc

  pub gone_idle : (w : model.State K) (t : ℕ) → is_some (at w.tasks t) ≡ false → is_active w t ≡ false
  gone_idle w t gone = by (at w.tasks t) gone
    where
      by : (o : Option (model.TaskRow K)) → is_some o ≡ false → (elim o as (λ z. Bool) [ None ↦ false | Some x ↦ x.active ]) ≡ false
      by None h = refl
      by (Some x) h = cc

  -- a paused one isn't ready
  pub ready_paused : (w : model.State K) (t : ℕ) → is_some (at w.tasks t) ≡ true → is_active w t ≡ false → false ≡ replay.ready_now app w t
  ready_paused w t live idle = by (at w.tasks t) live idle
    where
      by : (o : Option (model.TaskRow K)) → is_some o ≡ true → (elim o as (λ z. Bool) [ None ↦ false | Some x ↦ x.active ]) ≡ false
          → false ≡ replay.ready_at app (unqueued w t) t o
      by None h i = cc
      by (Some x) h i =
          sym (ap (λ (b : Bool). b && replay.is_ready app ((replay.poll_meant app (unqueued w t) t x).answer)) i)

module _ {K : Types} where
  -- a poll that was cut by the fault that is answered
  pub cut_now : (o : model.Outcome K) (v : model.State K) (stop : Stop) (fault : model.Fault) → CutBy o v stop
      → fault_in (ends.Run stop) ≡ Some fault
      → o ≡ model.Cut v fault
  cut_now o v stops.OutOfMemory fault h why = cc
  cut_now o v (stops.Fault what) fault h why = h ∙ ap (λ (f : model.Fault). model.Cut v f) (some_fault (cause_of what) fault why)

module _ {P C Q V H T E L : Type 0} (meaning : P → Application (types C Q V H T E L)) (task : ℕ) (d : VirtualDom P C Q V H T E L) where
  -- nothing is done of a task that isn't active
  pub polls_none : (answer : Poll (Unit {0})) → d.stage ≡ stages.Built
      → ((g : Unkept (types C Q V H T E L)) → is_active (StateIn g d) task ≡ false)
      → ((g : Unkept (types C Q V H T E L)) → answer ≡ told_by (replay.ready_now (meaning d.app) (StateIn g d) task))
      → PolledNow meaning task d d answer
  polls_none answer built idle ready =
      record {
        built = built;
        state = λ g counts. (g, polled_none (meaning d.app) (StateIn g d) task (idle g), counts);
        ready = ready;
        stands =
            λ props whole w s.
            let none : is_active w task ≡ false =
            ap (λ (x : model.State (types C Q V H T E L)). is_active x task) (sym s.is) ∙ idle s.kept in
            let same : left_of w (replay.polled_now (meaning d.app) w task) ≡ w =
            ap (λ (o : model.Outcome (types C Q V H T E L)). left_of w o) (polled_none (meaning d.app) w task none) in
            subst (λ (x : model.State (types C Q V H T E L)). Stands meaning props whole x d) (sym same) s;
        shows =
            λ props whole w s.
            let none : is_active w task ≡ false =
            ap (λ (x : model.State (types C Q V H T E L)). is_active x task) (sym s.is) ∙ idle s.kept in
            ap (λ (o : model.Outcome (types C Q V H T E L)). view (left_of w o)) (polled_none (meaning d.app) w task none);
      }

  -- a dom after a poll
  abbrev pub after_poll : Scopes P C Q V H T E L → ℕ → VirtualDom P C Q V H T E L
  after_poll scopes calls = record d { calls = calls; machine = record (d.machine) { scopes = scopes } }

  -- one that is active is polled
  pub polls_one : (scopes : Scopes P C Q V H T E L) (calls : ℕ) (answer : Poll (Unit {0})) → d.stage ≡ stages.Built
      → IsLawful (types C Q V H T E L) (meaning d.app)
      → ((props : Q) (whole : Bool) → AsidesLead (meaning d.app) (limits_of d.limits) props whole)
      → ((g : Unkept (types C Q V H T E L)) → is_active (StateIn g d) task ≡ true)
      → ((g : Unkept (types C Q V H T E L)) → (h : Unkept (types C Q V H T E L))
      × (replay.polled_apart (meaning d.app) (StateIn g d) task ≡ model.Done (state_of h scopes.state) [])
      × (Counts d.calls g.calls → Counts calls h.calls))
      → ((g : Unkept (types C Q V H T E L)) → answer ≡ told_by (replay.ready_now (meaning d.app) (StateIn g d) task))
      → PolledNow meaning task d (after_poll scopes calls) answer
  polls_one scopes calls answer built lawful leads active comes is_ready =
      record {
        built = built;
        state =
            λ g counts.
            let came = comes g in
            (came.0, polled_is (meaning d.app) (StateIn g d) task (active g) ∙ came.1, came.2 counts);
        ready = is_ready;
        stands =
            λ props whole w s.
            let came = comes s.kept in
            let app : Application (types C Q V H T E L) = meaning d.app in
            let now : replay.polled_now app w task ≡ model.Done (state_of came.0 scopes.state) [] =
            ap (λ (x : model.State (types C Q V H T E L)). replay.polled_now app x task) (sym s.is)
            ∙ polled_is app (StateIn s.kept d) task (active s.kept)
            ∙ came.1 in
            record {
              built = built;
              idle = record { work = s.idle.work; hearing = s.idle.hearing; first = s.idle.first; course = s.idle.course };
              kept = came.0;
              is = sym (ap (λ (o : model.Outcome (types C Q V H T E L)). left_of w o) now);
              counted = came.2 s.counted;
              led = leads props whole lawful w (Advanced task) s.led tt (inl tt);
            };
        shows =
            λ props whole w s. asides_show_nothing (meaning d.app) lawful (limits_of d.limits) props whole w (Advanced task) s.led tt (inl tt);
      }

module _ {P C Q V H T E L : Type 0} (meaning : P → Application (types C Q V H T E L)) where
  -- what is said of a poll that was cut, by what is answered
  pub polls_now_err : (task : ℕ) (old new : VirtualDom P C Q V H T E L) (fault : DomFault)
      → ((f : model.Fault) → ran_fault fault ≡ Some f → (g : Unkept (types C Q V H T E L))
      → (h : Unkept (types C Q V H T E L))
      × (replay.polled_now (meaning old.app) (StateIn g old) task ≡ model.Cut (StateIn h new) f))
      → PollsNowAs meaning task old new (Err fault)
  polls_now_err task old new (refusals.Run what) h = h
  polls_now_err task old new refusals.NotBuilt h = tt
  polls_now_err task old new refusals.AlreadyBuilt h = tt
  polls_now_err task old new refusals.Failed h = tt
