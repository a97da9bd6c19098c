-- A poll, by what its call means.
use Rattle.std.proofs.Common.{◌≡◌, ℕ, ◌+◌, ◌-◌, ◌^◌, Bool, true, false, ◌&&◌, List, [], map, Option, Some, None, IsTrue, ◌↔◌, refl, ap, sym, ◌∙◌}
use Rattle.std.specs.Prelude.{is_some, min, option_map}
use Rattle.rt_model.specs.Tree.{Types}
use Rattle.rt_model.specs.OneLog.{types}
use Rattle.rt_model.specs.Lists.{at}
use Rattle.rt_model.specs.World.{Application, CallFault, Command, Meaning, TaskStep, pending, ready}
use Rattle.rt_model.specs.State as model
use Rattle.rt_model.specs.State.{Outcome, Done, Cut, TaskRow, world_of}
use Rattle.rt_model.specs.Commands.{commands, end, unqueued}
use Rattle.rt_model.specs.Next.{is_active, look, scope_of_task}
use Rattle.rt_model.specs.Run as run
use Rattle.rt_model.specs.Run.{called_once, with_next}
use Rattle.rt_model.specs.Replay.{is_ready, left_by_poll, poll_meant, polled, polled_apart, polled_apart_at, polled_apart_by, polled_at, polled_by, ready_at, ready_now}
use Rattle.author_calls.specs.Answers.{step_of}
use Rattle.run_records.specs.Records as calls
use Rattle.run_records.specs.Records.{command_of, firsts_of}
use Rattle.author_calls.specs.Calls.{meaning_of, refusal_of}
use Rattle.author_calls.specs.Turn as left
use Rattle.author_calls.specs.Turn.{Call, HadMemory, begun}
use Rattle.run_records.specs.World.{CallWorld}
use Rattle.author_calls.specs.declared.application.TaskStep as code_step
use Rattle.author_calls.specs.declared.application.TaskStep.TheVariants as steps
use Rattle.run_records.specs.declared.command.Command as code_command
use Rattle.run_records.specs.declared.faults.CxFault.{CxFault}
use Rattle.run_records.specs.declared.faults.CxFault.TheVariants as refusals
use Rattle.run_records.specs.declared.world.Firsts.{Firsts}
use Rattle.run_state.specs.Names.{fault_of}
use Rattle.run_state.specs.declared.names.Stop.{Stop}
use Rattle.run_state.specs.declared.names.Stop.TheVariants as stops
use Rattle.run_state.specs.declared.state.State as code
use Rattle.run_state.specs.Mirror.{Unkept, change_task, changed_task, counts, state_of}
use Rattle.rt_scopes.specs.Counts.{Counts, CountsCut}
use Rattle.rt_scopes.specs.Outcomes.{CutBy, stop_of}
use Rattle.rt_scopes.specs.Polls.{StandsWith}
use Rattle.rt_scopes.proofs.Counted.{counted_once, counts_cut}
use Rattle.rt_scopes.proofs.Onward.{refused}

module _ {K : Types} where
  -- a row that was found, by its state
  pub row_found : (o : Option (TaskRow K)) (a : K.TaskState) → option_map (λ (x : TaskRow K). x.state) o ≡ Some a → (x : TaskRow K) × (o ≡ Some x) × (x.state ≡ a)
  row_found None a h = cc
  row_found (Some x) a h = (x, refl, cc h)

  -- its scope
  pub row_scope : (w : model.State K) (t : ℕ) (x : TaskRow K) → at w.tasks t ≡ Some x → scope_of_task w t ≡ x.scope
  row_scope w t x found = ap (λ (o : Option (TaskRow K)). elim o [ None ↦ 0 | Some y ↦ y.scope ]) found

module _ {K : Types} (app : Application K) where
  not_found : (o : Option (TaskRow K)) → is_some o ≡ false → o ≡ None
  not_found None h = refl
  not_found (Some x) h = cc

  -- a poll left another state
  pub left_pending : (w v : model.State K) (t s : ℕ) (a : K.TaskState) (x : TaskRow K) (m : Meaning K (TaskStep K)) (asked : List (Command K))
      → at w.tasks t ≡ Some x → x.scope ≡ s → m.commands ≡ asked
      → v ≡ commands app (change_task w t (λ y. record y { state = a })) s (Some t) asked
      → v ≡ left_by_poll app w t x m (pending a)
  left_pending w v t s a x m asked found own are done =
      done
      ∙ ap (λ (o : Option (TaskRow K)). commands app (changed_task w t (λ y. record y { state = a }) o) s (Some t) asked) found
      ∙ ap (λ (n : ℕ). commands app (changed_task w t (λ y. record y { state = a }) (Some x)) n (Some t) asked) (sym own)
      ∙ ap (λ (cs : List (Command K)). commands app (changed_task w t (λ y. record y { state = a }) (Some x)) x.scope (Some t) cs) (sym are)

  -- a poll ended the task
  pub left_ready : (w v : model.State K) (t s : ℕ) (x : TaskRow K) (m : Meaning K (TaskStep K)) (asked : List (Command K))
      → x.scope ≡ s → m.commands ≡ asked
      → v ≡ end (commands app w s (Some t) asked) t
      → v ≡ left_by_poll app w t x m ready
  left_ready w v t s x m asked own are done =
      done
      ∙ ap (λ (n : ℕ). end (commands app w n (Some t) asked) t) (sym own)
      ∙ ap (λ (cs : List (Command K)). end (commands app w x.scope (Some t) cs) t) (sym are)

  -- the poll of a task that stands, without the look
  pub apart_as : (w u : model.State K) (t s : ℕ) (a : K.TaskState) (x : TaskRow K) → unqueued w t ≡ u → StandsWith u s t a x
      → polled_apart app w t ≡ polled_apart_by app (called_once u) t x (app.poll a (world_of u s (Some t) false))
  apart_as w u t s a x same stands =
      ap (λ (v : model.State K). polled_apart_at app v t (at v.tasks t)) same
      ∙ ap (λ (o : Option (TaskRow K)). polled_apart_at app u t o) stands.found
      ∙ ap (λ (b : K.TaskState). polled_apart_by app (called_once u) t x (app.poll b (world_of u x.scope (Some t) false))) stands.was
      ∙ ap (λ (n : ℕ). polled_apart_by app (called_once u) t x (app.poll a (world_of u n (Some t) false))) stands.own

  -- and of one that is gone
  pub apart_gone : (w u : model.State K) (t : ℕ) → unqueued w t ≡ u → is_some (at u.tasks t) ≡ false → polled_apart app w t ≡ Done u []
  apart_gone w u t same gone =
      ap (λ (v : model.State K). polled_apart_at app v t (at v.tasks t)) same
      ∙ ap (λ (o : Option (TaskRow K)). polled_apart_at app u t o) (not_found (at u.tasks t) gone)

  -- a task that is gone counts as ready
  pub ready_gone : (w u : model.State K) (t : ℕ) → unqueued w t ≡ u → is_some (at u.tasks t) ≡ false → true ≡ ready_now app w t
  ready_gone w u t same gone =
      sym (ap (λ (v : model.State K). ready_at app v t (at v.tasks t)) same ∙ ap (λ (o : Option (TaskRow K)). ready_at app u t o) (not_found (at u.tasks t) gone))

  -- what the poll of an active task that stands tells of it
  pub ready_as : (w u : model.State K) (t s : ℕ) (a : K.TaskState) (x : TaskRow K) → unqueued w t ≡ u → StandsWith u s t a x → is_active w t ≡ true
      → is_ready app (app.poll a (world_of u s (Some t) false)).answer ≡ ready_now app w t
  ready_as w u t s a x same stands active =
      let on : x.active ≡ true =
      sym (ap (λ (v : model.State K). is_active v t) same ∙ ap (λ (o : Option (TaskRow K)). elim o as (λ _. Bool) [ None ↦ false | Some y ↦ y.active ]) stands.found) ∙ active in
      sym
      (ap (λ (v : model.State K). ready_at app v t (at v.tasks t)) same
      ∙ ap (λ (o : Option (TaskRow K)). ready_at app u t o) stands.found
      ∙ ap (λ b. b && is_ready app (poll_meant app u t x).answer) on
      ∙ ap (λ (b : K.TaskState). is_ready app (app.poll b (world_of u x.scope (Some t) false)).answer) stands.was
      ∙ ap (λ (n : ℕ). is_ready app (app.poll a (world_of u n (Some t) false)).answer) stands.own)

  -- its call met no refusal
  pub apart_done : (w v : model.State K) (t : ℕ) (x : TaskRow K) (m : Meaning K (TaskStep K))
      → m.fault ≡ None
      → v ≡ left_by_poll app (with_next w m.next) t x m m.answer
      → polled_apart_by app w t x m ≡ Done v []
  apart_done w v t x m none left = rw none (ap (λ (y : model.State K). Done y []) (sym left))

  -- its call met a refusal
  pub apart_cut : (w v : model.State K) (t : ℕ) (x : TaskRow K) (m : Meaning K (TaskStep K)) (f : CallFault)
      → m.fault ≡ Some f
      → v ≡ with_next w m.next
      → polled_apart_by app w t x m ≡ Cut v (run.fault_of f)
  apart_cut w v t x m f some moved = rw some (ap (λ (y : model.State K). Cut y (run.fault_of f)) (sym moved))

  state_in : Outcome K → model.State K → model.State K
  state_in (Done v work) u = v
  state_in (Cut v fault) u = v

  -- then the look follows, unless it was cut
  look_follows : (w v u : model.State K) (t : ℕ) (x : TaskRow K) (m : Meaning K (TaskStep K))
      → polled_apart_by app w t x m ≡ Done v []
      → u ≡ look v
      → polled_by app w t x m ≡ Done u []
  unfolding state_in
  look_follows w v u t x m done looked = by m.fault refl done
    where
      by : (o : Option CallFault) → m.fault ≡ o
          → elim o as (λ _. Outcome K) [ None ↦ Done (left_by_poll app (with_next w m.next) t x m m.answer) [] | Some f ↦ Cut (with_next w m.next) (run.fault_of f) ] ≡ Done v []
          → elim o as (λ _. Outcome K) [ None ↦ Done (look (left_by_poll app (with_next w m.next) t x m m.answer)) [] | Some f ↦ Cut (with_next w m.next) (run.fault_of f) ] ≡ Done u []
      by None none h =
          ap (λ (o : Outcome K). Done (look (state_in o w)) []) h ∙ ap (λ (y : model.State K). Done y []) (sym looked)
      by (Some f) some h = absurd (cc h)

  cut_stays : (w v : model.State K) (fault : model.Fault) (t : ℕ) (x : TaskRow K) (m : Meaning K (TaskStep K))
      → polled_apart_by app w t x m ≡ Cut v fault
      → polled_by app w t x m ≡ Cut v fault
  cut_stays w v fault t x m cut = by m.fault refl cut
    where
      by : (o : Option CallFault) → m.fault ≡ o
          → elim o as (λ _. Outcome K) [ None ↦ Done (left_by_poll app (with_next w m.next) t x m m.answer) [] | Some f ↦ Cut (with_next w m.next) (run.fault_of f) ] ≡ Cut v fault
          → elim o as (λ _. Outcome K) [ None ↦ Done (look (left_by_poll app (with_next w m.next) t x m m.answer)) [] | Some f ↦ Cut (with_next w m.next) (run.fault_of f) ] ≡ Cut v fault
      by None none h = absurd (cc h)
      by (Some f) some h = h

  cut_at : (w v : model.State K) (t : ℕ) (fault : model.Fault) (o : Option (TaskRow K)) → polled_apart_at app w t o ≡ Cut v fault → polled_at app w t o ≡ Cut v fault
  cut_at w v t fault None cut = absurd (cc cut)
  cut_at w v t fault (Some x) cut = cut_stays (called_once w) v fault t x (poll_meant app w t x) cut

  -- a poll that was done, of a task that stands, and then the look
  pub polled_looked : (w v u : model.State K) (t : ℕ) (x : TaskRow K) → at w.tasks t ≡ Some x → polled_apart app w t ≡ Done v [] → u ≡ look v
      → polled app w t ≡ Done u []
  polled_looked w v u t x found done looked =
      ap (λ (o : Option (TaskRow K)). polled_at app (unqueued w t) t o) found
      ∙ look_follows (called_once (unqueued w t)) v u t x (poll_meant app (unqueued w t) t x)
      (ap (λ (o : Option (TaskRow K)). polled_apart_at app (unqueued w t) t o) (sym found) ∙ done) looked

  -- one that was cut
  pub polled_cut : (w v : model.State K) (t : ℕ) (stop : Stop) → CutBy (polled_apart app w t) v stop → CutBy (polled app w t) v stop
  polled_cut w v t stops.OutOfMemory cut = tt
  polled_cut w v t (stops.Fault what) cut = cut_at (unqueued w t) v t (fault_of what) (at w.tasks t) cut

  -- and one of a task that is gone
  pub polled_gone : (w u : model.State K) (t : ℕ) → unqueued w t ≡ u → is_some (at w.tasks t) ≡ false → polled app w t ≡ Done u []
  polled_gone w u t same gone =
      ap (λ (o : Option (TaskRow K)). polled_at app (unqueued w t) t o) (not_found (at w.tasks t) gone) ∙ ap (λ (v : model.State K). Done v []) same

module _ {C Q V H T E L : Type 0} where
  -- whether a task has ended, as the definitions say it of its step
  pub ready_as_told : (app : Application (types C Q V H T E L)) (b : Bool) (step : code_step.TaskStep T) → (IsTrue b ↔ (step ≡ steps.Ready)) → b ≡ is_ready app (step_of step)
  ready_as_told app b steps.Ready is = is.1 refl
  ready_as_told app true (steps.Pending state) is = absurd (cc (is.0 refl))
  ready_as_told app false (steps.Pending state) is = refl

module _ {P C Q V H T E L : Type 0} where
  -- whether a task is ready whose poll met no refusal
  pub ready_meant : (app : Application (types C Q V H T E L)) (d : code.State P C Q V H T E L) (cx : Call P C Q V H T E L) (seen : CallWorld P C Q V H T E L)
      (m : left.Meaning P C Q V H T E L (code_step.TaskStep T)) (s t : ℕ) (a : T) (step : code_step.TaskStep T) (kept : Unkept (types C Q V H T E L))
      → cx ≡ begun false seen
      → calls.world_of seen ≡ world_of (state_of kept d) s (Some t) false
      → (HadMemory m → meaning_of step_of m ≡ app.poll a (calls.world_of cx.world))
      → m.fault ≡ None
      → step ≡ m.answer
      → is_ready app (step_of step) ≡ is_ready app (app.poll a (world_of (state_of kept d) s (Some t) false)).answer
  ready_meant app d cx seen m s t a step kept begins world means none answer =
      let had : HadMemory m = λ (wanting : m.fault ≡ Some refusals.OutOfMemory). cc in
      let meant : meaning_of step_of m ≡ app.poll a (world_of (state_of kept d) s (Some t) false) =
      means had ∙ ap (λ (c : Call P C Q V H T E L). app.poll a (calls.world_of c.world)) begins ∙ ap (λ w. app.poll a w) world in
      ap (λ (z : TaskStep (types C Q V H T E L)). is_ready app z) (ap step_of answer ∙ ap (λ (z : Meaning (types C Q V H T E L) (TaskStep (types C Q V H T E L))). z.answer) meant)

  -- a poll whose call met no refusal, by what the code kept of it
  pub polled_ok : (app : Application (types C Q V H T E L)) (d mid : code.State P C Q V H T E L) (cx : Call P C Q V H T E L) (seen : CallWorld P C Q V H T E L)
      (m : left.Meaning P C Q V H T E L (code_step.TaskStep T)) (s t : ℕ) (a : T) (x : TaskRow (types C Q V H T E L)) (step : code_step.TaskStep T) (given : List (code_command.Command P C Q V H T E L)) (next : Firsts) (later : code.State P C Q V H T E L) (was now : ℕ) (kept : Unkept (types C Q V H T E L))
      → now ≡ min (was + 1) (2 ^ 64 - 1)
      → cx ≡ begun false seen
      → calls.world_of seen ≡ world_of (state_of kept d) s (Some t) false
      → (HadMemory m → meaning_of step_of m ≡ app.poll a (calls.world_of cx.world))
      → m.fault ≡ None
      → step ≡ m.answer
      → given ≡ m.commands
      → mid ≡ record d { next = next }
      → next ≡ m.next
      → at (state_of kept d).tasks t ≡ Some x
      → x.scope ≡ s
      → ((g : Unkept (types C Q V H T E L)) (y : TaskRow (types C Q V H T E L)) (n : Meaning (types C Q V H T E L) (TaskStep (types C Q V H T E L))) → at (state_of g mid).tasks t ≡ Some y → y.scope ≡ s → n.commands ≡ map command_of given → state_of g later ≡ left_by_poll app (state_of g mid) t y n (step_of step))
      → (h : Unkept (types C Q V H T E L)) × (polled_apart_by app (called_once (state_of kept d)) t x (app.poll a (world_of (state_of kept d) s (Some t) false)) ≡ Done (state_of h later) [])
      × (Counts was kept.calls → Counts now h.calls)
  polled_ok app d mid cx seen m s t a x step given next later was now kept raised begins world means none answer commands_are moved numbers found own left =
      let had : HadMemory m = λ (wanting : m.fault ≡ Some refusals.OutOfMemory). cc in
      let M : Meaning (types C Q V H T E L) (TaskStep (types C Q V H T E L)) = app.poll a (world_of (state_of kept d) s (Some t) false) in
      let meant : meaning_of step_of m ≡ app.poll a (world_of (state_of kept d) s (Some t) false) =
      means had ∙ ap (λ (c : Call P C Q V H T E L). app.poll a (calls.world_of c.world)) begins ∙ ap (λ w. app.poll a w) world in
      let is : mid ≡ record d { next = m.next } = moved ∙ ap (λ (n : Firsts). record d { next = n }) numbers in
      let asked : M.commands ≡ map command_of given = ap (λ (z : Meaning (types C Q V H T E L) (TaskStep (types C Q V H T E L))). z.commands) (sym meant) ∙ ap (λ (cs : List (code_command.Command P C Q V H T E L)). map command_of cs) (sym commands_are) in
      let there : at (state_of (counts kept) mid).tasks t ≡ Some x = ap (λ (y : code.State P C Q V H T E L). at (state_of (counts kept) y).tasks t) is ∙ found in
      let done = left (counts kept) x M there own asked in (
        counts kept,
        apart_done app (called_once (state_of kept d)) (state_of (counts kept) later) t x M
            (ap (λ (z : Meaning (types C Q V H T E L) (TaskStep (types C Q V H T E L))). z.fault) (sym meant) ∙ ap refusal_of none)
            (done
            ∙ ap (λ (y : code.State P C Q V H T E L). left_by_poll app (state_of (counts kept) y) t x M (step_of step)) is
            ∙ ap (λ (z : Meaning (types C Q V H T E L) (TaskStep (types C Q V H T E L))). left_by_poll app (with_next (called_once (state_of kept d)) z.next) t x M (step_of step)) meant
            ∙ ap (λ z. left_by_poll app (with_next (called_once (state_of kept d)) M.next) t x M z) (ap step_of answer ∙ ap (λ (z : Meaning (types C Q V H T E L) (TaskStep (types C Q V H T E L))). z.answer) meant)),
        counted_once was now kept.calls raised,
      )

  -- a poll whose call met a refusal
  pub polled_no : (app : Application (types C Q V H T E L)) (d mid : code.State P C Q V H T E L) (cx : Call P C Q V H T E L) (seen : CallWorld P C Q V H T E L)
      (m : left.Meaning P C Q V H T E L (code_step.TaskStep T)) (s t : ℕ) (a : T) (x : TaskRow (types C Q V H T E L)) (refusal : CxFault) (stop : Stop) (next : Firsts) (was now : ℕ) (kept : Unkept (types C Q V H T E L))
      → now ≡ min (was + 1) (2 ^ 64 - 1)
      → cx ≡ begun false seen
      → calls.world_of seen ≡ world_of (state_of kept d) s (Some t) false
      → (HadMemory m → meaning_of step_of m ≡ app.poll a (calls.world_of cx.world))
      → m.fault ≡ Some refusal
      → mid ≡ record d { next = next }
      → next ≡ m.next
      → stop ≡ stop_of refusal
      → (h : Unkept (types C Q V H T E L)) × CutBy (polled_apart_by app (called_once (state_of kept d)) t x (app.poll a (world_of (state_of kept d) s (Some t) false))) (state_of h mid) stop
      × CountsCut was kept.calls now h.calls stop
  polled_no app d mid cx seen m s t a x refusal stop next was now kept raised begins world means some moved numbers is = (
    counts kept,
    refused _ _ refusal stop is
        (λ f not_memory fault.
        let had : HadMemory m = λ (wanting : m.fault ≡ Some refusals.OutOfMemory). not_memory cc in
        let meant : meaning_of step_of m ≡ app.poll a (world_of (state_of kept d) s (Some t) false) =
        means had ∙ ap (λ (c : Call P C Q V H T E L). app.poll a (calls.world_of c.world)) begins ∙ ap (λ w. app.poll a w) world in
        apart_cut app (called_once (state_of kept d)) (state_of (counts kept) mid) t x (app.poll a (world_of (state_of kept d) s (Some t) false)) f
        (ap (λ (z : Meaning (types C Q V H T E L) (TaskStep (types C Q V H T E L))). z.fault) (sym meant) ∙ ap refusal_of some ∙ fault)
        (ap (λ (y : code.State P C Q V H T E L). state_of (counts kept) y) (moved ∙ ap (λ (n : Firsts). record d { next = n }) numbers)
        ∙ ap (λ (z : Meaning (types C Q V H T E L) (TaskStep (types C Q V H T E L))). with_next (called_once (state_of kept d)) z.next) meant)),
    counts_cut was kept.calls now (kept.calls + 1) stop (counted_once was now kept.calls raised),
  )
