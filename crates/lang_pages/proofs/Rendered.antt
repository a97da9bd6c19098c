-- A build, a render while suspended and a wake leave names.
use Rattle.std.proofs.Common.{arith, inl, inr, ℕ, Bool, true, false, List, [], ◌∷◌, ◌≡◌, refl, sym, ap, ◌∙◌, subst}
use Rattle.std.specs.Prelude.{Option, Some, None, if◌then◌else◌}
use Rattle.rt_model.specs.Lists.{Text}
use Rattle.rt_model.specs.Tree.{Types}
use Rattle.rt_model.specs.World.{Application}
use Rattle.rt_model.specs.Laws.{IsLawful}
use Rattle.rt_model.specs.State.{Fault, State, Item, Woken}
use Rattle.rt_model.specs.Asides.{Passed, resting}
use Rattle.rt_model.specs.Causes.{Limits}
use Rattle.rt_model.specs.Commands.{post}
use Rattle.rt_model.specs.Next.{Work, RerunScope, PollTask, RunEffects}
use Rattle.rt_model.specs.Rendering.{entry_of, at_state, rendering_rest, rendering_next, nothing_resolved, rendering_due_at, rendering_due, rendering_step_at, rendering_accepts, rendering_refusal, renders_within}
use Rattle.rt_model.specs.Replay.{Entry, Rerun, Poll, Machine, rows_left, settled, is_due, change_by, step, replay_on, start}
use Rattle.rt_model.specs.Told.{Telling}
use Rattle.rt_model.proofs.OneLogOnly.{same_entry-true}
use Rattle.rt_model.proofs.SideFrames.{post_stay, stay_rest}
use Rattle.rt_model.proofs.ToldReplayed.{within-replays}
use Rattle.law_moves.specs.Moves.{IsSettled}
use Rattle.law_moves.proofs.Asides.{aside_stay}
use Rattle.law_moves.proofs.Fuel.{fuel_suffices}
use Rattle.law_moves.proofs.Logs.{Silently, settles}
use Rattle.law_headline.proofs.Reports.{one_machine}
use Rattle.lang_lines.specs.Named.{AnswersNamed}
use Rattle.lang_lines.proofs.NamedStates.{NamedAt, stay_named}
use Rattle.lang_lines.proofs.NamedMoves.{NamedMachine, rerun_named, poll_named, moves_named, logs_named, start_named}
use Rattle.rt_served.specs.Serving.{Answered, BuildsTo, Opened, Renders}
use Rattle.lang_pages.specs.Pages.{IsPut}

module _ {K : Types} where
  -- a machine with names that needs an entry
  abbrev Went : Machine K → Type 0
  Went m = IsSettled m × NamedMachine m

module _ {K : Types} (app : Application K) (lawful : IsLawful K app) (answers : AnswersNamed app) where
  -- after a change the silent moves follow
  settled_named : (z : Machine K) → NamedMachine z → Went (settled app z)
  settled_named z h =
      let limits : Limits = record { units = 0; height = 0; drain = 0 } in
      let s : Silently app limits z (settled app z) = settles app limits z in (
        (fuel_suffices app (rows_left z.work) (rows_left z.work) z (omega arith) (omega arith)).1,
        moves_named app lawful answers limits z (settled app z) s.moves s.leads h,
      )

  -- what a render passes over
  passed_named : (w : State K) → NamedAt w [] → NamedAt (rendering_rest w) []
  passed_named w h = stay_named w (rendering_rest w) [] (aside_stay app lawful w Passed tt) h

  -- an entry of a render where no work is open
  taken_named : (r : Machine K) (e : Entry) (o : Option Work) → NamedAt r.state [] → is_due app (entry_of o) e ≡ true
      → NamedMachine (change_by app r [] e)
  taken_named r e None h q = cc
  taken_named r e (Some (RunEffects s)) h q = cc
  taken_named r e (Some (RerunScope s)) h q =
      subst (λ (x : Entry). NamedMachine (change_by app r [] x)) (same_entry-true (Rerun s) e q) (rerun_named app lawful answers r s h)
  taken_named r e (Some (PollTask t)) h q =
      subst (λ (x : Entry). NamedMachine (change_by app r [] x)) (same_entry-true (Poll t) e q) (poll_named app lawful answers r t h)

  -- one entry of a render
  step_named : (m : Machine K) (e : Entry) → Went m → is_due app (rendering_due app m) e ≡ true → Went (rendering_step_at app m m.work e)
  step_named m e h due_now = by_dead m.dead due_now
    where
      by_work : (work : List (Item K)) → m.work ≡ work → is_due app (rendering_due_at app m work) e ≡ true
          → Went (rendering_step_at app m work e)
      by_work [] idle q =
          let r : Machine K = at_state m (rendering_rest m.state) in
          subst (λ (items : List (Item K)). Went (settled app (change_by app r items e))) (sym idle)
          (settled_named (change_by app r [] e) (taken_named r e (rendering_next m.state) (passed_named m.state h.1.still) q))
      by_work (i ∷ rest) open_work q =
          logs_named app lawful answers m (step app m e) (e ∷ []) h.0 h.1
          (ap (λ (b : Bool). replay_on app (if b then Some (step app m e) else None) []) q)

      by_dead : (o : Option Fault)
          → is_due app (elim o as (λ z. Option Entry) [ None ↦ rendering_due_at app m m.work | Some fault ↦ None ]) e ≡ true
          → Went (rendering_step_at app m m.work e)
      by_dead None q = by_work m.work refl q
      by_dead (Some fault) q = cc

  module _ (limits : Limits) where
    -- an entry and those after it
    entry_named : (log : List Entry) (m last : Machine K) (e : Entry)
        → ((u : Machine K) → Went u → renders_within app limits (Some u) log ≡ Some last → NamedMachine last)
        → Went m → renders_within app limits (Some m) (e ∷ log) ≡ Some last → NamedMachine last
    entry_named log m last e further h goes = by_refusal (rendering_refusal app limits m) goes
      where
        by_due : (b : Bool) → is_due app (rendering_due app m) e ≡ b
            → renders_within app limits (if b then Some (rendering_step_at app m m.work e) else None) log ≡ Some last
            → NamedMachine last
        by_due true q g = further (rendering_step_at app m m.work e) (step_named m e h q) g
        by_due false q g = let absurdity : None ≡ Some last = g in cc

        by_refusal : (o : Option Fault)
            → renders_within app limits (elim o as (λ z. Option (Machine K)) [ None ↦ rendering_accepts app m e | Some fault ↦ None ]) log
            ≡ Some last
            → NamedMachine last
        by_refusal None g = by_due (is_due app (rendering_due app m) e) refl g
        by_refusal (Some fault) g = let absurdity : None ≡ Some last = g in cc

    -- the log of a render
    log_named : (log : List Entry) (m last : Machine K) → Went m → renders_within app limits (Some m) log ≡ Some last → NamedMachine last
    log_named [] m last h goes = subst (λ (x : Machine K). NamedMachine x) (one_machine m last goes) h.1
    log_named (e ∷ log) m last h goes = entry_named log m last e (λ u k g. log_named log u last k g) h goes

    -- a render
    renders_named : (w v : State K) (turned : List ℕ) → Renders app limits w v turned → NamedAt w [] → NamedAt v []
    renders_named w v turned r h =
        let begun : NamedMachine (resting w) = record { still = h; alive = λ alive. h } in
        let last : NamedMachine r.last = log_named r.log (resting w) r.last (refl, begun) r.goes in
        let rest : State K = rendering_rest r.last.state in
        let passed : NamedAt rest [] = passed_named r.last.state last.still in
        subst (λ (x : State K). NamedAt x []) (sym r.left)
        (stay_named rest (nothing_resolved rest) [] (stay_rest rest (nothing_resolved rest) refl refl refl) passed)

    -- a wake
    wake_named : (w : State K) (task : ℕ) → NamedAt w [] → NamedAt (post w (Woken task)) []
    wake_named w task h = stay_named w (post w (Woken task)) [] (post_stay w (Woken task)) h

    -- wakes that are answered
    answered_named : (tasks : List ℕ) (w v : State K) (text : List Text) → Answered app limits w tasks text v → NamedAt w [] → NamedAt v []
    answered_named [] w v text a h = subst (λ (x : State K). NamedAt x []) (sym a.1) h
    answered_named (task ∷ tasks) w v text a h =
        answered_named tasks a.0 v a.2 a.5 (renders_named (post w (Woken task)) a.0 a.1 a.3 (wake_named w task h))

    module _ (props : K.Props) where
      -- a build
      built_named : (w : State K) → BuildsTo app limits props w → NamedAt w []
      built_named w b =
          let from : Machine K = start app props [] in
          let told : Telling K = b.ran.last in
          let accepted : replay_on app (Some from) b.log ≡ Some told.machine =
          within-replays app limits b.log from told.machine b.ran.so.accepted in
          let named : NamedMachine told.machine =
          (logs_named app lawful answers from told.machine b.log refl (start_named app lawful answers props []) accepted).1 in
          subst (λ (x : State K). NamedAt x []) (ap (λ (m : Machine K). m.state) b.ran.machine ∙ b.at) named.still

      -- the page's state
      opened_named : (w : State K) → Opened app limits props w → NamedAt w []
      opened_named w o = renders_named o.built w o.turned o.renders (built_named o.built o.builds)

      -- a state of which a page or pieces are put
      pub put_named : (w : State K) → IsPut app limits props w → NamedAt w []
      put_named w (inl o) = opened_named w o
      put_named w (inr r) =
          renders_named (post r.last (Woken r.task)) w r.turned r.renders
          (wake_named r.last r.task (answered_named r.done r.first r.last r.text r.answered (opened_named r.first r.opened)))
