-- What looks, polls and effects leave of such a fact.
use Rattle.std.proofs.Common.{ℕ, false, List, [], ◌∷◌, ◌≡◌, refl}
use Rattle.std.specs.Prelude.{Option, Some, None}
use Rattle.rt_model.specs.Lists.{at, put, drop_number}
use Rattle.rt_model.specs.Tree.{Types}
use Rattle.rt_model.specs.World.{CallFault, Command, World, Meaning, TaskStep, pending, ready, Application}
use Rattle.rt_model.specs.State.{TaskRow, State, Outcome, Done, Cut, change, world_of, effects_of}
use Rattle.rt_model.specs.Commands.{unqueued, commands}
use Rattle.rt_model.specs.Next.{Work, look, found, paused, drop_then, drops, looked, at_rest}
use Rattle.rt_model.specs.Run.{fault_of, with_next, called_once, acted}
use Rattle.rt_model.specs.Replay.{left_by_poll, polled_to, polled_at, polled, batch_then, effects_run}
use Rattle.rt_model.proofs.Tour.{AllFresh}
use Rattle.law_behavior.specs.Deeds.{Deed, deeds_on, poll_finds, effect_deeds, batch_deeds, poll_deeds}
use Rattle.law_behavior.proofs.Frames.{Permits, Frame, Called}
use Rattle.law_behavior.proofs.Commanded.{end_on, AllAllowed}
use Rattle.law_behavior.proofs.Calling.{Follows, AllDraw}
use Rattle.law_behavior.proofs.Lived.{AllGood, good_first, good_last, Ends, onward_on, changes, called, once_on, acted_on}

module _ {K : Types} (app : Application K) (P Q : State K → Type 0) (bound : ℕ) (may : Permits K) (law : Frame app P Q bound may) (ends : (t : ℕ) → may.endable t) (bodies : Called app P bound)
    (Good : State K → ℕ → Option ℕ → List (Command K) → Type 0)
    (allows : (w : State K) (s : ℕ) (polled : Option ℕ) (cs : List (Command K)) → AllFresh app bound cs → Good w s polled cs → AllAllowed app P Q bound may law w s polled cs)
    (draws : AllDraw app bound) where
  -- looks

  pub looks_on : (w : State K) → P w → P (look w)
  looks_on w h = law.looks w h

  drop_on : (go : State K → State K) (w : State K) (o : Option ℕ) → paused w (found w) ≡ o → ((v : State K) → P v → P (go v)) → P w → P (drop_then go w o)
  drop_on go w None e g h = h
  drop_on go w (Some t) e g h = g (record w { queued = drop_number w.queued t }) (law.pauses w t e h)

  pub drops_on : (qs : List ℕ) (w : State K) → P w → P (drops qs w)
  drops_on [] w h = h
  drops_on (q ∷ qs) w h = drop_on (λ v. drops qs v) w (paused w (found w)) refl (λ v p. drops_on qs v p) h

  looked_on : (w : State K) (o : Option Work) → P w → P (looked w o)
  looked_on w (Some x) h = h
  looked_on w None h = drops_on (look w).queued (look w) (looks_on w h)

  -- the state as the test for what is next leaves it
  pub rest_on : (w : State K) → P w → P (at_rest w)
  rest_on w h = let v : State K = drops w.queued w in looked_on v (found v) (drops_on w.queued w h)

  -- polls and effects

  pub poll_left : (w : State K) (t : ℕ) (x : TaskRow K) (m : Meaning K (TaskStep K)) (step : TaskStep K) → at w.tasks t ≡ Some x → AllFresh app bound m.commands
      → may.pollable t
      → Good (poll_finds w t x step) x.scope (Some t) m.commands
      → P w
      → P (left_by_poll app w t x m step)
  poll_left w t x m (pending a) e f free good h =
      let row : TaskRow K = record x { state = a } in called app P Q bound may law ends bodies Good allows draws (record w { tasks = put w.tasks t row }) x.scope (Some t) m.commands f good (law.goes_on w t x a e free h)
  poll_left w t x m ready e f free good h =
      let v : State K = commands app w x.scope (Some t) m.commands in
      end_on app P Q bound may law v t (ends t) (called app P Q bound may law ends bodies Good allows draws w x.scope (Some t) m.commands f good h)

  poll_by : (w : State K) (t : ℕ) (x : TaskRow K) (m : Meaning K (TaskStep K)) (o : Option CallFault) → at w.tasks t ≡ Some x → may.pollable t → AllFresh app bound m.commands → Follows app bound w.next m.next
      → AllGood app P Q bound may law ends bodies Good allows draws (elim o as (λ z. List (Deed K)) [ None ↦ record { state = poll_finds (with_next w m.next) t x m.answer; scope = x.scope; polled = Some t; wants = m.commands } ∷ [] | Some f ↦ [] ])
      → P w
      → Ends app P Q bound may law ends bodies Good allows draws (elim o as (λ z. Outcome K) [ None ↦ Done (polled_to app (with_next w m.next) t x m m.answer) [] | Some f ↦ Cut (with_next w m.next) (fault_of f) ])
  poll_by w t x m None e free f low good h =
      let v : State K = with_next w m.next in
      looks_on (left_by_poll app v t x m m.answer) (poll_left v t x m m.answer e f free good.0 (law.nexts w m.next low h))
  poll_by w t x m (Some fault) e free f low good h = law.nexts w m.next low h

  pub poll_at : (w : State K) (t : ℕ) (o : Option (TaskRow K)) → at w.tasks t ≡ o → may.pollable t → AllGood app P Q bound may law ends bodies Good allows draws (poll_deeds app w t o) → P w → Ends app P Q bound may law ends bodies Good allows draws (polled_at app w t o)
  poll_at w t None e free good h = h
  poll_at w t (Some x) e free good h =
      let world : World K = world_of w x.scope (Some t) false in
      let m : Meaning K (TaskStep K) = app.poll x.state world in
      let drawn = draws.polls x.state world (law.low w h) in
      poll_by (called_once w) t x m m.fault e free drawn.0 drawn.1 good (once_on app P Q bound may law ends bodies Good allows draws w h)

  pub polled_on : (w : State K) (t : ℕ) → may.pollable t → AllGood app P Q bound may law ends bodies Good allows draws (poll_deeds app (unqueued w t) t (at w.tasks t)) → P w → Ends app P Q bound may law ends bodies Good allows draws (polled app w t)
  polled_on w t free good h = let v : State K = unqueued w t in poll_at v t (at w.tasks t) refl free good (law.unqueues w t free h)

  batch_on : (s : ℕ) (es : List K.Effect) (w : State K) → AllGood app P Q bound may law ends bodies Good allows draws (batch_deeds app w s es) → P w → Ends app P Q bound may law ends bodies Good allows draws (batch_then app (λ v. look v) w s es)
  batch_on s [] w good h = looks_on w h
  batch_on s (e ∷ es) w good h =
      let now : List (Deed K) = effect_deeds app w s e false in
      let later : List (Deed K) = deeds_on (acted app w s e false) (λ v. batch_deeds app v s es) in
      onward_on app P Q bound may law ends bodies Good allows draws (acted app w s e false) (λ v. batch_then app (λ u. look u) v s es) (λ v. batch_deeds app v s es) (acted_on app P Q bound may law ends bodies Good allows draws w s e false (good_first app P Q bound may law ends bodies Good allows draws now later good) h) (good_last app P Q bound may law ends bodies Good allows draws now later good)
      (λ v g p. batch_on s es v g p)

  pub effects_on : (w : State K) (s : ℕ) → AllGood app P Q bound may law ends bodies Good allows draws (batch_deeds app (change w s (λ x. record x { effects = [] })) s (effects_of w s)) → P w → Ends app P Q bound may law ends bodies Good allows draws (effects_run app w s)
  effects_on w s good h =
      let v : State K = change w s (λ x. record x { effects = [] }) in
      batch_on s (effects_of w s) v good (changes app P Q bound may law ends bodies Good allows draws w s (λ x. record x { effects = [] }) (λ x. refl) h)
