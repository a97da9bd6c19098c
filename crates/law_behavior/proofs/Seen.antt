-- Who is seen: no scope twice, and each has a number that was drawn.
use Rattle.std.proofs.Common.{ℕ, ◌+◌, ◌≤◌, ◌<◌, Bool, true, false, not, List, [], ◌∷◌, ◌++◌, ◌≡◌, refl, sym, ap, ◌∙◌, subst, arith}
use Rattle.std.specs.Prelude.{Option, Some, None, is_some, if◌then◌else◌}
use Rattle.std.specs.List.{AllByRecursion}
use Rattle.rt_model.specs.Lists.{at, put, has, drop_number, join}
use Rattle.rt_model.specs.Tree.{Types}
use Rattle.rt_model.specs.World.{before_render_kind, CallFault, Event, Meaning, TaskStep, pending, ready, Application}
use Rattle.rt_model.specs.Laws.{IsNumbered, IsLawful}
use Rattle.rt_model.specs.Lasting.{IsRooted}
use Rattle.rt_model.specs.State.{Posted, Mark, Woken, Scope, TaskRow, State, Item, RowStep, Outcome, Done, Cut, onward, is_live, change, world_of, effects_of}
use Rattle.rt_model.specs.Asides.{left_of}
use Rattle.rt_model.specs.Boundary.{boundary_step, row_step}
use Rattle.rt_model.specs.Commands.{unqueued, end, commands}
use Rattle.rt_model.specs.Next.{Work, is_active, look_on, look, found, paused, drop_then, drops, looked, at_rest}
use Rattle.rt_model.specs.Run.{fault_of, with_next, called_once, unmarked, hooks_called, run_as, acted, run}
use Rattle.rt_model.specs.Heard.{Listener}
use Rattle.rt_model.specs.Replay.{Machine, ended_by, waiting, looked_where_quiet, then_looked, left_by_poll, polled_to, polled_at, polled, poll_meant, polled_apart_at, polled_apart, polled_now, batch_then, effects_run, further, heard_event}
use Rattle.rt_model.proofs.Maps.{by_test, pick_true, pick_false}
use Rattle.rt_model.proofs.Frames.{same_rest, end_same, task_same}
use Rattle.rt_model.proofs.RunFrames.{Later, LaterO, later_trans, later_same, called, once_later, acted_later, change_later, run_later, step_later}
use Rattle.rt_model.proofs.TourCalls.{state_of}
use Rattle.rt_model.proofs.StepFrames.{follows_later}
use Rattle.law_moves.proofs.Twigs.{by_scope}
use Rattle.law_behavior.proofs.Unlooked.{Sees, all_commands, acts, ends, changes, run_sees, row_sees}
use Rattle.law_behavior.proofs.Orders.{drops_seen}
use Rattle.law_behavior.proofs.Entries.{live_low}
use Rattle.law_behavior.proofs.Sorting.{Distinct, drop_distinct, end_distinct, drop_all, both_all, all_map}

module _ {K : Types} where
  pub record Lined (w : State K) : Type 0 where
    pub distinct : Distinct w.seen
    pub drawn : AllByRecursion (λ (s : ℕ). s < w.next_scope) w.seen

  abbrev Below : State K → ℕ → Type 0
  Below w s = s < w.next_scope

  -- the same scopes are seen
  pub same_lined : (w v : State K) → v.seen ≡ w.seen → w.next_scope ≤ v.next_scope → Lined w → Lined v
  same_lined w v same up h =
      record {
        distinct = subst (λ (xs : List ℕ). Distinct xs) (sym same) h.distinct;
        drawn =
            subst (λ (xs : List ℕ). AllByRecursion (λ (s : ℕ). Below v s) xs) (sym same)
            (all_map (λ s. Below w s) (λ s. Below v s) w.seen (λ s low. omega (arith, low, up)) h.drawn);
      }

  -- one goes
  pub left_lined : (w v : State K) (t : ℕ) → v.seen ≡ drop_number w.seen t → w.next_scope ≤ v.next_scope → Lined w → Lined v
  left_lined w v t same up h =
      record {
        distinct = subst (λ (xs : List ℕ). Distinct xs) (sym same) (drop_distinct w.seen t h.distinct);
        drawn =
            subst (λ (xs : List ℕ). AllByRecursion (λ (s : ℕ). Below v s) xs) (sym same)
            (all_map (λ s. Below w s) (λ s. Below v s) (drop_number w.seen t) (λ s low. omega (arith, low, up))
            (drop_all (λ s. Below w s) w.seen t h.drawn));
      }

  -- one joins
  pub join_lined : (w : State K) (s : ℕ) → s < w.next_scope → Lined w → Lined (record w { seen = join w.seen s })
  join_lined w s low h =
      by_test (has w.seen s)
      (λ q. same_lined w (record w { seen = join w.seen s }) (pick_true w.seen (w.seen ++ s ∷ []) q) (omega arith) h)
      (
      λ q.
      let here : join w.seen s ≡ w.seen ++ s ∷ [] = pick_false w.seen (w.seen ++ s ∷ []) q in
      record {
        distinct = subst (λ (xs : List ℕ). Distinct xs) (sym here) (end_distinct w.seen s q h.distinct);
        drawn =
            subst (λ (xs : List ℕ). AllByRecursion (λ (t : ℕ). Below w t) xs) (sym here)
            (both_all (λ t. Below w t) w.seen (s ∷ []) h.drawn (low, tt));
      }
      )

  -- each live scope's number was drawn
  abbrev pub Low : State K → Type 0
  Low w = (s : ℕ) → is_live w s ≡ true → s < w.next_scope

  look_on_lined : (ps : List Posted) (w : State K) → Low w → Lined w → Lined (look_on ps w)
  look_on_lined [] w low h = h
  look_on_lined (Mark s ∷ ps) w low h =
      by_test (is_live w s)
      (
      λ q.
      let u : State K = record w { seen = join w.seen s } in
      subst (λ (x : State K). Lined (look_on ps x)) (sym (pick_true u w q)) (look_on_lined ps u low (join_lined w s (low s q) h))
      )
      (
      λ q.
      subst (λ (x : State K). Lined (look_on ps x)) (sym (pick_false (record w { seen = join w.seen s }) w q)) (look_on_lined ps w low h)
      )
  look_on_lined (Woken t ∷ ps) w low h =
      let u : State K = record w { queued = join w.queued t } in
      by_test (is_some (at w.tasks t))
      (λ q. subst (λ (x : State K). Lined (look_on ps x)) (sym (pick_true u w q)) (look_on_lined ps u low (same_lined w u refl (omega arith) h)))
      (λ q. subst (λ (x : State K). Lined (look_on ps x)) (sym (pick_false u w q)) (look_on_lined ps w low h))

  pub look_lined : (w : State K) → IsRooted w → Lined w → Lined (look w)
  look_lined w rooted h =
      let u : State K = record w { posted = [] } in
      look_on_lined w.posted u (λ s live. live_low w s rooted live) (same_lined w u refl (omega arith) h)

  -- the drops leave all but the queue
  drop_then_same : {A : Type 0} (f : State K → A) (go : State K → State K) (w : State K) (o : Option ℕ)
      → ((v : State K) (t : ℕ) → f (record v { queued = drop_number v.queued t }) ≡ f v)
      → ((v : State K) → f (go v) ≡ f v) → f (drop_then go w o) ≡ f w
  drop_then_same f go w None h g = refl
  drop_then_same f go w (Some t) h g = g (record w { queued = drop_number w.queued t }) ∙ h w t

  pub drops_same : {A : Type 0} (f : State K → A) → ((v : State K) (t : ℕ) → f (record v { queued = drop_number v.queued t }) ≡ f v)
      → (qs : List ℕ) (w : State K) → f (drops qs w) ≡ f w
  drops_same f h [] w = refl
  drops_same f h (q ∷ qs) w = drop_then_same f (λ v. drops qs v) w (paused w (found w)) h (λ v. drops_same f h qs v)

  pub drops_lined : (qs : List ℕ) (w : State K) → Lined w → Lined (drops qs w)
  drops_lined qs w h =
      let up : (drops qs w).next_scope ≡ w.next_scope = drops_same (λ v. v.next_scope) (λ v t. refl) qs w in
      same_lined w (drops qs w) (drops_seen qs w) (omega (arith, up)) h

  drops_rooted : (qs : List ℕ) (w : State K) → IsRooted w → IsRooted (drops qs w)
  drops_rooted qs w r =
      let scopes = drops_same (λ v. v.scopes) (λ v t. refl) qs w in
      let up : (drops qs w).next_scope ≡ w.next_scope = drops_same (λ v. v.next_scope) (λ v t. refl) qs w in
      let x : State K = record w { scopes = (drops qs w).scopes; next_scope = (drops qs w).next_scope } in
      let there : IsRooted x =
      subst (λ (n : ℕ). IsRooted (record w { scopes = (drops qs w).scopes; next_scope = n })) (sym up)
      (subst (λ (es : List (ℕ × Scope K)). IsRooted (record w { scopes = es })) (sym scopes) r) in
      record { drawn = there.drawn; parents = there.parents; heights = there.heights }

  pub rest_lined : (w : State K) → IsRooted w → Lined w → Lined (at_rest w)
  rest_lined w r h = let v : State K = drops w.queued w in by v (found v) (drops_rooted w.queued w r) (drops_lined w.queued w h)
    where
      by : (v : State K) (o : Option Work) → IsRooted v → Lined v → Lined (looked v o)
      by v (Some x) r g = g
      by v None r g = let u : State K = look v in drops_lined u.queued u (look_lined v r g)

  -- a change that isn't cut
  abbrev pub LinedO : Outcome K → Type 0
  LinedO (Done v work) = Lined v
  LinedO (Cut v fault) = Unit {0}

  -- the same of a machine that is alive
  abbrev pub LinedM : Machine K → Type 0
  LinedM m = m.dead ≡ None → Lined m.state

  pub ended_lined : (m : Machine K) (item : Option (Item K)) (rest : List (Item K)) (o : Outcome K) → LinedO o → LinedM (ended_by m item rest o)
  ended_lined m item rest (Done v work) h = λ alive. h
  ended_lined m item rest (Cut v fault) h = λ alive. let absurdity : Some fault ≡ None = alive in cc

  pub gone_by : (w : State K) (t : ℕ) (o : Outcome K) → Sees (drop_number w.seen t) o → w.next_scope ≤ (state_of o).next_scope → Lined w → LinedO o
  gone_by w t (Done v work) sees up h = left_lined w v t sees up h
  gone_by w t (Cut v fault) sees up h = tt

  same_by : (w : State K) (o : Outcome K) → Sees w.seen o → w.next_scope ≤ (state_of o).next_scope → Lined w → LinedO o
  same_by w (Done v work) sees up h = same_lined w v sees up h
  same_by w (Cut v fault) sees up h = tt

  pub no_lower : (w v : State K) → Later w v → w.next_scope ≤ v.next_scope
  no_lower w v f = let same = f.next_scope in omega (arith, same)

  pub later_rooted : (w v : State K) → Later w v → IsRooted w → IsRooted v
  later_rooted w v f r = (follows_later w v f).rooted r

  -- a look at a later state at which the same are seen
  look_later_lined : (w v : State K) → Later w v → v.seen ≡ w.seen → IsRooted w → Lined w → Lined (look v)
  look_later_lined w v f same r h = look_lined v (later_rooted w v f r) (same_lined w v same (no_lower w v f) h)

module _ {K : Types} (app : Application K) (lawful : IsLawful K app) where
  pub run_lined : (w : State K) (s : ℕ) → Lined w → LinedO (run app w s)
  run_lined w s h =
      by_scope (at w.scopes s)
      (
      λ none.
      subst (λ (o : Outcome K). LinedO o) (sym (ap (λ (o : Option (Scope K)). elim o as (λ i. Outcome K) [
        | None ↦ Done w []
        | Some y ↦ onward (hooks_called app before_render_kind (unmarked w s) s y.hooks) (λ v. run_as app v s y y.component)
      ]) none)) h
      )
      (λ x found. gone_by w s (run app w s) (run_sees app w s x found) (no_lower w (state_of (run app w s)) (run_later app lawful w s)) h)

  pub step_lined : (w : State K) (b : ℕ) (step : RowStep) → Lined w → LinedO (boundary_step app w b step)
  step_lined w b step h =
      by_scope (at w.scopes b)
      (
      λ none.
      subst (λ (o : Outcome K). LinedO o) (sym (ap (λ (o : Option (Scope K)). elim o as (λ i. Outcome K) [
        | None ↦ Done w []
        | Some x ↦ row_step app w b x step
      ]) none)) h
      )
      (
      λ x found.
      let is : boundary_step app w b step ≡ row_step app w b x step = ap (λ (o : Option (Scope K)). elim o as (λ i. Outcome K) [
        | None ↦ Done w []
        | Some x ↦ row_step app w b x step
      ]) found in
      same_by w (boundary_step app w b step) (subst (λ (o : Outcome K). Sees w.seen o) (sym is) (row_sees app w b x step))
      (no_lower w (state_of (boundary_step app w b step)) (step_later app lawful w b step)) h
      )

  left_later : (w : State K) (t : ℕ) (x : TaskRow K) (m : Meaning K (TaskStep K)) (a : TaskStep K) → IsNumbered w.next m.commands m.next
      → at w.tasks t ≡ Some x
      → Later w (left_by_poll app (with_next w m.next) t x m a)
  left_later w t x m (pending a) n h =
      let v : State K = record w { tasks = put w.tasks t (record x { state = a }) } in
      later_trans w v (left_by_poll app (with_next w m.next) t x m (pending a))
      (later_same w v (task_same w.next.tasks w t x (record x { state = a }) h))
      (called app lawful v x.scope (Some t) m n)
  left_later w t x m ready n h =
      let done : State K = commands app (with_next w m.next) x.scope (Some t) m.commands in
      later_trans w done (end done t) (called app lawful w x.scope (Some t) m n) (later_same done (end done t) (end_same done.next.tasks done t))

  left_seen : (w : State K) (t : ℕ) (x : TaskRow K) (m : Meaning K (TaskStep K)) (a : TaskStep K)
      → (left_by_poll app (with_next w m.next) t x m a).seen ≡ w.seen
  left_seen w t x m (pending a) =
      all_commands app (record (with_next w m.next) { tasks = put w.tasks t (record x { state = a }) }) x.scope (Some t) m.commands
  left_seen w t x m ready =
      let done : State K = commands app (with_next w m.next) x.scope (Some t) m.commands in
      ends done t ∙ all_commands app (with_next w m.next) x.scope (Some t) m.commands

  pub polled_lined : (w : State K) (t : ℕ) → IsRooted w → Lined w → LinedO (polled app w t)
  polled_lined w t r h = by (at w.tasks t) refl
    where
      by_fault : (u : State K) (x : TaskRow K) (m : Meaning K (TaskStep K)) (o : Option CallFault) → Later w u → u.seen ≡ w.seen
          → IsNumbered u.next m.commands m.next → at u.tasks t ≡ Some x
          → LinedO (elim o as (λ z. Outcome K) [
            | None ↦ Done (polled_to app (with_next u m.next) t x m m.answer) []
            | Some f ↦ Cut (with_next u m.next) (fault_of f)
          ])
      by_fault u x m None later same n found =
          let y : State K = left_by_poll app (with_next u m.next) t x m m.answer in
          look_later_lined w y (later_trans w u y later (left_later u t x m m.answer n found)) (left_seen u t x m m.answer ∙ same) r h
      by_fault u x m (Some f) later same n found = tt

      by : (o : Option (TaskRow K)) → at w.tasks t ≡ o → LinedO (polled_at app (unqueued w t) t o)
      by None e = same_lined w (unqueued w t) refl (omega arith) h
      by (Some x) e =
          let v : State K = unqueued w t in
          let u : State K = called_once v in
          let m : Meaning K (TaskStep K) = app.poll x.state (world_of v x.scope (Some t) false) in
          by_fault u x m m.fault
          (later_trans w v u (later_same w v (same_rest w.next.tasks w v refl refl refl refl)) (once_later app lawful v)) refl
          (lawful.polls_number x.state (world_of v x.scope (Some t) false)) e

  -- a task that is polled at once
  apart_by_sees : (w : State K) (t : ℕ) (x : TaskRow K) (m : Meaning K (TaskStep K)) (o : Option CallFault)
      → Sees w.seen (elim o as (λ z. Outcome K) [
        | None ↦ Done (left_by_poll app (with_next w m.next) t x m m.answer) []
        | Some f ↦ Cut (with_next w m.next) (fault_of f)
      ])
  apart_by_sees w t x m None = left_seen w t x m m.answer
  apart_by_sees w t x m (Some f) = tt

  apart_at_sees : (w : State K) (t : ℕ) (o : Option (TaskRow K)) → Sees w.seen (polled_apart_at app w t o)
  apart_at_sees w t None = refl
  apart_at_sees w t (Some x) = let m : Meaning K (TaskStep K) = poll_meant app w t x in apart_by_sees (called_once w) t x m m.fault

  pub advanced_seen : (w : State K) (t : ℕ) → (left_of w (polled_now app w t)).seen ≡ w.seen
  advanced_seen w t = by (is_active w t)
    where
      left : (o : Outcome K) → Sees w.seen o → (left_of w o).seen ≡ w.seen
      left (Done v work) h = h
      left (Cut v fault) h = refl

      by : (b : Bool) → (left_of w (if b then polled_apart app w t else Done w [])).seen ≡ w.seen
      by true = left (polled_apart app w t) (apart_at_sees (unqueued w t) t (at w.tasks t))
      by false = refl

  batch_lined : (w : State K) (s : ℕ) (es : List K.Effect) → IsRooted w → Lined w → LinedO (batch_then app look w s es)
  batch_lined w s [] r h = look_lined w r h
  batch_lined w s (e ∷ es) r h =
      on (λ v g k. batch_lined v s es g k) (acted app w s e false) (acts app w s e false) (acted_later app lawful w s e false)
    where
      on : ((v : State K) → IsRooted v → Lined v → LinedO (batch_then app look v s es)) → (o : Outcome K) → Sees w.seen o → LaterO w o
          → LinedO (onward o (λ v. batch_then app look v s es))
      on go (Done v work) sees later = go v (later_rooted w v later r) (same_lined w v sees (no_lower w v later) h)
      on go (Cut v fault) sees later = tt

  pub effects_lined : (w : State K) (s : ℕ) → IsRooted w → Lined w → LinedO (effects_run app w s)
  effects_lined w s r h =
      let f : Scope K → Scope K = λ x. record x { effects = [] } in
      let v : State K = change w s f in
      let later : Later w v = change_later w s f (λ x. refl) in
      batch_lined v s (effects_of w s) (later_rooted w v later r) (same_lined w v (changes w s f) (no_lower w v later) h)

  -- a listener
  pub quiet_lined : (m : Machine K) (ls : List (Listener K)) → IsRooted m.state → Lined m.state → Lined (looked_where_quiet m ls).state
  quiet_lined m [] r h = look_lined m.state r h
  quiet_lined m (l ∷ ls) r h = h

  pub heard_lined : (m : Machine K) (l : Listener K) (ls : List (Listener K)) (o : Option (Event K)) → IsRooted m.state → LinedM m
      → LinedM (heard_event app m l ls o)
  heard_lined m l ls None r h = h
  heard_lined m l ls (Some event) r h =
      let meaning : Meaning K (Event K) = app.handle l.handler event (world_of m.state l.origin None false) in
      by meaning meaning.fault (lawful.handlers_number l.handler event (world_of m.state l.origin None false))
    where
      u : Machine K
      u = record m { state = called_once m.state }

      by : (meaning : Meaning K (Event K)) (o : Option CallFault) → IsNumbered m.state.next meaning.commands meaning.next
          → LinedM (elim o as (λ z. Machine K) [
            | None ↦
                then_looked
                (record u {
                  state = commands app (with_next u.state meaning.next) l.origin None meaning.commands;
                  event = Some meaning.answer;
                  default_enabled = not meaning.answer.prevented;
                  listeners = further app u meaning.answer ls;
                })
            | Some f ↦ record u { state = with_next u.state meaning.next; listeners = ls; dead = Some (fault_of f); refused = None }
          ])
      by meaning None n =
          let y : State K = commands app (with_next u.state meaning.next) l.origin None meaning.commands in
          let later : Later m.state y =
          later_trans m.state u.state y (once_later app lawful m.state) (called app lawful u.state l.origin None meaning n) in
          let z : Machine K = record u {
            state = y;
            event = Some meaning.answer;
            default_enabled = not meaning.answer.prevented;
            listeners = further app u meaning.answer ls;
          } in
          λ alive.
          quiet_lined z (waiting z) (later_rooted m.state y later r)
          (same_lined m.state y (all_commands app (with_next u.state meaning.next) l.origin None meaning.commands) (no_lower m.state y later)
          (h (alive_before (waiting z) alive)))
        where
          alive_before : (ws : List (Listener K)) → (looked_where_quiet (record u {
            state = commands app (with_next u.state meaning.next) l.origin None meaning.commands;
            event = Some meaning.answer;
            default_enabled = not meaning.answer.prevented;
            listeners = further app u meaning.answer ls;
          }) ws).dead ≡ None → m.dead ≡ None
          alive_before [] q = q
          alive_before (w ∷ ws) q = q
      by meaning (Some f) n = λ alive. let absurdity : Some (fault_of f) ≡ None = alive in cc
