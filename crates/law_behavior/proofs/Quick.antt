-- Polls and batches of effects: they open no work, end with a look, and run no body.
use Rattle.std.proofs.Common.{ℕ, ◌+◌, Bool, true, false, not, List, [], ◌∷◌, ◌++◌, ◌≡◌, refl, sym, ap, ◌∙◌, subst, arith}
use Rattle.std.specs.Prelude.{Option, Some, None, is_some, if◌then◌else◌}
use Rattle.std.specs.List.{AllByRecursion}
use Rattle.rt_lemmas.proofs.Numbers.{zero_more as none_more}
use Rattle.rt_model.specs.Lists.{at, drop_number}
use Rattle.rt_model.specs.Tree.{Types}
use Rattle.rt_model.specs.World.{Meaning, CallFault, TaskStep, Application}
use Rattle.rt_model.specs.State.{Woken, Posted, TaskRow, State, Item, Outcome, Done, Cut, onward, change, effects_of, world_of}
use Rattle.rt_model.specs.Commands.{drop_posted, unqueued}
use Rattle.rt_model.specs.Run.{fault_of, with_next, called_once, acted}
use Rattle.rt_model.specs.Next.{Work, RerunScope, RunEffects, least, is_before, look, found, paused, drop_then, drops, looked, at_rest, with_effects, or_effects, next, owes}
use Rattle.rt_model.specs.Replay.{Entry, Build, Taken, Heard, Rerun, Poll, Effects, Made, Fed, Kept, Removed, Machine, ended_by, one_more_unit, rested, left_by_poll, polled_to, polled_at, polled, batch_then, effects_run, change_by, mounted_state}
use Rattle.rt_model.specs.Causes.{Limits}
use Rattle.rt_model.specs.Told.{count_entries}
use Rattle.rt_model.specs.Sentences.{runs, events_end, render_ends}
use Rattle.rt_model.specs.Bodies.{is_poll, NoneAfterRerun}
use Rattle.law_moves.specs.Moves.{Move, Silent, Closed, Logged, entries, serves_item, IsSettled, Leads}
use Rattle.law_moves.proofs.OneMoveOnly.{unsettled}
use Rattle.law_behavior.specs.Comes.{ComesToRerun}
use Rattle.law_behavior.specs.Once.{renders}
use Rattle.law_behavior.proofs.Coming.{found_turn}
use Rattle.law_behavior.proofs.Loops.{drop_posted_is, look_posted, no_posted}

-- a poll or a batch of effects
abbrev pub quick : Entry → Bool
quick (Poll t) = true
quick (Effects s) = true
quick _ = false

-- entries in which open work is served are those of a render
pub served_renders : (e : Entry) → serves_item e ≡ true → renders e ≡ true
served_renders (Made s) h = refl
served_renders (Fed s) h = refl
served_renders (Kept s) h = refl
served_renders (Removed s) h = refl
served_renders (Build) h = cc
served_renders (Taken k) h = cc
served_renders (Heard s) h = cc
served_renders (Rerun s) h = cc
served_renders (Poll t) h = cc
served_renders (Effects s) h = cc

no_front : {P : Type 0} (front back : List ℕ) (s : ℕ) → [] ≡ front ++ s ∷ back → P
no_front [] back s h = cc
no_front (x ∷ front) back s h = cc

-- polls and effects run no body, and are no rerun
pub quick_count : (s : ℕ) (first more : List Entry) → AllByRecursion (λ (e : Entry). quick e ≡ true) first
    → count_entries (λ e. runs s e) (first ++ more) ≡ count_entries (λ e. runs s e) more
quick_count s [] more h = refl
quick_count s (Poll t ∷ log) more h = none_more (count_entries (λ e. runs s e) (log ++ more)) ∙ quick_count s log more h.1
quick_count s (Effects t ∷ log) more h = none_more (count_entries (λ e. runs s e) (log ++ more)) ∙ quick_count s log more h.1
quick_count s (Build ∷ log) more h = let absurdity : false ≡ true = h.0 in cc
quick_count s (Taken k ∷ log) more h = let absurdity : false ≡ true = h.0 in cc
quick_count s (Heard t ∷ log) more h = let absurdity : false ≡ true = h.0 in cc
quick_count s (Rerun t ∷ log) more h = let absurdity : false ≡ true = h.0 in cc
quick_count s (Made t ∷ log) more h = let absurdity : false ≡ true = h.0 in cc
quick_count s (Fed t ∷ log) more h = let absurdity : false ≡ true = h.0 in cc
quick_count s (Kept t ∷ log) more h = let absurdity : false ≡ true = h.0 in cc
quick_count s (Removed t ∷ log) more h = let absurdity : false ≡ true = h.0 in cc

pub quick_none : (first more : List Entry) → AllByRecursion (λ (e : Entry). quick e ≡ true) first → NoneAfterRerun (first ++ more) → NoneAfterRerun more
quick_none [] more h none = none
quick_none (Poll t ∷ log) more h none = quick_none log more h.1 none
quick_none (Effects t ∷ log) more h none = quick_none log more h.1 none
quick_none (Build ∷ log) more h none = let absurdity : false ≡ true = h.0 in cc
quick_none (Taken k ∷ log) more h none = let absurdity : false ≡ true = h.0 in cc
quick_none (Heard t ∷ log) more h none = let absurdity : false ≡ true = h.0 in cc
quick_none (Rerun t ∷ log) more h none = let absurdity : false ≡ true = h.0 in cc
quick_none (Made t ∷ log) more h none = let absurdity : false ≡ true = h.0 in cc
quick_none (Fed t ∷ log) more h none = let absurdity : false ≡ true = h.0 in cc
quick_none (Kept t ∷ log) more h none = let absurdity : false ≡ true = h.0 in cc
quick_none (Removed t ∷ log) more h none = let absurdity : false ≡ true = h.0 in cc

-- no poll is among these, so the first is none
pub no_poll : (e : Entry) (log : List Entry) → count_entries is_poll (e ∷ log) ≡ 0 → (is_poll e ≡ false) × (count_entries is_poll log ≡ 0)
no_poll e log h = by (is_poll e) h
  where
    by : (b : Bool) → (if b then 1 else 0) + count_entries is_poll log ≡ 0 → (b ≡ false) × (count_entries is_poll log ≡ 0)
    by true g = absurd (omega (arith, g))
    by false g = (refl, omega (arith, g))

module _ {K : Types} where
  -- nothing is at work and nothing is posted, unless a fault ended the run
  abbrev pub Calm : Machine K → Type 0
  Calm m = m.dead ≡ None → (m.work ≡ []) × (m.state.posted ≡ [])

  -- a change opens no work and leaves nothing posted
  abbrev CalmO : Outcome K → Type 0
  CalmO (Done v work) = (work ≡ []) × (v.posted ≡ [])
  CalmO (Cut v fault) = Unit {0}

  onward_calm : (o : Outcome K) (f : State K → Outcome K) → ((v : State K) → CalmO (f v)) → CalmO (onward o f)
  onward_calm (Done v work) f h = h v
  onward_calm (Cut v fault) f h = tt

  ended_calm : (m : Machine K) (o : Outcome K) → CalmO o → Calm (ended_by m None [] o)
  ended_calm m (Done v work) h = λ alive. (ap (λ (items : List (Item K)). items ++ []) h.0, h.1)
  ended_calm m (Cut v fault) h = λ alive. let absurdity : Some fault ≡ None = alive in cc

  -- where nothing is posted nothing becomes so by the test for what is next
  rest_posted : (w : State K) → w.posted ≡ [] → (at_rest w).posted ≡ []
  rest_posted w none = let v : State K = drops w.queued w in by v (found v) (drop_posted_is w.queued w ∙ none)
    where
      by : (v : State K) (o : Option Work) → v.posted ≡ [] → (looked v o).posted ≡ []
      by v (Some x) h = h
      by v None h = let u : State K = look v in drop_posted_is u.queued u ∙ look_posted v

  dropped_seen : (go : State K → State K) (w : State K) (o : Option ℕ) → ((v : State K) → (go v).seen ≡ v.seen) → (drop_then go w o).seen ≡ w.seen
  dropped_seen go w None h = refl
  dropped_seen go w (Some t) h = h (record w { queued = drop_number w.queued t })

  drops_seen : (qs : List ℕ) (w : State K) → (drops qs w).seen ≡ w.seen
  drops_seen [] w = refl
  drops_seen (q ∷ qs) w = dropped_seen (λ v. drops qs v) w (paused w (found w)) (λ v. drops_seen qs v)

  -- where nothing is posted no scope becomes seen either
  rest_seen : (w : State K) → w.posted ≡ [] → (at_rest w).seen ≡ w.seen
  rest_seen w none = let v : State K = drops w.queued w in by v (found v) (drop_posted_is w.queued w ∙ none) ∙ drops_seen w.queued w
    where
      by : (v : State K) (o : Option Work) → v.posted ≡ [] → (looked v o).seen ≡ v.seen
      by v (Some x) h = refl
      by v None h = let u : State K = look v in drops_seen u.queued u ∙ ap (λ (x : State K). x.seen) (no_posted v h)

  -- events go on only where no scope is seen
  none_seen : (w : State K) → events_end w ≡ false → w.seen ≡ []
  none_seen w h = by w.seen h
    where
      by : (seen : List ℕ) → (elim seen as (λ z. Bool) [ [] ↦ not (owes w) | s ∷ ss ↦ true ]) ≡ false → seen ≡ []
      by [] g = refl
      by (s ∷ ss) g = cc

  -- so no scope comes next then
  pub no_rerun : {P : Type 0} (w : State K) (s : ℕ) → events_end w ≡ false → w.posted ≡ [] → next w ≡ Some (RerunScope s) → P
  no_rerun {P = P} w s goes none is = by (found r) refl is
    where
      r : State K
      r = at_rest w

      by_effects : (o : Option ℕ) → (elim o as (λ z. Option Work) [ None ↦ None | Some t ↦ Some (RunEffects t) ]) ≡ Some (RerunScope s) → P
      by_effects None g = cc
      by_effects (Some t) g = cc

      by : (o : Option Work) → found r ≡ o → or_effects r o ≡ Some (RerunScope s) → P
      by (Some x) e g =
          let turn : ComesToRerun r s = found_turn r (RerunScope s) (e ∙ g) in
          no_front turn.first.front turn.first.back s (sym (rest_seen w none ∙ none_seen w goes) ∙ turn.first.stands)
      by None e g = by_effects (least (λ a b. is_before r.scopes a b) (with_effects r.scopes)) g

  -- where a render goes on no batch of effects comes next
  pub no_effects : {P : Type 0} (w : State K) (s : ℕ) → render_ends w ≡ false → next w ≡ Some (RunEffects s) → P
  no_effects {P = P} w s goes is = by (found v) refl goes
    where
      v : State K
      v = drops w.queued w

      by : (o : Option Work) → found v ≡ o → not (is_some o) ≡ false → P
      by None e g = cc
      by (Some x) e g =
          let rests : at_rest w ≡ v = ap (λ (o : Option Work). looked v o) e in
          let here : next w ≡ Some x = ap (λ (z : State K). or_effects z (found z)) rests ∙ ap (λ (o : Option Work). or_effects v o) e in
          absurd (found_turn v (RunEffects s) (e ∙ sym here ∙ is))

module _ {K : Types} (app : Application K) where
  -- a poll and a batch of effects open no work, and end with a look
  polled_calm : (w : State K) (t : ℕ) → w.posted ≡ [] → CalmO (polled app w t)
  polled_calm w t none = by (at w.tasks t)
    where
      by_fault : (u : State K) (x : TaskRow K) (m : Meaning K (TaskStep K)) (o : Option CallFault) → CalmO (elim o as (λ z. Outcome K) [
        | None ↦ Done (polled_to app (with_next u m.next) t x m m.answer) []
        | Some f ↦ Cut (with_next u m.next) (fault_of f)
      ])
      by_fault u x m None = (refl, look_posted (left_by_poll app (with_next u m.next) t x m m.answer))
      by_fault u x m (Some f) = tt

      by : (o : Option (TaskRow K)) → CalmO (polled_at app (unqueued w t) t o)
      by None = (refl, ap (λ (ps : List Posted). drop_posted ps (Woken t)) none)
      by (Some x) =
          let u : State K = unqueued w t in
          let m : Meaning K (TaskStep K) = app.poll x.state (world_of u x.scope (Some t) false) in by_fault (called_once u) x m m.fault

  batch_calm : (w : State K) (s : ℕ) (es : List K.Effect) → CalmO (batch_then app look w s es)
  batch_calm w s [] = (refl, look_posted w)
  batch_calm w s (e ∷ es) = onward_calm (acted app w s e false) (λ v. batch_then app look v s es) (λ v. batch_calm v s es)

  -- what such a unit leaves
  pub quick_calm : (m : Machine K) (e : Entry) → quick e ≡ true → m.work ≡ [] → m.state.posted ≡ [] → Calm (change_by app m m.work e)
  quick_calm m e plain idle none = subst (λ (items : List (Item K)). Calm (change_by app m items e)) (sym idle) (by e plain)
    where
      r : State K
      r = at_rest m.state

      by : (e : Entry) → quick e ≡ true → Calm (change_by app m [] e)
      by (Poll t) h = ended_calm (one_more_unit (rested app m)) (polled app r t) (polled_calm r t (rest_posted m.state none))
      by (Effects s) h =
          ended_calm (one_more_unit (rested app m)) (effects_run app r s)
          (batch_calm (change r s (λ x. record x { effects = [] })) s (effects_of r s))
      by (Build) h = cc
      by (Taken k) h = cc
      by (Heard s) h = cc
      by (Rerun s) h = cc
      by (Made s) h = cc
      by (Fed s) h = cc
      by (Kept s) h = cc
      by (Removed s) h = cc

  -- moves without an entry leave it so
  tail_calm : (limits : Limits) (moves : List Move) (m v : Machine K) → entries moves ≡ [] → Leads app limits m moves v → Calm m → Calm v
  tail_calm limits [] m v none leads h = subst (λ (x : Machine K). Calm x) (sym leads) h
  tail_calm limits (Silent ∷ moves) m v none leads h =
      let move = leads.1 in
      let absurdity : move.item ∷ move.later ≡ [] = sym move.next ∙ (h move.alive).0 in
      cc
  tail_calm limits (Closed ∷ moves) m v none leads h =
      let move = leads.1 in
      let u : Machine K = leads.0 in
      let z : Machine K = record m { unit = false; state = mounted_state m.state } in
      let here : Calm z = λ alive. h alive in
      tail_calm limits moves u v none leads.2 (subst (λ (x : Machine K). Calm x) (sym move.gives) here)
  tail_calm limits (Logged e ∷ moves) m v none leads h = let absurdity : e ∷ entries moves ≡ [] = none in cc

  pub one_calm : (limits : Limits) (moves : List Move) (m v : Machine K) (e : Entry) → m.dead ≡ None → IsSettled m → Leads app limits m moves v
      → entries moves ≡ e ∷ [] → Calm (change_by app m m.work e) → Calm v
  one_calm limits [] m v e alive settled leads same h = cc
  one_calm limits (Silent ∷ moves) m v e alive settled leads same h =
      let move = leads.1 in unsettled m (move.item ∷ move.later) alive move.next move.silent settled
  one_calm limits (Closed ∷ moves) m v e alive settled leads same h = let move = leads.1 in unsettled m [] alive move.idle move.at_work settled
  one_calm limits (Logged d ∷ moves) m v e alive settled leads same h =
      let move = leads.1 in
      let u : Machine K = leads.0 in
      let entry : d ≡ e = cc in
      let none : entries moves ≡ [] = cc in
      tail_calm limits moves u v none leads.2
      (subst (λ (x : Machine K). Calm x) (sym (move.gives ∙ ap (λ (x : Entry). change_by app m m.work x) entry)) h)
