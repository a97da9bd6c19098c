-- A poll of suspended work, poll by poll: each is a unit by itself that opens no work and shows nothing new.
use Rattle.std.proofs.Common.{◌⊎◌, inl, inr, ℕ, ◌+◌, Bool, true, false, ◌&&◌, List, [], ◌∷◌, ◌++◌, ◌≡◌, refl, sym, ap, ◌∙◌, subst}
use Rattle.std.specs.Prelude.{nat_eq, Option, Some, None, is_some, if◌then◌else◌}
use Rattle.rt_model.specs.Tree.{Types}
use Rattle.rt_model.specs.World.{Application}
use Rattle.rt_model.specs.State.{Fault, OutOfTurns, State, Item}
use Rattle.rt_model.specs.Next.{Work, RerunScope, PollTask, RunEffects, at_rest, chosen, first_task, first_seen, found}
use Rattle.rt_model.specs.Replay.{Entry, Poll, Machine, due, change_by, is_due, step, accepts, settled, polled, one_more_unit, rested, mounted_state}
use Rattle.rt_model.specs.Causes.{Limits, refusal, replay_within}
use Rattle.rt_model.specs.Rendering.{polling_rest, polling_next, polling_due, polling_refusal, polling_accepts, polls_within}
use Rattle.rt_model.specs.Rendering as rendering
use Rattle.rt_model.specs.Told.{opens}
use Rattle.rt_model.specs.Asides.{Polling, resting}
use Rattle.law_moves.specs.Asides.{IsAside}
use Rattle.law_moves.specs.Moves.{Move, Silent, Closed, Logged, entries, IsSettled, Leads}
use Rattle.law_moves.specs.Reached.{Part, ByMoves, ByAside, NonePassed, start_at, Comes, Reached}
use Rattle.law_moves.proofs.Acceptance.{same_as_itself}
use Rattle.law_moves.proofs.Logs.{logs_are_moves}
use Rattle.law_moves.proofs.OneMoveOnly.{unsettled}
use Rattle.law_moves.proofs.Ways.{comes-append}
use Rattle.law_moves.proofs.Woods.{reached_sound}
use Rattle.law_moves.proofs.Commanded.{Level, level_refl, level_trans}
use Rattle.law_moves.proofs.Called.{mounted_level}
use Rattle.law_headline.proofs.Calm.{aside_level}
use Rattle.law_headline.proofs.Begins.{built_on, calm_level}
use Rattle.law_headline.proofs.Levels.{ended_idle, polled_rests}
use Rattle.law_headline.proofs.Reports.{settled_after, unit_over, one_machine}
use Rattle.law_behavior.specs.Doms.{LedTo, NoneOpens}
use Rattle.law_behavior.specs.Polls.{PollingLeads, PollsLead, PollsFollow}
use Rattle.law_behavior.proofs.Leading.{asides_lead, within_on, quiet_alive, quiet_idle, rest_at, known_on, known_more, same_view, led_there}
use Rattle.law_behavior.proofs.Loops.{polled_comes_next, polling_is}
use Rattle.law_behavior.proofs.CallEntries.{unit_of, Calls, alive_where, due_of, due_is, calls_on, one_within}
use Rattle.law_behavior.proofs.Counting.{over, change_first, settled_over}

module _ {K : Types} where
  -- no work is open, unless a fault ended the run
  abbrev Idle : Machine K → Type 0
  Idle m = m.dead ≡ None → m.work ≡ []

  -- what such a poll takes is a task
  polls_task : (w : State K) (work : Work) → polling_next w ≡ Some work → (t : ℕ) × (work ≡ PollTask t)
  polls_task w work h = by (first_task u) (sym (ap (λ (o : Option ℕ). chosen u (first_task u) o) is.0) ∙ is.1)
    where
      u : State K
      u = polling_rest w

      is : (first_seen u ≡ None) × (found u ≡ Some work)
      is = polling_is w work h

      one : (a b : Work) → Some a ≡ Some b → b ≡ a
      one a b g = cc

      by : (o : Option ℕ) → chosen u o None ≡ Some work → (t : ℕ) × (work ≡ PollTask t)
      by None g = cc
      by (Some t) g = (t, one (PollTask t) work g)

module _ {K : Types} (app : Application K) where
  -- moves without an entry leave a machine idle, and what shows
  tail_idle : (limits : Limits) (moves : List Move) (u v : Machine K) → entries moves ≡ [] → Leads app limits u moves v → Idle u
      → Idle v × Level u.state v.state
  tail_idle limits [] u v none leads h = (
    subst (λ (x : Machine K). Idle x) (sym leads) h,
    subst (λ (x : Machine K). Level u.state x.state) (sym leads) (level_refl u.state),
  )
  tail_idle limits (Silent ∷ moves) u v none leads h =
      let move = leads.1 in
      let absurdity : move.item ∷ move.later ≡ [] = sym move.next ∙ h move.alive in
      cc
  tail_idle limits (Closed ∷ moves) u v none leads h =
      let move = leads.1 in
      let after : Machine K = leads.0 in
      let z : Machine K = record u { unit = false; state = mounted_state u.state } in
      let here : Idle z = λ alive. h alive in
      let closed : Level u.state after.state = subst (λ (x : Machine K). Level u.state x.state) (sym move.gives) (mounted_level u.state) in
      let on = tail_idle limits moves after v none leads.2 (subst (λ (x : Machine K). Idle x) (sym move.gives) here) in
      (on.0, level_trans u.state after.state v.state closed on.1)
  tail_idle limits (Logged e ∷ moves) u v none leads h = let absurdity : e ∷ entries moves ≡ [] = none in cc

  -- so does an entry whose change does
  one_idle : (limits : Limits) (moves : List Move) (m v : Machine K) (e : Entry) → m.dead ≡ None → IsSettled m → Leads app limits m moves v
      → entries moves ≡ e ∷ []
      → Idle (change_by app m m.work e) → Level m.state (change_by app m m.work e).state
      → Idle v × Level m.state v.state
  one_idle limits [] m v e alive settled leads same idle level = cc
  one_idle limits (Silent ∷ moves) m v e alive settled leads same idle level =
      let move = leads.1 in unsettled m (move.item ∷ move.later) alive move.next move.silent settled
  one_idle limits (Closed ∷ moves) m v e alive settled leads same idle level =
      let move = leads.1 in unsettled m [] alive move.idle move.at_work settled
  one_idle limits (Logged d ∷ moves) m v e alive settled leads same idle level =
      let move = leads.1 in
      let u : Machine K = leads.0 in
      let entry : d ≡ e = cc in
      let none : entries moves ≡ [] = cc in
      let gives : u ≡ change_by app m m.work e = move.gives ∙ ap (λ (x : Entry). change_by app m m.work x) entry in
      let on = tail_idle limits moves u v none leads.2 (subst (λ (x : Machine K). Idle x) (sym gives) idle) in
      (on.0, level_trans m.state u.state v.state (subst (λ (x : Machine K). Level m.state x.state) (sym gives) level) on.1)

  module _ (limits : Limits) where
    -- after a poll nothing more is logged that begins no unit
    none_after : (more : List Entry) (u v : Machine K) → Calls u → Idle u → NoneOpens more → replay_within app limits (Some u) more ≡ Some v
        → (more ≡ []) × (u ≡ v)
    none_after [] u v h idle shut go = (refl, one_machine u v go)
    none_after (e ∷ more) u v h idle shut go =
        let on = within_on app limits u v e more go in
        let alive : u.dead ≡ None = alive_where limits u on.0 in
        elim (due_is app u e h alive (due_of app u on.1.0 e on.1.1)) [
          | inl c ↦ begins c.work (sym (ap (λ (x : Entry). opens x) c.named) ∙ shut.0)
          | inr s ↦ serves s.item s.later (sym (idle alive) ∙ s.first)
        ]
      where
        begins : (work : Work) → opens (unit_of work) ≡ false → (e ∷ more ≡ []) × (u ≡ v)
        begins (RerunScope s) g = cc
        begins (PollTask t) g = cc
        begins (RunEffects s) g = cc

        serves : (item : Item K) (later : List (Item K)) → [] ≡ item ∷ later → (e ∷ more ≡ []) × (u ≡ v)
        serves item later g = cc

    -- one poll by itself, from where the rest was passed over
    record Polls (x : State K) (e : Entry) (more : List Entry) (v : Machine K) : Type 0 where
      calm : refusal limits (resting (polling_rest x)) ≡ None
      accepted : accepts app (resting (polling_rest x)) e ≡ Some v
      alone : more ≡ []
      level : Level (polling_rest x) v.state
      idle : Idle v

    polls_by : (x : State K) (work : Work) (e : Entry) (more : List Entry) (v : Machine K)
        → polling_next x ≡ Some work
        → NoneOpens more
        → replay_within app limits (Some (resting (polling_rest x))) (e ∷ more) ≡ Some v
        → (e ≡ unit_of work) × Polls x e more v
    polls_by x work e more v is shut go = (
      named,
      record {
        calm = on.0;
        accepted = on.1.1 ∙ ap (λ (y : Machine K). Some y) last.1;
        alone = last.0;
        level = subst (λ (y : Machine K). Level m.state y.state) last.1 still.1;
        idle = subst (λ (y : Machine K). Idle y) last.1 still.0;
      },
    )
      where
        m : Machine K
        m = resting (polling_rest x)

        calls : Calls m
        calls = record { built = refl; inputs = refl; listeners = refl }

        on : (refusal limits m ≡ None) × ((u : Machine K) × (accepts app m e ≡ Some u) × (replay_within app limits (Some u) more ≡ Some v))
        on = within_on app limits m v e more go

        u : Machine K
        u = on.1.0

        one : replay_within app limits (Some m) (e ∷ []) ≡ Some u
        one = one_within app limits m u e on.0 on.1.1

        named : e ≡ unit_of work
        named =
            elim (due_is app m e calls refl (due_of app m u e on.1.1)) [
              | inl c ↦ c.named ∙ ap (λ (y : Work). unit_of y) (same c.work (sym c.next_is ∙ (polled_comes_next x work is).1))
              | inr s ↦ empty s.item s.later s.first
            ]
          where
            same : (a : Work) → Some a ≡ Some work → a ≡ work
            same a g = cc

            empty : (item : Item K) (later : List (Item K)) → [] ≡ item ∷ later → e ≡ unit_of work
            empty item later g = cc

        task : (t : ℕ) × (work ≡ PollTask t)
        task = polls_task x work is

        polls : Poll task.0 ≡ e
        polls = sym (named ∙ ap (λ (y : Work). unit_of y) task.1)

        still : Idle u × Level m.state u.state
        still =
            let way = logs_are_moves app limits m u (e ∷ []) refl one in
            let r : State K = at_rest m.state in
            let q : Machine K = one_more_unit (rested app m) in
            one_idle limits way.0 m u e refl refl way.1 way.2
            (subst (λ (d : Entry). Idle (change_by app m [] d)) polls
            (λ alive. ended_idle q r (polled app r task.0) (polled_rests app r task.0) alive))
            (subst (λ (d : Entry). Level m.state (change_by app m [] d).state) polls (calm_level app m (Poll task.0) refl))

        last : (more ≡ []) × (u ≡ v)
        last = none_after more u v (calls_on app limits (e ∷ []) m u refl one calls) still.0 shut on.1.2

    -- a unit begins
    poll_over : (n : ℕ) (x : State K) (work : Work) (e : Entry) (u : Machine K)
        → nat_eq n limits.units ≡ false
        → polling_next x ≡ Some work
        → e ≡ unit_of work
        → accepts app (resting (polling_rest x)) e ≡ Some u
        → (polling_refusal app limits (over n (resting x)) ≡ None) × (polling_accepts app (over n (resting x)) e ≡ Some (over (n + 1) u))
    poll_over n x work e u few is named accepted = (calm, taken)
      where
        m : Machine K
        m = resting (polling_rest x)

        calm : polling_refusal app limits (over n (resting x)) ≡ None
        calm = ap (λ (b : Bool). if b && is_some (polling_next x) then Some (OutOfTurns limits.units) else None) few

        task : (t : ℕ) × (work ≡ PollTask t)
        task = polls_task x work is

        due_same : polling_due app (over n (resting x)) ≡ Some e
        due_same =
            ap (λ (o : Option Work). rendering.entry_of o) (is ∙ ap (λ (y : Work). Some y) task.1)
            ∙ ap (λ (d : Entry). Some d) (sym (named ∙ ap (λ (y : Work). unit_of y) task.1))

        step_same : step app (over n m) e ≡ over (n + 1) (step app m e)
        step_same =
            ap (λ (d : Entry). settled app (change_by app (over n m) [] d)) named
            ∙ ap (λ (y : Machine K). settled app y) (change_first app n m work)
            ∙ settled_over app (n + 1) (change_by app m [] (unit_of work))
            ∙ ap (λ (d : Entry). over (n + 1) (settled app (change_by app m [] d))) (sym named)

        there : step app m e ≡ u
        there = by (is_due app (due app m) e) accepted
          where
            by : (b : Bool) → (if b then Some (step app m e) else None) ≡ Some u → step app m e ≡ u
            by true h = cc
            by false h = cc

        taken : polling_accepts app (over n (resting x)) e ≡ Some (over (n + 1) u)
        taken =
            ap (λ (o : Option Entry). if is_due app o e then Some (step app (over n m) e) else None) due_same
            ∙ ap (λ (b : Bool). if b then Some (step app (over n m) e) else None) (same_as_itself e)
            ∙ ap (λ (y : Machine K). Some y) (step_same ∙ ap (λ (y : Machine K). over (n + 1) y) there)

    -- logs behind one another
    polls_join : (log more : List Entry) (o : Option (Machine K))
        → polls_within app limits o (log ++ more) ≡ polls_within app limits (polls_within app limits o log) more
    polls_join log more None = refl
    polls_join [] more (Some m) = refl
    polls_join (e ∷ log) more (Some m) =
        polls_join log more
        (elim (polling_refusal app limits m) as (λ z. Option (Machine K)) [ None ↦ polling_accepts app m e | Some fault ↦ None ])

  -- after it nothing is at work, unless a fault ended it
  pub polls_idle : (limits : Limits) (x : State K) (work : Work) (e : Entry) (more : List Entry) (v : Machine K)
      → polling_next x ≡ Some work
      → NoneOpens more
      → replay_within app limits (Some (resting (polling_rest x))) (e ∷ more) ≡ Some v
      → v.dead ≡ None → v.work ≡ []
  polls_idle limits x work e more v is shut go = (polls_by limits x work e more v is shut go).1.idle

  pub polls_follow : PollsFollow app
  polls_follow limits w x units log more e work v so few is shut go =
      let one = polls_by limits x work e more v is shut go in
      let first = poll_over limits units x work e v few is one.0 one.1.accepted in
      polls_join limits log (e ∷ more) (Some (resting w))
      ∙ ap (λ (o : Option (Machine K)). polls_within app limits o (e ∷ more)) so
      ∙ ap (λ (o : Option Fault). polls_within app limits
      (elim o as (λ z. Option (Machine K)) [ None ↦ polling_accepts app (over units (resting x)) e | Some fault ↦ None ]) more) first.0
      ∙ ap (λ (o : Option (Machine K)). polls_within app limits o more) first.1
      ∙ ap (λ (es : List Entry). polls_within app limits (Some (over (units + 1) v)) es) one.1.alone

  pub polling_leads : PollingLeads app
  polling_leads lawful limits props w led =
      let there : LedTo app limits props false (polling_rest w) = asides_lead app limits props false lawful w Polling led tt (inr refl) in
      (there, same_view app lawful limits props false w (polling_rest w) led there (aside_level app w Polling))

  pub polls_lead : PollsLead app
  polls_lead lawful limits props w work e more v led is shut go quiet =
      let passed = polling_leads lawful limits props w led in
      let one = polls_by limits w work e more v is shut go in
      let m : Machine K = resting (polling_rest w) in
      let way : List (Part K) = led.reached.parts ++ ByAside Polling ∷ [] in
      let begun : IsAside app (resting w) Polling m = record { rest = rest_at w; built = refl; allowed = tt; gives = refl } in
      let from : Machine K = start_at app props led.reached.firsts led.reached.contexts [] in
      let comes : Comes app limits from way m =
      comes-append app limits led.reached.parts (ByAside Polling ∷ []) from (resting w) m led.reached.comes (m, begun, refl) in
      let before : Reached app limits props [] m =
      record { firsts = led.reached.firsts; above = led.reached.above; contexts = led.reached.contexts; parts = way; comes = comes } in
      let over : IsSettled v = settled_after app limits (e ∷ more) m v refl go in
      let alive : v.dead ≡ None = quiet_alive v quiet in
      let none : v.work ≡ [] = quiet_idle v quiet in
      let unit : v.unit ≡ false = unit_over v alive none over in
      let moves = logs_are_moves app limits m v (e ∷ more) refl go in
      let after : Reached app limits props [] v =
      record {
        firsts = led.reached.firsts;
        above = led.reached.above;
        contexts = led.reached.contexts;
        parts = way ++ ByMoves moves.0 ∷ [];
        comes = comes-append app limits way (ByMoves moves.0 ∷ []) from m v comes (v, moves.1, refl);
      } in
      let known : NonePassed after.parts ⊎ (false ≡ false) =
      known_more app lawful limits props false way moves.0 (known_on app lawful limits props false led.reached.parts Polling led.known (inr refl)) in
      let built : v.built ≡ true = built_on app lawful limits props [] m v moves.0 (reached_sound app lawful limits props [] m before) refl
      moves.1 alive in
      let there : LedTo app limits props false v.state =
      led_there app lawful limits props false v after known (record { alive = alive; idle = none; unit = unit }) built in
      (there, same_view app lawful limits props false (polling_rest w) v.state passed.0 there one.1.level ∙ passed.1)
