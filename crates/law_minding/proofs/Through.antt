-- Past calls that log no entry, too, something woke a task between the starts of two polls.
use Rattle.std.proofs.Common.{ℕ, zero, suc, ◌+◌, ◌≤◌, Bool, true, false, List, [], ◌∷◌, ◌≡◌, ◌||◌, refl, sym, subst, arith}
use Rattle.std.specs.Prelude.{Option, Some, None, length, if◌then◌else◌}
use Rattle.std.specs.List.{AllByRecursion}
use Rattle.rt_model.specs.Lists.{at, drop_number, join}
use Rattle.rt_model.specs.Laws.{IsNumbered, IsLawful}
use Rattle.rt_model.specs.Tree.{Types}
use Rattle.rt_model.specs.World.{Firsts, Command, CallFault, Meaning, TaskStep, Application}
use Rattle.rt_model.specs.State.{Scope, TaskRow, State, Outcome, Done, Cut, is_live, world_of}
use Rattle.rt_model.specs.Commands.{unqueued, commands}
use Rattle.rt_model.specs.Next.{Work, RerunScope, PollTask, RunEffects, look, found, first_seen, is_active}
use Rattle.rt_model.specs.Run.{fault_of, with_next, called_once}
use Rattle.rt_model.specs.Rendering.{may_poll, may_rerun, pass_over, passes, tasks_passed}
use Rattle.rt_model.specs.Replay.{Poll, Machine, poll_meant, left_by_poll, polled_apart_at, polled_apart, polled_now}
use Rattle.rt_model.specs.Asides as asides
use Rattle.rt_model.specs.Asides.{Aside, Asked, Marked, AllMarked, Looked, Thinned, Rested, Raised, Passed, Polling, Answered, Advanced, left_of, aside_state}
use Rattle.rt_model.specs.Causes.{Limits}
use Rattle.rt_model.specs.Sentences.{marked_now, all_marked_now}
use Rattle.rt_model.proofs.Maps.{by_test}
use Rattle.rt_model.proofs.Members.{number_left}
use Rattle.rt_model.proofs.RunFrames.{fresh, numbered_rises}
use Rattle.rt_model.proofs.Tour.{AllFresh}
use Rattle.law_moves.specs.Moves.{Logged}
use Rattle.law_moves.specs.Reached.{Part, ByMoves, ByAside, Comes}
use Rattle.law_moves.specs.Asides.{IsAside}
use Rattle.law_moves.proofs.Asides.{beside}
use Rattle.law_behavior.specs.Deeds.{Deed, poll_finds, poll_deeds}
use Rattle.law_behavior.proofs.Commanded.{commands_on}
use Rattle.law_behavior.proofs.Polled.{drops_on, rest_on, poll_left}
use Rattle.law_behavior.proofs.Steadfast.{lawful_draw}
use Rattle.law_minding.specs.Waking.{any_wakes, move_wakes, some_wakes, aside_wakes, parts_wake, PollsAreCausedThrough}
use Rattle.law_minding.proofs.Hearing.{neither}
use Rattle.law_minding.proofs.Unwoken.{Calm, stays, look_calm, others_wake, frame, called}
use Rattle.law_minding.proofs.Caused.{Quiet, all_allowed, calls_quiet, all_calm, poll_calm, poll_next, not_next}

module _ {K : Types} (t : ℕ) where
  calm_one_of : (x y : State K) (b : Bool) → Calm t x → Calm t y → Calm t (if b then x else y)
  calm_one_of x y true f g = f
  calm_one_of x y false f g = g

  marked_calm : (w : State K) (s : ℕ) → Calm t w → Calm t (marked_now w s)
  marked_calm w s h = let v : State K = record w { seen = join w.seen s } in calm_one_of v w (is_live w s) (stays t w v refl refl refl h) h

  all_marked_calm : (es : List (ℕ × Scope K)) (w : State K) → Calm t w → Calm t (all_marked_now es w)
  all_marked_calm [] w h = h
  all_marked_calm (e ∷ es) w h = all_marked_calm es (marked_now w e.0) (marked_calm w e.0 h)

  -- what is passed over leaves the lists of what is owed
  over_calm : (go : State K → State K) (w : State K) (o : Option Work) → ((v : State K) → Calm t v → Calm t (go v)) → Calm t w → Calm t (pass_over go w o)
  over_calm go w None on h = h
  over_calm go w (Some (RunEffects s)) on h = h
  over_calm go w (Some (RerunScope s)) on h =
      let v : State K = record w { seen = drop_number w.seen s; skipped = join w.skipped s } in
      calm_one_of w (go v) (may_rerun w s) h (on v (stays t w v refl refl refl h))
  over_calm go w (Some (PollTask u)) on h =
      let v : State K = record w { queued = drop_number w.queued u } in
      calm_one_of w (go v) (may_poll w u) h
      (on v (record { low = h.low; unposted = h.unposted; unqueued_yet = λ q. h.unqueued_yet (number_left w.queued u t q).0 }))

  passes_calm : (n : ℕ) (w : State K) → Calm t w → Calm t (passes n w)
  passes_calm zero w h = h
  passes_calm (suc n) w h = over_calm (λ v. passes n v) w (found w) (λ v g. passes_calm n v g) h

  tasks_calm : (n : ℕ) (w : State K) → Calm t w → Calm t (tasks_passed n w)
  tasks_calm zero w h = h
  tasks_calm (suc n) w h = on (first_seen w) (over_calm (λ v. tasks_passed n v) w (found w) (λ v g. tasks_calm n v g) h)
    where
      on : (o : Option ℕ) → Calm t (pass_over (λ v. tasks_passed n v) w (found w))
          → Calm t (elim o as (λ z. State K) [ None ↦ pass_over (λ v. tasks_passed n v) w (found w) | Some s ↦ w ])
      on None g = g
      on (Some s) g = h

module _ {K : Types} (app : Application K) (lawful : IsLawful K app) (t : ℕ) where
  asked_calm : (w : State K) (s : ℕ) (next : Firsts) (cs : List (Command K)) → IsNumbered w.next cs next → any_wakes app t (with_next w next) s None cs ≡ false → Calm t w
      → Calm t (commands app (with_next w next) s None cs)
  asked_calm w s next cs numbers quiet h =
      let low : t + 1 ≤ w.next.tasks = h.low in
      let rises : w.next.tasks ≤ next.tasks = (numbered_rises w.next cs next numbers).tasks in
      let above : t + 1 ≤ next.tasks = omega (arith, low, rises) in
      commands_on app (λ w. Calm t w) (λ w. Calm t w) (t + 1) (others_wake t) (frame t app) (with_next w next) s None cs
      (all_allowed app lawful t (with_next w next) s None cs (fresh app lawful w.next.tasks next.tasks (t + 1) cs low numbers.tasks) quiet)
      (record { low = above; unposted = h.unposted; unqueued_yet = h.unqueued_yet })

  -- a poll at once; where a fault ends it all is left
  apart_by : (keep w : State K) (u : ℕ) (x : TaskRow K) (m : Meaning K (TaskStep K)) (o : Option CallFault) → at w.tasks u ≡ Some x
      → AllFresh app (t + 1) m.commands
      → t + 1 ≤ m.next.tasks
      → AllByRecursion (λ (d : Deed K). Quiet app lawful t d.state d.scope d.polled d.wants)
      (elim o as (λ z. List (Deed K)) [ None ↦ record { state = poll_finds (with_next w m.next) u x m.answer; scope = x.scope; polled = Some u; wants = m.commands } ∷ [] | Some f ↦ [] ])
      → Calm t keep
      → Calm t w
      → Calm t (left_of keep (elim o as (λ z. Outcome K) [ None ↦ Done (left_by_poll app (with_next w m.next) u x m m.answer) [] | Some f ↦ Cut (with_next w m.next) (fault_of f) ]))
  apart_by keep w u x m None e drawn low good k h =
      poll_left app (λ w. Calm t w) (λ w. Calm t w) (t + 1) (others_wake t) (frame t app) (λ u. tt) (called t app) (λ w s polled cs. Quiet app lawful t w s polled cs) (λ w s polled cs f g. all_allowed app lawful t w s polled cs f g) (lawful_draw app (t + 1) lawful)
      (with_next w m.next) u x m m.answer e drawn tt good.0 (record { low = low; unposted = h.unposted; unqueued_yet = h.unqueued_yet })
  apart_by keep w u x m (Some fault) e drawn low good k h = k

  apart_on : (keep w : State K) (u : ℕ) (o : Option (TaskRow K)) → at w.tasks u ≡ o
      → AllByRecursion (λ (d : Deed K). Quiet app lawful t d.state d.scope d.polled d.wants) (poll_deeds app w u o)
      → Calm t keep
      → Calm t w
      → Calm t (left_of keep (polled_apart_at app w u o))
  apart_on keep w u None e good k h = h
  apart_on keep w u (Some x) e good k h =
      let m : Meaning K (TaskStep K) = poll_meant app w u x in
      let drawn = (lawful_draw app (t + 1) lawful).polls x.state (world_of w x.scope (Some u) false) h.low in
      apart_by keep (called_once w) u x m m.fault e drawn.0 (drawn.1).low good k (stays t w (called_once w) refl refl refl h)

  advanced_calm : (w : State K) (u : ℕ) → AllByRecursion (λ (d : Deed K). Quiet app lawful t d.state d.scope d.polled d.wants) (poll_deeds app (unqueued w u) u (at w.tasks u))
      → Calm t w
      → Calm t (left_of w (polled_now app w u))
  advanced_calm w u good h = by (is_active w u)
    where
      by : (b : Bool) → Calm t (left_of w (if b then polled_apart app w u else Done w []))
      by true = apart_on w (unqueued w u) u (at w.tasks u) refl good h ((frame t app).unqueues w u tt h)
      by false = h

  aside_calm : (w : State K) (x : Aside K) → asides.Allowed w x → aside_wakes app t w x ≡ false → Calm t w → Calm t (aside_state app w x)
  aside_calm w (Asked s next cs) numbers quiet h = asked_calm w s next cs numbers quiet h
  aside_calm w (Marked s) numbers quiet h = marked_calm t w s h
  aside_calm w AllMarked numbers quiet h = all_marked_calm t w.scopes w h
  aside_calm w Looked numbers quiet h = look_calm t w h
  aside_calm w Thinned numbers quiet h =
      drops_on app (λ w. Calm t w) (λ w. Calm t w) (t + 1) (others_wake t) (frame t app) (λ u. tt) (called t app) (λ w s polled cs. Quiet app lawful t w s polled cs) (λ w s polled cs f g. all_allowed app lawful t w s polled cs f g) (lawful_draw app (t + 1) lawful) w.queued w h
  aside_calm w Rested numbers quiet h =
      rest_on app (λ w. Calm t w) (λ w. Calm t w) (t + 1) (others_wake t) (frame t app) (λ u. tt) (called t app) (λ w s polled cs. Quiet app lawful t w s polled cs) (λ w s polled cs f g. all_allowed app lawful t w s polled cs f g) (lawful_draw app (t + 1) lawful) w h
  aside_calm w (Raised name payload element bubbles prevented) numbers quiet h = h
  aside_calm w Passed numbers quiet h = let v : State K = look w in passes_calm t (length v.seen + length v.queued) v (look_calm t w h)
  aside_calm w Polling numbers quiet h = let v : State K = look w in tasks_calm t (length v.queued) v (look_calm t w h)
  aside_calm w Answered numbers quiet h = stays t w (record w { resolved = [] }) refl refl refl h
  aside_calm w (Advanced u) numbers quiet h = advanced_calm w u (calls_quiet app lawful t (poll_deeds app (unqueued w u) u (at w.tasks u)) quiet) h

  parts_calm : (limits : Limits) (m v : Machine K) (parts : List (Part K)) (comes : Comes app limits m parts v) → parts_wake app limits t m v parts comes ≡ false → Calm t m.state → Calm t v.state
  parts_calm limits m v [] comes quiet h = subst (λ (z : Machine K). Calm t z.state) (sym comes) h
  parts_calm limits m v (ByMoves moves ∷ parts) comes quiet h =
      let both = neither (some_wakes app limits t m comes.0 moves comes.1) (parts_wake app limits t comes.0 v parts comes.2) quiet in
      parts_calm limits comes.0 v parts comes.2 both.1 (all_calm app lawful t limits m comes.0 moves comes.1 both.0 h)
  parts_calm limits m v (ByAside x ∷ parts) comes quiet h =
      let u : Machine K = comes.0 in
      let call : IsAside app m x u = comes.1 in
      let both = neither (aside_wakes app t m.state x) (parts_wake app limits t u v parts comes.2) quiet in
      parts_calm limits u v parts comes.2 both.1
      (subst (λ (z : State K). Calm t z) (sym (beside app lawful m u x call).state) (aside_calm m.state x call.allowed both.0 h))

pub polls_are_caused_through : {K : Types} (app : Application K) → PollsAreCausedThrough app
polls_are_caused_through {K = K} app lawful limits m u v z moves parts t leads comes drawn again =
    by_test (some_wakes app limits t m u (Logged (Poll t) ∷ moves) leads || parts_wake app limits t u v parts comes)
    (λ q. q)
    (
    λ q.
    let halves = neither (some_wakes app limits t m u (Logged (Poll t) ∷ moves) leads) (parts_wake app limits t u v parts comes) q in
    let both = neither (move_wakes app t m (Logged (Poll t))) (some_wakes app limits t leads.0 u moves leads.2) halves.0 in
    let low : t + 1 ≤ m.state.next.tasks = omega (arith, drawn) in
    let calm : Calm t u.state = all_calm app lawful t limits leads.0 u moves leads.2 both.1 (poll_calm app lawful t limits m leads.0 leads.1 both.0 low) in
    absurd (not_next app lawful t v.state (parts_calm app lawful t limits u v parts comes halves.1 calm) (poll_next app v t again.due_is))
    )
