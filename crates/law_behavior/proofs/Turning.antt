-- No move lets a scope be seen twice, nor one whose number wasn't drawn.
use Rattle.std.proofs.Common.{ℕ, zero, suc, ◌+◌, Bool, true, false, List, [], ◌∷◌, ◌++◌, ◌≡◌, refl, sym, ap, ◌∙◌, subst, arith, nat_eq, length}
use Rattle.std.specs.Prelude.{Option, Some, None, is_some, if◌then◌else◌}
use Rattle.rt_model.specs.Lists.{at, drop_number, join}
use Rattle.rt_model.specs.Tree.{Types, Place, Kind, VComponent}
use Rattle.rt_model.specs.World.{ready, Application, Write, Scopes, Elements, at_end}
use Rattle.rt_model.specs.Laws.{IsLawful}
use Rattle.rt_model.specs.Lasting.{IsRooted}
use Rattle.rt_model.specs.State.{SideName, Posted, Mark, Woken, Fault, IdsExhausted, Scope, State, Item, Draw, Row, Feed, Make, Drop, Outcome, Done, Cut, is_live, side_of, with_side}
use Rattle.rt_model.specs.Asides.{Aside, Asked, Marked, AllMarked, Looked, Thinned, Rested, Raised, Passed, Polling, Answered, Advanced, Allowed, aside_state}
use Rattle.rt_model.specs.Rendering.{may_poll, may_rerun, pass_over, passes, tasks_passed, nothing_resolved}
use Rattle.rt_model.specs.Sentences.{marked_now, all_marked_now}
use Rattle.rt_model.specs.Commands.{post, write_cell}
use Rattle.rt_model.specs.Next.{Work, RerunScope, PollTask, RunEffects, first_seen, look, found, at_rest, next}
use Rattle.rt_model.specs.Run.{with_next, run}
use Rattle.rt_model.specs.Removal.{next_removed, removed}
use Rattle.rt_model.specs.Heard.{Listener}
use Rattle.rt_model.specs.Replay.{Entry, Build, Taken, Heard, Rerun, Poll, Effects, Removed, Post, MarkScope, WakeTask, AllDirty, Message, Input, EventAt, WakeOf, WriteOf, MarkOf, Drain, Machine, ended_by, numbered, draw_number, mounted_state, if_live, waiting, post_all, post_message, post_messages, looked_where_quiet, taken_in, take_next, one_more_unit, fed_child, keeps, due_item, due_heard, due_work, due, made_in, made, with_new_scope, with_props, handed, polled, effects_run, heard_first, rested, outcome_of, change_by}
use Rattle.rt_model.specs.Causes.{Limits}
use Rattle.rt_model.proofs.Maps.{by_test, pick_true, pick_false}
use Rattle.rt_model.proofs.Frames.{write_same}
use Rattle.rt_model.proofs.RunFrames.{Later, later_same, change_later}
use Rattle.rt_model.proofs.StepFrames.{removed_follows}
use Rattle.rt_model.proofs.MachineFrames.{rest_later, numbered_later}
use Rattle.law_moves.specs.Moves.{Move, Silent, Closed, Logged, Moves, Leads}
use Rattle.law_moves.specs.Reached.{Reached}
use Rattle.law_moves.specs.Asides.{IsAside}
use Rattle.law_moves.proofs.Asides.{aside_later, Beside, beside}
use Rattle.law_moves.proofs.Insides.{live_due, made_due, fed_due, fed_change}
use Rattle.law_moves.proofs.Ways.{reached_keep}
use Rattle.law_moves.proofs.Everywhere.{ReadyAt, move_ready, aside_ready, begun_ready}
use Rattle.law_behavior.proofs.Unlooked.{all_commands, changes, removed_sees}
use Rattle.law_behavior.proofs.Entries.{live_low}
use Rattle.law_behavior.proofs.Seen.{Lined, same_lined, left_lined, join_lined, Low, look_lined, drops_lined, rest_lined, LinedO, LinedM, ended_lined, no_lower, later_rooted, gone_by, run_lined, step_lined, polled_lined, advanced_seen, effects_lined, heard_lined, quiet_lined}

module _ {K : Types} (app : Application K) (lawful : IsLawful K app) where
  -- inputs

  abbrev Both : State K → Type 0
  Both w = IsRooted w × Lined w

  post_both : (w : State K) (p : Posted) → Both w → Both (post w p)
  post_both w (Mark s) h =
      let u : State K = record w { posted = w.posted ++ Mark s ∷ [] } in
      let there : Both u = (record { drawn = h.0.drawn; parents = h.0.parents; heights = h.0.heights }, same_lined w u refl (omega arith) h.1) in
      by_test (is_live w s)
      (λ q. subst (λ (x : State K). Both x) (sym (pick_true u w q)) there)
      (λ q. subst (λ (x : State K). Both x) (sym (pick_false u w q)) h)
  post_both w (Woken t) h =
      let u : State K = record w { posted = w.posted ++ Woken t ∷ [] } in
      let there : Both u = (record { drawn = h.0.drawn; parents = h.0.parents; heights = h.0.heights }, same_lined w u refl (omega arith) h.1) in
      by_test (is_some (at w.tasks t))
      (λ q. subst (λ (x : State K). Both x) (sym (pick_true u w q)) there)
      (λ q. subst (λ (x : State K). Both x) (sym (pick_false u w q)) h)

  all_posted_both : (es : List (ℕ × Scope K)) (w : State K) → Both w → Both (post_all es w)
  all_posted_both [] w h = h
  all_posted_both (e ∷ es) w h = all_posted_both es (post w (Mark e.0)) (post_both w (Mark e.0) h)

  message_both : (w : State K) (p : Post) → Both w → Both (post_message w p)
  message_both w (MarkScope s) h = post_both w (Mark s) h
  message_both w (WakeTask t) h = post_both w (Woken t) h
  message_both w AllDirty h = all_posted_both w.scopes w h

  messages_both : (ms : List Message) (w : State K) → Both w → Both (post_messages w ms)
  messages_both [] w h = h
  messages_both (m ∷ ms) w h = messages_both ms (post_message w m.what) (message_both w m.what h)

  taken_both : (m : Machine K) (input : Input K) → Both m.state → Both (taken_in m input).state
  taken_both m (EventAt name payload element bubbles) h = h
  taken_both m (WakeOf t) h = post_both m.state (Woken t) h
  taken_both m (WriteOf n v) h =
      let w : State K = m.state in
      let u : State K = write_cell w n v in
      let later : Later w u = later_same w u (write_same w.next.tasks w n v) in
      (later_rooted w u later h.0, same_lined w u (all_commands app w 0 None (Write n v ∷ [])) (no_lower w u later) h.1)
  taken_both m (MarkOf s) h = post_both m.state (Mark s) h
  taken_both m (Drain messages) h = messages_both messages m.state h

  taken_alive : (m : Machine K) (input : Input K) → (taken_in m input).dead ≡ m.dead
  taken_alive m (EventAt name payload element bubbles) = refl
  taken_alive m (WakeOf t) = refl
  taken_alive m (WriteOf n v) = refl
  taken_alive m (MarkOf s) = refl
  taken_alive m (Drain messages) = refl

  take_lined : (m : Machine K) (inputs : List (Input K)) → IsRooted m.state → LinedM m → LinedM (take_next m inputs)
  take_lined m [] r h = h
  take_lined m (input ∷ more) r h =
      let u : Machine K = record m { inputs = more; taken = m.taken + 1; units = 0; default_enabled = true; listeners = [] } in
      let v : Machine K = taken_in u input in
      λ alive.
      let both = taken_both u input (r, h (sym (taken_alive u input) ∙ alive_before v (waiting v) alive)) in
      quiet_lined app lawful v (waiting v) both.0 both.1
    where
      alive_before : (v : Machine K) (ws : List (Listener K)) → (looked_where_quiet v ws).dead ≡ None → v.dead ≡ None
      alive_before v [] q = q
      alive_before v (l ∷ ls) q = q

  first_lined : (m : Machine K) (ls : List (Listener K)) → IsRooted m.state → LinedM m → LinedM (heard_first app m ls)
  first_lined m [] r h = h
  first_lined m (l ∷ ls) r h = heard_lined app lawful m l ls m.event r h

  -- a scope that is made, and one that is fed
  made_lined : (w : State K) (s : ℕ) (side : SideName) (p : Place) (c : VComponent K) → Lined w → LinedO (made app w s side p c)
  made_lined w s side p c h = by_found (at w.scopes s)
    where
      by_end : (x : Scope K) (b : Bool) → LinedO (if b then Cut w (IdsExhausted Scopes) else run app (with_new_scope w s side p c x) w.next_scope)
      by_end x true = tt
      by_end x false =
          let v : State K = with_new_scope w s side p c x in
          run_lined app lawful v w.next_scope (same_lined w v refl (omega arith) h)

      by_found : (o : Option (Scope K)) → LinedO (elim o as (λ z. Outcome K) [ None ↦ Done w [] | Some x ↦ made_in app w s side p c x ])
      by_found None = h
      by_found (Some x) = by_end x (at_end w.next_scope)

  handed_lined : (w : State K) (t : ℕ) (c : VComponent K) → Lined w → LinedO (handed app w t c)
  handed_lined w t c h = by (keeps app w t c)
    where
      there : Lined (with_props app w t c)
      there =
          same_lined w (with_props app w t c) (changes w t (λ x. record x { component = c }))
          (no_lower w (with_props app w t c) (change_later w t (λ x. record x { component = c }) (λ x. refl))) h

      by : (b : Bool) → LinedO (if b then Done (with_props app w t c) [] else run app (with_props app w t c) t)
      by true = there
      by false = run_lined app lawful (with_props app w t c) t there

  removed_lined : (w : State K) (t : ℕ) → Lined w → LinedO (removed app w t)
  removed_lined w t h = gone_by w t (removed app w t) (removed_sees app w t) (removed_follows app lawful w t).next_scope h

  number_lined : (w : State K) (s : ℕ) (side : SideName) (p : Place) (k : Kind) → Lined w → LinedO (draw_number w s side p k)
  number_lined w s side p k h = by (at_end w.next.elements)
    where
      by : (b : Bool) → LinedO (if b then Cut w (IdsExhausted Elements) else Done (numbered w s side p k) [])
      by true = tt
      by false =
          let n = record (w.next) { elements = w.next.elements + 1 } in
          same_lined w (numbered w s side p k)
          (changes (with_next w n) s (λ x. with_side x side (record (side_of x side) { numbers = (side_of x side).numbers ++ (p, k, w.next.elements) ∷ [] })))
          (no_lower w (numbered w s side p k) (numbered_later w s side p k)) h

  -- moves

  item_lined : (w : State K) (item : Item K) → Lined w → LinedO (outcome_of app w item)
  item_lined w (Draw s side p k) h = number_lined w s side p k h
  item_lined w (Row b step) h = step_lined app lawful w b step h
  item_lined w (Feed s side p c) h = by (fed_child w s side p)
    where
      by : (o : Option ℕ) → LinedO (elim o as (λ z. Outcome K) [ None ↦ Done w [] | Some t ↦ handed app w t c ])
      by None = h
      by (Some t) = handed_lined w t c h
  item_lined w (Make s side p c) h = made_lined w s side p c h
  item_lined w (Drop t s side) h = h

  abbrev To : Machine K → Entry → Machine K → Type 0
  To m e u = IsRooted m.state → m.dead ≡ None → Lined m.state → LinedM u

  unit_lined : (m : Machine K) (o : Option Work) (inputs : List (Input K)) (e : Entry) → m.inputs ≡ inputs
      → if_live m.state (due_work app m o inputs) ≡ Some e → To m e (change_by app m [] e)
  unit_lined m (Some (RerunScope s)) inputs e is due_is =
      subst (λ (x : Entry). To m x (change_by app m [] x)) (sym (live_due app m.state (Rerun s) e due_is).0)
      (λ r alive h. ended_lined (one_more_unit (rested app m)) None [] (run app (at_rest m.state) s) (run_lined app lawful (at_rest m.state) s (rest_lined m.state r h)))
  unit_lined m (Some (PollTask t)) inputs e is due_is =
      subst (λ (x : Entry). To m x (change_by app m [] x)) (sym (live_due app m.state (Poll t) e due_is).0)
      (
      λ r alive h.
      ended_lined (one_more_unit (rested app m)) None [] (polled app (at_rest m.state) t)
      (polled_lined app lawful (at_rest m.state) t (later_rooted m.state (at_rest m.state) (rest_later m.state) r) (rest_lined m.state r h))
      )
  unit_lined m (Some (RunEffects s)) inputs e is due_is =
      subst (λ (x : Entry). To m x (change_by app m [] x)) (sym (live_due app m.state (Effects s) e due_is).0)
      (
      λ r alive h.
      ended_lined (one_more_unit (rested app m)) None [] (effects_run app (at_rest m.state) s)
      (effects_lined app lawful (at_rest m.state) s (later_rooted m.state (at_rest m.state) (rest_later m.state) r) (rest_lined m.state r h))
      )
  unit_lined m None [] e is due_is = cc
  unit_lined m None (input ∷ more) e is due_is =
      subst (λ (x : Entry). To m x (change_by app m [] x)) (sym (live_due app m.state (Taken (m.taken + 1)) e due_is).0)
      (
      λ r alive h.
      let n : Machine K = rested app m in
      take_lined n m.inputs (later_rooted m.state (at_rest m.state) (rest_later m.state) r) (λ lives. rest_lined m.state r h)
      )

  due_lined : (m : Machine K) (ls : List (Listener K)) (e : Entry) → waiting m ≡ ls → if_live m.state (due_heard app m ls) ≡ Some e
      → To m e (change_by app m [] e)
  due_lined m [] e is due_is = unit_lined m (next m.state) m.inputs e refl due_is
  due_lined m (l ∷ ls) e is due_is =
      subst (λ (x : Entry). To m x (change_by app m [] x)) (sym (live_due app m.state (Heard l.origin) e due_is).0)
      (λ r alive h. first_lined m (waiting m) r (λ lives. h))

  idle_lined : (m : Machine K) (built : Bool) (e : Entry) → if_live m.state (if built then due_heard app m (waiting m) else Some Build) ≡ Some e
      → To m e (change_by app m [] e)
  idle_lined m true e due_is = due_lined m (waiting m) e refl due_is
  idle_lined m false e due_is =
      subst (λ (x : Entry). To m x (change_by app m [] x)) (sym (live_due app m.state Build e due_is).0)
      (λ r alive h. ended_lined (record m { built = true; unit = true }) None [] (run app m.state 0) (run_lined app lawful m.state 0 h))

  work_lined : (m : Machine K) (work : List (Item K)) (e : Entry)
      → if_live m.state (if m.built then due_item app m work else Some Build) ≡ Some e → To m e (change_by app m work e)
  work_lined m [] e due_is = idle_lined m m.built e due_is
  work_lined m (i ∷ rest) e due_is = by_built m.built due_is
    where
      item : (j : Item K) → if_live m.state (due_item app m (j ∷ rest)) ≡ Some e → To m e (change_by app m (j ∷ rest) e)
      item (Draw s side p k) g = cc
      item (Row b step) g = cc
      item (Make s side p c) g =
          let found = made_due app m.state (is_live m.state s) m.state.next_scope e g in
          subst (λ (x : Entry). To m x (change_by app m (Make s side p c ∷ rest) x)) (sym found.1)
          (λ r alive h. ended_lined m (Some (Make s side p c)) rest (outcome_of app m.state (Make s side p c)) (item_lined m.state (Make s side p c) h))
      item (Feed s side p c) g =
          let found = fed_due app m.state c (fed_child m.state s side p) e g in
          let t : ℕ = found.0 in
          subst (λ (x : Entry). To m x (change_by app m (Feed s side p c ∷ rest) x)) (sym found.2)
          (subst (λ (u : Machine K). To m e u) (sym (fed_change app m s side p c rest t (keeps app m.state t c)))
          (λ r alive h. ended_lined m (Some (Feed s side p c)) rest (outcome_of app m.state (Feed s side p c)) (item_lined m.state (Feed s side p c) h)))
      item (Drop t s side) g =
          let l : ℕ = next_removed m.state t in
          let this : Item K = Drop t s side in
          subst (λ (x : Entry). To m x (change_by app m (this ∷ rest) x)) (sym (live_due app m.state (Removed l) e g).0)
          (
          λ r alive h.
          either (nat_eq l t) (ended_by m (Some this) rest (removed app m.state l)) (ended_by m (Some this) (this ∷ rest) (removed app m.state l))
          (ended_lined m (Some this) rest (removed app m.state l) (removed_lined m.state l h))
          (ended_lined m (Some this) (this ∷ rest) (removed app m.state l) (removed_lined m.state l h))
          )
        where
          either : (b : Bool) (x y : Machine K) → LinedM x → LinedM y → LinedM (if b then x else y)
          either true x y f g = f
          either false x y f g = g

      by_built : (b : Bool) → if_live m.state (if b then due_item app m (i ∷ rest) else Some Build) ≡ Some e → To m e (change_by app m (i ∷ rest) e)
      by_built true g = item i g
      by_built false g =
          subst (λ (x : Entry). To m x (change_by app m (i ∷ rest) x)) (sym (live_due app m.state Build e g).0)
          (λ r alive h. any i h)
        where
          any : (j : Item K) → Lined m.state → LinedM (change_by app m (j ∷ rest) Build)
          any (Draw s side p k) h = ended_lined (record m { built = true; unit = true }) None [] (run app m.state 0) (run_lined app lawful m.state 0 h)
          any (Row b step) h = ended_lined (record m { built = true; unit = true }) None [] (run app m.state 0) (run_lined app lawful m.state 0 h)
          any (Make s side p c) h = ended_lined (record m { built = true; unit = true }) None [] (run app m.state 0) (run_lined app lawful m.state 0 h)
          any (Feed s side p c) h = ended_lined (record m { built = true; unit = true }) None [] (run app m.state 0) (run_lined app lawful m.state 0 h)
          any (Drop t s side) h = ended_lined (record m { built = true; unit = true }) None [] (run app m.state 0) (run_lined app lawful m.state 0 h)

  alive_due : (m : Machine K) (e : Entry) → due app m ≡ Some e → m.dead ≡ None × (if_live m.state (if m.built then due_item app m m.work else Some Build) ≡ Some e)
  alive_due m e h = by m.dead refl
    where
      by : (o : Option Fault) → m.dead ≡ o → (m.dead ≡ None) × (if_live m.state (if m.built then due_item app m m.work else Some Build) ≡ Some e)
      by None is = (
        is,
        sym (ap (λ (o : Option Fault). if_live m.state (elim o as (λ z. Option Entry)
            [ None ↦ (if m.built then due_item app m m.work else Some Build) | Some fault ↦ None ])) is) ∙ h,
      )
      by (Some fault) is =
          let absurdity : None ≡ Some e =
          sym (ap (λ (o : Option Fault). if_live m.state (elim o as (λ z. Option Entry)
          [ None ↦ (if m.built then due_item app m m.work else Some Build) | Some f ↦ None ])) is) ∙ h in
          cc

  -- one move
  pub move_lined : (limits : Limits) (m u : Machine K) (move : Move) → Moves app limits m move u → IsRooted m.state → LinedM m → LinedM u
  move_lined limits m u Silent move r h =
      subst (λ (x : Machine K). LinedM x) (sym move.gives)
      (ended_lined m (Some move.item) move.later (outcome_of app m.state move.item) (item_lined m.state move.item (h move.alive)))
  move_lined limits m u Closed move r h =
      let v : Machine K = record m { unit = false; state = mounted_state m.state } in
      let here : LinedM v = λ alive. same_lined m.state (mounted_state m.state) refl (omega arith) (h alive) in
      subst (λ (x : Machine K). LinedM x) (sym move.gives) here
  move_lined limits m u (Logged e) move r h =
      let due_is = alive_due m e move.due_is in
      subst (λ (x : Machine K). LinedM x) (sym move.gives) (work_lined m m.work e due_is.1 r due_is.0 (h due_is.0))

  -- calls that log no entry

  marked_lined : (w : State K) (s : ℕ) → Low w → Lined w → Lined (marked_now w s)
  marked_lined w s low h =
      let u : State K = record w { seen = join w.seen s } in
      by_test (is_live w s)
      (λ q. subst (λ (x : State K). Lined x) (sym (pick_true u w q)) (join_lined w s (low s q) h))
      (λ q. subst (λ (x : State K). Lined x) (sym (pick_false u w q)) h)

  marked_low : (w : State K) (s : ℕ) → Low w → Low (marked_now w s)
  marked_low w s low =
      let u : State K = record w { seen = join w.seen s } in
      let here : Low u = low in
      by_test (is_live w s)
      (λ q. subst (λ (x : State K). Low x) (sym (pick_true u w q)) here)
      (λ q. subst (λ (x : State K). Low x) (sym (pick_false u w q)) low)

  all_marked_lined : (es : List (ℕ × Scope K)) (w : State K) → Low w → Lined w → Lined (all_marked_now es w)
  all_marked_lined [] w low h = h
  all_marked_lined (e ∷ es) w low h = all_marked_lined es (marked_now w e.0) (marked_low w e.0 low) (marked_lined w e.0 low h)

  over_lined : (go : State K → State K) (w : State K) (o : Option Work) → ((v : State K) → Lined v → Lined (go v)) → Lined w → Lined (pass_over go w o)
  over_lined go w None f h = h
  over_lined go w (Some (RunEffects s)) f h = h
  over_lined go w (Some (RerunScope s)) f h =
      let v : State K = record w { seen = drop_number w.seen s; skipped = join w.skipped s } in
      by_test (may_rerun w s)
      (λ q. subst (λ (x : State K). Lined x) (sym (pick_true w (go v) q)) h)
      (λ q. subst (λ (x : State K). Lined x) (sym (pick_false w (go v) q)) (f v (left_lined w v s refl (omega arith) h)))
  over_lined go w (Some (PollTask t)) f h =
      let v : State K = record w { queued = drop_number w.queued t } in
      by_test (may_poll w t)
      (λ q. subst (λ (x : State K). Lined x) (sym (pick_true w (go v) q)) h)
      (λ q. subst (λ (x : State K). Lined x) (sym (pick_false w (go v) q)) (f v (same_lined w v refl (omega arith) h)))

  passes_lined : (n : ℕ) (w : State K) → Lined w → Lined (passes n w)
  passes_lined zero w h = h
  passes_lined (suc n) w h = over_lined (λ v. passes n v) w (found w) (λ v g. passes_lined n v g) h

  tasks_lined : (n : ℕ) (w : State K) → Lined w → Lined (tasks_passed n w)
  tasks_lined zero w h = h
  tasks_lined (suc n) w h = by (over_lined (λ v. tasks_passed n v) w (found w) (λ v g. tasks_lined n v g) h) (first_seen w)
    where
      by : Lined (pass_over (λ v. tasks_passed n v) w (found w)) → (o : Option ℕ)
          → Lined (elim o as (λ z. State K) [ None ↦ pass_over (λ v. tasks_passed n v) w (found w) | Some s ↦ w ])
      by over None = over
      by over (Some s) = h

  aside_lined : (w : State K) (a : Aside K) → Allowed w a → IsRooted w → Lined w → Lined (aside_state app w a)
  aside_lined w (Asked s next cs) allowed r h =
      same_lined w (aside_state app w (Asked s next cs)) (all_commands app (with_next w next) s None cs)
      (no_lower w (aside_state app w (Asked s next cs)) (aside_later app lawful w (Asked s next cs) allowed)) h
  aside_lined w (Marked s) allowed r h = marked_lined w s (λ t live. live_low w t r live) h
  aside_lined w AllMarked allowed r h = all_marked_lined w.scopes w (λ t live. live_low w t r live) h
  aside_lined w Looked allowed r h = look_lined w r h
  aside_lined w Thinned allowed r h = drops_lined w.queued w h
  aside_lined w Rested allowed r h = rest_lined w r h
  aside_lined w (Raised name payload element bubbles prevented) allowed r h = h
  aside_lined w Passed allowed r h = let v : State K = look w in passes_lined (length v.seen + length v.queued) v (look_lined w r h)
  aside_lined w Polling allowed r h = let v : State K = look w in tasks_lined (length v.queued) v (look_lined w r h)
  aside_lined w Answered allowed r h = same_lined w (nothing_resolved w) refl (omega arith) h
  aside_lined w (Advanced t) allowed r h =
      same_lined w (aside_state app w (Advanced t)) (advanced_seen app lawful w t)
      (no_lower w (aside_state app w (Advanced t)) (aside_later app lawful w (Advanced t) allowed)) h

  -- on a program's way
  pub record OnWay (m : Machine K) : Type 0 where
    pub ready : ReadyAt app lawful m
    pub lined : LinedM m

  pub moves_way : (limits : Limits) (moves : List Move) (m v : Machine K) → Leads app limits m moves v → OnWay m → OnWay v
  moves_way limits [] m v leads h = subst (λ (x : Machine K). OnWay x) (sym leads) h
  moves_way limits (move ∷ moves) m v leads h =
      moves_way limits moves leads.0 v leads.2
      (record {
        ready = move_ready app lawful limits m leads.0 move leads.1 h.ready;
        lined = move_lined limits m leads.0 move leads.1 h.ready.sound.rooted h.lined;
      })

  aside_way : (m u : Machine K) (a : Aside K) → IsAside app m a u → OnWay m → OnWay u
  aside_way m u a is h =
      let b : Beside app lawful m u (aside_state app m.state a) = beside app lawful m u a is in
      record {
        ready = aside_ready app lawful m u a is h.ready;
        lined =
            λ alive.
            subst (λ (x : State K). Lined x) (sym b.state)
            (aside_lined m.state a is.allowed h.ready.sound.rooted (h.lined is.rest.alive));
      }

  pub reached_lined : (limits : Limits) (props : K.Props) (inputs : List (Input K)) (m : Machine K) → Reached app limits props inputs m → m.dead ≡ None
      → Lined m.state
  reached_lined limits props inputs m reached =
      (reached_keep app limits props inputs (λ (x : Machine K). OnWay x) (λ u v moves leads s. moves_way limits moves u v leads s)
      (λ u v a h s. aside_way u v a h s)
      (
      λ firsts contexts above.
      record { ready = begun_ready app lawful props firsts contexts inputs above; lined = λ alive. record { distinct = tt; drawn = tt } }
      )
      m reached).lined
