-- What each entry of a log leaves as it was.
use Rattle.std.proofs.Common.{ℕ, zero, suc, Bool, true, false, List, [], ◌∷◌, ◌++◌, ◌≡◌, ◌≤◌, ◌<◌, ◌+◌, not, refl, sym, ap, ◌∙◌, arith, subst, nat_eq, nat_lt}
use Rattle.std.specs.Prelude.{Option, Some, None, if◌then◌else◌}
use Rattle.rt_lemmas.proofs.Numbers.{eq_is as same_of, eq_over as not_same, eq_before as not_same_above}
use Rattle.rt_lemmas.proofs.Options.{some_is as inj_some}
use Rattle.rt_model.specs.Lists.{at, put}
use Rattle.rt_model.specs.Tree.{Types, VComponent, Place, Kind}
use Rattle.rt_model.specs.World.{Scopes, Elements, Firsts, at_end, CallFault, Event, Meaning, Application}
use Rattle.rt_model.specs.Laws.{IsNumbered, IsLawful}
use Rattle.rt_model.specs.State.{SideName, MainSide, ChildrenSide, FallbackSide, Posted, Mark, Woken, Fault, IdsExhausted, Side, Scope, State, Item, Draw, Row, Feed, Make, Drop, Outcome, Done, Cut, side_of, with_side, new_scope, world_of}
use Rattle.rt_model.specs.Commands.{post, write_cell, end, commands}
use Rattle.rt_model.specs.Next.{look, at_rest}
use Rattle.rt_model.specs.Run.{fault_of, with_next, run, called_once}
use Rattle.rt_model.specs.Boundary.{boundary_step}
use Rattle.rt_model.specs.Removal.{removed}
use Rattle.rt_model.specs.Heard.{Listener}
use Rattle.rt_model.specs.Replay.{Entry, Build, Taken, Heard, Rerun, Poll, Effects, Made, Fed, Kept, Removed, Post, MarkScope, WakeTask, AllDirty, Message, Input, EventAt, WakeOf, WriteOf, MarkOf, Drain, Machine, ended_by, numbered, draws, rows_left, mounted_state, closed_at, closed, waiting, post_all, post_message, post_messages, looked_where_quiet, then_looked, taken_in, take_next, one_more_unit, with_child, with_new_scope, row_first, row_next, served, settled, made_in, made, with_props, polled, effects_run, further, heard_event, heard_first, rested, rerun, change_by, step, drawn_on, fed_child, keeps, handed}
use Rattle.rt_model.specs.Lasting.{Rises, IsRooted}
use Rattle.rt_model.proofs.Maps.{by_test, eq_same, none_some, at_append_none, at_append_here, at_put_here}
use Rattle.rt_model.proofs.TourLooks.{mounted_kept}
use Rattle.rt_model.proofs.TourCalls as tour
use Rattle.rt_model.proofs.TourCalls.{state_of}
use Rattle.rt_model.proofs.Frames.{shape, shape_steady, with_put, change_same, post_same, write_same}
use Rattle.rt_model.proofs.RunFrames.{rises_refl, tasks_from, later_goes, later_calls, Later, later_refl, later_trans, after_next, later_same, LaterO, change_later, called, next_later, run_later, step_later, from_later, once_later}
use Rattle.rt_model.proofs.StepFrames.{look_same, rest_same, Follows, follows_later, follows_trans, follows_refl, removed_follows}

pub by_order : {P : Type 0} (t n : ℕ) → (t < n → P) → (n ≤ t → P) → P
by_order t n f g =
    by_test (nat_lt t n)
    (λ q. let l : t < n = grind (arith, q) in f l)
    (λ q. let l : n ≤ t = grind (arith, q) in g l)

abbrev height_at : Option (Option ℕ × ℕ) → ℕ
height_at None = 0
height_at (Some p) = p.1

module _ {K : Types} where
  abbrev pub parent_or : Option (Scope K) → Option ℕ
  parent_or None = None
  parent_or (Some x) = x.parent

  abbrev height_or : Option (Scope K) → ℕ
  height_or None = 0
  height_or (Some x) = x.height

  later_if : (w : State K) (c : Bool) (x y : Machine K) → Later w x.state → Later w y.state → Later w (if c then x else y).state
  later_if w true x y h g = h
  later_if w false x y h g = g

  pub ended_later : (w : State K) (m : Machine K) (r : Option (Item K)) (rest : List (Item K)) (o : Outcome K) → LaterO w o → Later w (ended_by m r rest o).state
  ended_later w m r rest (Done v work) h = h
  ended_later w m r rest (Cut v fault) h = h

  pub ended_follows : (w : State K) (m : Machine K) (r : Option (Item K)) (rest : List (Item K)) (o : Outcome K) → Follows w (state_of o) → Follows w (ended_by m r rest o).state
  ended_follows w m r rest (Done v work) h = h
  ended_follows w m r rest (Cut v fault) h = h

  side_shape : (x : Scope K) (side : SideName) (a : Side K) → shape (Some (with_side x side a)) ≡ shape (Some x)
  side_shape x MainSide a = refl
  side_shape x ChildrenSide a = refl
  side_shape x FallbackSide a = refl

  pub numbered_later : (w : State K) (s : ℕ) (side : SideName) (p : Place) (k : Kind) → Later w (numbered w s side p k)
  numbered_later w s side p k =
      let n : Firsts = record (w.next) { elements = w.next.elements + 1 } in
      let a : w.next.tasks ≤ w.next.tasks = omega arith in
      let b : w.next.cells ≤ w.next.cells = omega arith in
      let c : w.next.contexts ≤ w.next.contexts = omega arith in
      let d : w.next.elements ≤ w.next.elements + 1 = omega arith in
      let e : w.next.errors ≤ w.next.errors = omega arith in
      let r : Rises w.next n = record { tasks = a; cells = b; contexts = c; elements = d; errors = e } in
      after_next w n (numbered w s side p k) r
      (change_same w.next.tasks (with_next w n) s (λ x. with_side x side (record (side_of x side) { numbers = (side_of x side).numbers ++ (p, k, w.next.elements) ∷ [] })) (λ x. side_shape x side _))

  drawn_later : (go : Machine K → Machine K) (m : Machine K) (i : Item K) (rest : List (Item K)) (v : State K) (end : Bool) → Later m.state (go (record m { state = v; work = rest })).state
      → Later m.state (drawn_on go m i rest (if end then Cut m.state (IdsExhausted Elements) else Done v [])).state
  drawn_later go m i rest v true h = later_refl m.state
  drawn_later go m i rest v false h = h

  draws_later : (work : List (Item K)) (m : Machine K) → Later m.state (draws work m).state
  draws_later [] m = later_refl m.state
  draws_later (Draw s side p k ∷ rest) m =
      let v : Machine K = record m { state = numbered m.state s side p k; work = rest } in
      drawn_later (λ u. draws rest u) m (Draw s side p k) rest v.state (at_end m.state.next.elements)
      (later_trans m.state v.state (draws rest v).state (numbered_later m.state s side p k) (draws_later rest v))
  draws_later (Row b step ∷ rest) m = later_refl m.state
  draws_later (Feed s side p c ∷ rest) m = later_refl m.state
  draws_later (Make s side p c ∷ rest) m = later_refl m.state
  draws_later (Drop t s side ∷ rest) m = later_refl m.state

  pub mounted_later : (w : State K) → Later w (mounted_state w)
  mounted_later w = later_same w (mounted_state w) (mounted_kept shape shape_steady w.next.tasks w)

  closed_at_later : (m : Machine K) (work : List (Item K)) (unit : Bool) → Later m.state (closed_at m work unit).state
  closed_at_later m [] true = mounted_later m.state
  closed_at_later m [] false = later_refl m.state
  closed_at_later m (i ∷ rest) unit = later_refl m.state

  closed_by : (m : Machine K) (o : Option Fault) → Later m.state (elim o as (λ z. Machine K) [ None ↦ closed_at m m.work m.unit | Some fault ↦ m ]).state
  closed_by m None = closed_at_later m m.work m.unit
  closed_by m (Some fault) = later_refl m.state

  closed_later : (m : Machine K) → Later m.state (closed m).state
  closed_later m = closed_by m m.dead

  post_later : (w : State K) (p : Posted) → Later w (post w p)
  post_later w p = later_same w (post w p) (post_same w.next.tasks w p)

  look_later : (w : State K) → Later w (look w)
  look_later w = later_same w (look w) (look_same w.next.tasks w)

  pub rest_later : (w : State K) → Later w (at_rest w)
  rest_later w = later_same w (at_rest w) (rest_same w.next.tasks w)

  post_all_later : (es : List (ℕ × Scope K)) (w : State K) → Later w (post_all es w)
  post_all_later [] w = later_refl w
  post_all_later (e ∷ es) w = later_trans w (post w (Mark e.0)) (post_all es (post w (Mark e.0))) (post_later w (Mark e.0)) (post_all_later es (post w (Mark e.0)))

  message_later : (w : State K) (p : Post) → Later w (post_message w p)
  message_later w (MarkScope s) = post_later w (Mark s)
  message_later w (WakeTask t) = post_later w (Woken t)
  message_later w AllDirty = post_all_later w.scopes w

  messages_later : (w : State K) (ms : List Message) → Later w (post_messages w ms)
  messages_later w [] = later_refl w
  messages_later w (m ∷ ms) =
      later_trans w (post_message w m.what) (post_messages (post_message w m.what) ms) (message_later w m.what) (messages_later (post_message w m.what) ms)

  quiet_later : (m : Machine K) (ls : List (Listener K)) → Later m.state (looked_where_quiet m ls).state
  quiet_later m [] = look_later m.state
  quiet_later m (l ∷ ls) = later_refl m.state

  then_looked_later : (m : Machine K) → Later m.state (then_looked m).state
  then_looked_later m = quiet_later m (waiting m)

  taken_in_later : (m : Machine K) (i : Input K) → Later m.state (taken_in m i).state
  taken_in_later m (EventAt name payload element bubbles) = later_refl m.state
  taken_in_later m (WakeOf t) = post_later m.state (Woken t)
  taken_in_later m (WriteOf n v) = later_same m.state (write_cell m.state n v) (write_same m.state.next.tasks m.state n v)
  taken_in_later m (MarkOf s) = post_later m.state (Mark s)
  taken_in_later m (Drain messages) = messages_later m.state messages

  pub take_next_later : (m : Machine K) (is : List (Input K)) → Later m.state (take_next m is).state
  take_next_later m [] = later_refl m.state
  take_next_later m (i ∷ rest) =
      let v : Machine K = taken_in (record m { inputs = rest; taken = m.taken + 1; units = 0; default_enabled = true; listeners = [] }) i in
      later_trans m.state v.state (then_looked v).state
      (taken_in_later (record m { inputs = rest; taken = m.taken + 1; units = 0; default_enabled = true; listeners = [] }) i)
      (then_looked_later v)

  -- the scope that is made stands under its maker
  append_rooted : (w : State K) (c : VComponent K) (s height : ℕ) (x : Scope K) (side : SideName) → at w.scopes s ≡ Some x → height ≡ x.height → IsRooted w
      → IsRooted (record w { next_scope = w.next_scope + 1; scopes = w.scopes ++ (w.next_scope, new_scope c (Some s) (height + 1) side) ∷ [] })
  append_rooted w c s height x side here high r =
      let n : ℕ = w.next_scope in
      let new : Scope K = new_scope c (Some s) (height + 1) side in
      let below : (t : ℕ) (y : Scope K) → at w.scopes t ≡ Some y → t < n =
      λ t y e. by_order t n (λ l. l) (λ l. none_some (r.drawn t l) e) in
      let self : at w.scopes n ≡ None = r.drawn n (omega arith) in
      let old : (t : ℕ) → t < n → at (w.scopes ++ (n, new) ∷ []) t ≡ at w.scopes t =
      λ t l. at_append_none w.scopes n new t (not_same n t l) in
      record {
        drawn =
            λ t l.
            let above : n ≤ t = omega (arith, l) in
            let other : nat_eq n t ≡ false = not_same_above n t l in
            at_append_none w.scopes n new t other ∙ r.drawn t above;
        parents =
            λ t p y e q.
            by_test (nat_eq n t)
            (
            λ k.
            let made : Some new ≡ Some y = sym (at_append_here w.scopes n new t k (ap (λ (i : ℕ). at w.scopes i) (sym (same_of n t k)) ∙ self)) ∙ e in
            let up : s ≡ p = inj_some (ap (λ (o : Option (Scope K)). parent_or o) made ∙ q) in
            let low : s < n = below s x here in
            omega (arith, up, low)
            )
            (λ k. let low : p < n = r.parents t p y (sym (at_append_none w.scopes n new t k) ∙ e) q in omega (arith, low));
        heights =
            λ t p y z e q f.
            by_test (nat_eq n t)
            (
            λ k.
            let made : Some new ≡ Some y = sym (at_append_here w.scopes n new t k (ap (λ (i : ℕ). at w.scopes i) (sym (same_of n t k)) ∙ self)) ∙ e in
            let up : s ≡ p = inj_some (ap (λ (o : Option (Scope K)). parent_or o) made ∙ q) in
            let above : Some x ≡ Some z = sym here ∙ ap (λ (i : ℕ). at w.scopes i) up ∙ sym (old p (subst (λ (i : ℕ). i < n) up (below s x here))) ∙ f in
            sym (ap (λ (o : Option (Scope K)). height_or o) made) ∙ ap (λ (i : ℕ). i + 1) high ∙ ap (λ (o : Option (Scope K)). height_or o + 1) above
            )
            (
            λ k.
            let was : at w.scopes t ≡ Some y = sym (at_append_none w.scopes n new t k) ∙ e in
            let low : p < n = r.parents t p y was q in
            r.heights t p y z was q (sym (old p low) ∙ f)
            );
      }

  with_child_shape : (x : Scope K) (side : SideName) (p : Place) (t : ℕ) → shape (Some (with_child side p t x)) ≡ shape (Some x)
  with_child_shape x side p t = side_shape x side _

  -- making a scope
  new_follows : (w : State K) (s : ℕ) (side : SideName) (p : Place) (c : VComponent K) (x : Scope K) → at w.scopes s ≡ Some x → Follows w (with_new_scope w s side p c x)
  new_follows w s side p c x h =
      let held : Scope K = with_child side p w.next_scope x in
      let v : State K = record w { scopes = put w.scopes s held } in
      let kept : Later w v = later_same w v (with_put w.next.tasks w s x held h (with_child_shape x side p w.next_scope)) in
      let first : Follows w v = follows_later w v kept in
      let here : at v.scopes s ≡ Some held = at_put_here w.scopes s held s (eq_same s) in
      let high : x.height ≡ held.height = sym (ap (λ (o : Option (Option ℕ × ℕ)). height_at o) (with_child_shape x side p w.next_scope)) in
      let more : w.next_scope ≤ w.next_scope + 1 = omega arith in
      record {
        gone = λ t l e. at_append_none v.scopes w.next_scope (new_scope c (Some s) (x.height + 1) side) t (not_same w.next_scope t l) ∙ first.gone t l e;
        ended = λ t l e. e;
        rises = rises_refl w.next;
        next_scope = more;
        rooted = λ r. append_rooted v c s x.height held side here high (first.rooted r);
      }

module _ {K : Types} (app : Application K) (lawful : IsLawful K app) where
  serving_at : (m : Machine K) (o : Option Fault) (f : Machine K → Machine K) → ((v : Machine K) → Later v.state (f v).state)
      → Later m.state (elim o as (λ z. Machine K) [ None ↦ f m | Some fault ↦ m ]).state
  serving_at m None f h = h m
  serving_at m (Some fault) f h = later_refl m.state

  row_first_later : (go : Machine K → Machine K) (m : Machine K) (work : List (Item K)) → ((v : Machine K) → Later v.state (go v).state) → Later m.state (row_first app go m work).state
  row_first_later go m [] h = later_refl m.state
  row_first_later go m (Row b step ∷ rest) h =
      let v : Machine K = ended_by m (Some (Row b step)) rest (boundary_step app m.state b step) in
      later_trans m.state v.state (go v).state
      (ended_later m.state m (Some (Row b step)) rest (boundary_step app m.state b step) (step_later app lawful m.state b step))
      (h v)
  row_first_later go m (Draw s side p k ∷ rest) h = later_refl m.state
  row_first_later go m (Feed s side p c ∷ rest) h = later_refl m.state
  row_first_later go m (Make s side p c ∷ rest) h = later_refl m.state
  row_first_later go m (Drop t s side ∷ rest) h = later_refl m.state

  row_next_later : (go : Machine K → Machine K) (m : Machine K) → ((v : Machine K) → Later v.state (go v).state) → Later m.state (row_next app go m).state
  row_next_later go m h = serving_at m m.dead (λ v. row_first app go v v.work) (λ v. row_first_later go v v.work h)

  served_later : (n : ℕ) (m : Machine K) → Later m.state (served app n m).state
  served_later zero m = serving_at m m.dead (λ v. draws v.work v) (λ v. draws_later v.work v)
  served_later (suc n) m =
      serving_at m m.dead (λ v. row_next app (λ u. served app n u) (draws v.work v))
      (λ v. later_trans v.state (draws v.work v).state (row_next app (λ u. served app n u) (draws v.work v)).state (draws_later v.work v) (row_next_later (λ u. served app n u) (draws v.work v) (λ u. served_later n u)))

  pub settled_later : (m : Machine K) → Later m.state (settled app m).state
  settled_later m =
      let v : Machine K = served app (rows_left m.work) m in
      later_trans m.state v.state (closed v).state (served_later (rows_left m.work) m) (closed_later v)

  pub with_props_later : (w : State K) (t : ℕ) (c : VComponent K) → Later w (with_props app w t c)
  with_props_later w t c = change_later w t (λ x. record x { component = c }) (λ x. refl)

  made_in_follows : (w : State K) (s : ℕ) (side : SideName) (p : Place) (c : VComponent K) (x : Scope K) (end : Bool) → at w.scopes s ≡ Some x
      → Follows w (state_of (if end then Cut w (IdsExhausted Scopes) else run app (with_new_scope w s side p c x) w.next_scope))
  made_in_follows w s side p c x true h = follows_refl w
  made_in_follows w s side p c x false h =
      let v : State K = with_new_scope w s side p c x in
      follows_trans w v (state_of (run app v w.next_scope)) (new_follows w s side p c x h) (follows_later v (state_of (run app v w.next_scope)) (run_later app lawful v w.next_scope))

  made_at_follows : (w : State K) (s : ℕ) (side : SideName) (p : Place) (c : VComponent K) (o : Option (Scope K)) → at w.scopes s ≡ o
      → Follows w (state_of (elim o as (λ z. Outcome K) [ None ↦ Done w [] | Some x ↦ made_in app w s side p c x ]))
  made_at_follows w s side p c None h = follows_refl w
  made_at_follows w s side p c (Some x) h = made_in_follows w s side p c x (at_end w.next_scope) h

  made_follows : (w : State K) (s : ℕ) (side : SideName) (p : Place) (c : VComponent K) → Follows w (state_of (made app w s side p c))
  made_follows w s side p c = made_at_follows w s side p c (at w.scopes s) refl

  pub polled_later : (w : State K) (t : ℕ) → LaterO w (polled app w t)
  polled_later w t = tour.polled_goes shape Later tasks_from shape_steady later_goes app (λ f cs g. IsNumbered f cs g) (later_calls app lawful) w t

  pub effects_later : (w : State K) (s : ℕ) → LaterO w (effects_run app w s)
  effects_later w s = tour.effects_goes shape Later tasks_from shape_steady later_goes app (λ f cs g. IsNumbered f cs g) (later_calls app lawful) w s

  heard_at_later : (m : Machine K) (l : Listener K) (ls : List (Listener K)) (meaning : Meaning K (Event K)) (o : Option CallFault) → IsNumbered m.state.next meaning.commands meaning.next
      → Later m.state (elim o as (λ z. Machine K) [
        | None ↦
            then_looked
            (record m {
              state = commands app (with_next m.state meaning.next) l.origin None meaning.commands;
              event = Some meaning.answer;
              default_enabled = not meaning.answer.prevented;
              listeners = further app m meaning.answer ls;
            })
        | Some f ↦ record m { state = with_next m.state meaning.next; listeners = ls; dead = Some (fault_of f); refused = None }
      ]).state
  heard_at_later m l ls meaning None n =
      let v : Machine K =
      record m {
        state = commands app (with_next m.state meaning.next) l.origin None meaning.commands;
        event = Some meaning.answer;
        default_enabled = not meaning.answer.prevented;
        listeners = further app m meaning.answer ls;
      } in
      later_trans m.state v.state (then_looked v).state (called app lawful m.state l.origin None meaning n) (then_looked_later v)
  heard_at_later m l ls meaning (Some f) n = next_later app lawful m.state meaning n

  pub heard_event_later : (m : Machine K) (l : Listener K) (ls : List (Listener K)) (o : Option (Event K)) → Later m.state (heard_event app m l ls o).state
  heard_event_later m l ls None = later_refl m.state
  heard_event_later m l ls (Some event) =
      let meaning : Meaning K (Event K) = app.handle l.handler event (world_of m.state l.origin None false) in
      let u : Machine K = record m { state = called_once m.state } in
      later_trans m.state u.state (heard_event app m l ls (Some event)).state (once_later app lawful m.state)
      (heard_at_later u l ls meaning meaning.fault (lawful.handlers_number l.handler event (world_of m.state l.origin None false)))

  heard_later : (m : Machine K) (ls : List (Listener K)) → Later m.state (heard_first app m ls).state
  heard_later m [] = later_refl m.state
  heard_later m (l ∷ ls) = heard_event_later m l ls m.event

  dropped_follows : (m : Machine K) (t child : ℕ) (this : Item K) (rest : List (Item K)) (c : Bool)
      → Follows m.state (if c then ended_by m (Some this) rest (removed app m.state t) else ended_by m (Some this) (this ∷ rest) (removed app m.state t)).state
  dropped_follows m t child this rest true = ended_follows m.state m (Some this) rest (removed app m.state t) (removed_follows app lawful m.state t)
  dropped_follows m t child this rest false = ended_follows m.state m (Some this) (this ∷ rest) (removed app m.state t) (removed_follows app lawful m.state t)

  after_rest : (m v : Machine K) → Later (at_rest m.state) v.state → Follows m.state v.state
  after_rest m v h = follows_later m.state v.state (later_trans m.state (at_rest m.state) v.state (rest_later m.state) h)

  handed_later : (w : State K) (t : ℕ) (c : VComponent K) (keeps : Bool) → LaterO w (if keeps then Done (with_props app w t c) [] else run app (with_props app w t c) t)
  handed_later w t c true = with_props_later w t c
  handed_later w t c false = let v : State K = with_props app w t c in from_later w v (run app v t) (with_props_later w t c) (run_later app lawful v t)

  fed_later : (w : State K) (c : VComponent K) (o : Option ℕ) → LaterO w (elim o [ None ↦ Done w [] | Some t ↦ handed app w t c ])
  fed_later w c None = later_refl w
  fed_later w c (Some t) = handed_later w t c (keeps app w t c)

  fed_follows : (m : Machine K) (s : ℕ) (side : SideName) (p : Place) (c : VComponent K) (rest : List (Item K)) (o : Option ℕ)
      → Follows m.state (ended_by m (Some (Feed s side p c)) rest (elim o [ None ↦ Done m.state [] | Some t ↦ handed app m.state t c ])).state
  fed_follows m s side p c rest o =
      let f : Outcome K = elim o [ None ↦ Done m.state [] | Some t ↦ handed app m.state t c ] in
      follows_later m.state (ended_by m (Some (Feed s side p c)) rest f).state (ended_later m.state m (Some (Feed s side p c)) rest f (fed_later m.state c o))

  pub change_follows : (m : Machine K) (work : List (Item K)) (e : Entry) → Follows m.state (change_by app m work e).state
  change_follows m (Make s side p c ∷ rest) (Made t) = ended_follows m.state m (Some (Make s side p c)) rest (made app m.state s side p c) (made_follows m.state s side p c)
  change_follows m (Feed s side p c ∷ rest) (Kept t) = fed_follows m s side p c rest (fed_child m.state s side p)
  change_follows m (Feed s side p c ∷ rest) (Fed t) = fed_follows m s side p c rest (fed_child m.state s side p)
  change_follows m (Drop child s side ∷ rest) (Removed t) = dropped_follows m t child (Drop child s side) rest (nat_eq t child)
  change_follows m _ Build = follows_later m.state _ (ended_later m.state (record m { built = true; unit = true }) None [] (run app m.state 0) (run_later app lawful m.state 0))
  change_follows m _ (Taken k) = let r : Machine K = rested app m in after_rest m (take_next r r.inputs) (take_next_later r r.inputs)
  change_follows m _ (Heard s) = follows_later m.state (heard_first app m (waiting m)).state (heard_later m (waiting m))
  change_follows m _ (Rerun s) =
      let r : Machine K = rested app m in
      after_rest m (rerun app r s) (ended_later r.state (one_more_unit r) None [] (run app r.state s) (run_later app lawful r.state s))
  change_follows m _ (Poll t) =
      let r : Machine K = rested app m in
      after_rest m (ended_by (one_more_unit r) None [] (polled app r.state t)) (ended_later r.state (one_more_unit r) None [] (polled app r.state t) (polled_later r.state t))
  change_follows m _ (Effects s) =
      let r : Machine K = rested app m in
      after_rest m (ended_by (one_more_unit r) None [] (effects_run app r.state s)) (ended_later r.state (one_more_unit r) None [] (effects_run app r.state s) (effects_later r.state s))
  change_follows m _ _ = follows_refl m.state

  -- what an entry leaves as it was
  pub step_follows : (m : Machine K) (e : Entry) → Follows m.state (step app m e).state
  step_follows m e =
      let v : Machine K = change_by app m m.work e in
      follows_trans m.state v.state (settled app v).state (change_follows m m.work e) (follows_later v.state (settled app v).state (settled_later v))
