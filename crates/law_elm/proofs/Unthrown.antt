-- A boundary without an error has none until a call throws to it.
use Rattle.std.proofs.Common.{ℕ, Bool, true, false, List, [], ◌∷◌, ◌++◌, ◌≡◌, ◌+◌, refl, ap, ◌∙◌, nat_eq}
use Rattle.std.specs.Prelude.{Option, Some, None, if◌then◌else◌}
use Rattle.rt_model.specs.Lists.{at, put, without}
use Rattle.rt_model.specs.Tree.{Types, Element, VComponent, Place, Kind}
use Rattle.rt_model.specs.World.{Cell, Error, Context, Command, Write, DropCell, NewCell, NewContext, Reset, ReadInto, Spawn, RemoveFuture, Wake, SetActive, Provide, Throw, ClearErrors, World, Meaning, Application}
use Rattle.rt_model.specs.State.{SideName, MainSide, ChildrenSide, FallbackSide, Mark, Woken, Side, Scope, State, empty_side, side_of, with_side, new_scope, change, error_context, world_of}
use Rattle.rt_model.specs.Commands.{released, post, tell, activated, provided_at, command}
use Rattle.rt_model.specs.Next.{look, at_rest}
use Rattle.rt_model.specs.Run.{with_next, called_where, is_own, kept_call, body_of}
use Rattle.rt_model.specs.Removal.{gone}
use Rattle.rt_model.specs.Replay.{Entry, Build, Taken, Heard, Rerun, Poll, Effects, Made, Fed, Kept, Removed, Input, EventAt, WakeOf, WriteOf, MarkOf, Drain, Message, Post, MarkScope, WakeTask, AllDirty, Machine, post_message, numbered, with_new_scope}
use Rattle.rt_model.specs.Causes.{Limits}
use Rattle.rt_model.proofs.Maps.{eq_same, at_without_other}
use Rattle.rt_model.proofs.Members.{clash}
use Rattle.law_moves.specs.Moves.{Move, Silent, Closed, Logged, entries, Leads}
use Rattle.law_behavior.specs.Along.{removed_in, NoneRemoves}
use Rattle.law_behavior.specs.Keeping.{IsOther}
use Rattle.law_behavior.proofs.Readers.{post_posts}
use Rattle.law_behavior.proofs.Frames.{Cause, Tells, Free, Permits, with_tree, Frame, Called}
use Rattle.law_behavior.proofs.Commanded.{MayTell, MayThrow, MayClear, MayProvide, Allowed, Caused, AllAllowed}
use Rattle.law_behavior.proofs.Onwards.{MayTake, MayPost, MayPostAll, MayWake, Sparing, Waking, AllSparing, GoodOn, moves_on}
use Rattle.law_behavior.proofs.Steadfast.{Of, Other, from_zero, draw_anyway, of_others, of_put, of_change, of_released, at_more, mounted_row}
use Rattle.law_elm.specs.ErrorsStayAway.{SparesError, NoneThrows, NoneThrowsOn, NoErrorComes}
use Rattle.law_lasting.proofs.Told.{posts_same, tell_same, look_same, calls_same, activated_same, gone_same}

-- a cause that doesn't tell of the error of this boundary
abbrev NotError : ℕ → Cause → Type 0
NotError b (Tells (Error n)) = nat_eq n b ≡ false
NotError b _ = Unit {0}

-- another scope may be removed, and errors of other boundaries told of
abbrev others_throw : {K : Types} → ℕ → Permits K
others_throw b =
    record {
      clearable = Free;
      makeable = Free;
      writable = Free;
      droppable = Free;
      openable = Free;
      readable = Free;
      pollable = Free;
      endable = Free;
      spawnable = λ w t s a. Unit {0};
      feedable = Free;
      removable = λ s. Other b s;
      causable = λ w c. NotError b c;
    }

module _ {K : Types} where
  abbrev NoError : Scope K → Type 0
  NoError x = x.error ≡ None

  side_error : (x : Scope K) (d : SideName) (a : Side K) → NoError x → NoError (with_side x d a)
  side_error x MainSide a h = h
  side_error x ChildrenSide a h = h
  side_error x FallbackSide a h = h

module _ {K : Types} (app : Application K) (b : ℕ) where
  abbrev Bare : State K → Type 0
  Bare w = Of b (λ x. NoError x) w

  provided_bare : (w : State K) (r c : ℕ) (v : K.Value) (o : Option K.Value) → Bare w → Bare (provided_at app w r c v o)
  provided_bare w r c v o h = on o (of_change b (λ x. NoError x) w r (λ x. record x { contexts = put x.contexts c v }) (λ x e a. a) h)
    where
      one_of : (z : Bool) (x y : State K) → Bare x → Bare y → Bare (if z then x else y)
      one_of true x y f g = f
      one_of false x y f g = g

      on : (q : Option K.Value) → Bare (change w r (λ x. record x { contexts = put x.contexts c v })) → Bare (provided_at app w r c v q)
      on None g =
          let u : State K = change w r (λ x. record x { contexts = put x.contexts c v }) in
          of_others b (λ x. NoError x) u (tell u (Context c r)) (tell_same u (Context c r)).scopes g
      on (Some old) g =
          let u : State K = change w r (λ x. record x { contexts = put x.contexts c v }) in
          let told : Bare (tell u (Context c r)) = of_others b (λ x. NoError x) u (tell u (Context c r)) (tell_same u (Context c r)).scopes g in
          one_of (app.same_value old v) u (tell u (Context c r)) g told

  numbered_bare : (w : State K) (r : ℕ) (d : SideName) (q : Place) (l : Kind) → Bare w → Bare (numbered w r d q l)
  numbered_bare w r d q l h =
      let v : State K = with_next w (record (w.next) { elements = w.next.elements + 1 }) in
      of_change b (λ x. NoError x) v r (λ x. with_side x d (record (side_of x d) { numbers = (side_of x d).numbers ++ (q, l, w.next.elements) ∷ [] }))
      (λ x e a. side_error x d (record (side_of x d) { numbers = (side_of x d).numbers ++ (q, l, w.next.elements) ∷ [] }) a)
      (of_others b (λ x. NoError x) w v refl h)

  made_bare : (w : State K) (r : ℕ) (d : SideName) (q : Place) (c : VComponent K) (x : Scope K) → at w.scopes r ≡ Some x → Bare w → Bare (with_new_scope w r d q c x)
  made_bare w r d q c x e h =
      let a : Side K = record (side_of x d) { children = (side_of x d).children ++ (q, w.next_scope) ∷ [] } in
      let joined : Bare (record w { scopes = put w.scopes r (with_side x d a) }) = of_put b (λ y. NoError y) w r x (with_side x d a) e (λ same z. side_error x d a z) h in
      record {
        row = joined.row;
        there = at_more (put w.scopes r (with_side x d a)) w.next_scope b (new_scope c (Some r) (x.height + 1) d) joined.row joined.there;
        holds = joined.holds;
      }

  called_bare : (w : State K) (r : ℕ) (own : Bool) (world : World K) (m : Meaning K (Element K)) → Bare w → Bare (kept_call (called_where own w) r world m)
  called_bare w r own world m h =
      let u : State K = with_next (called_where own w) m.next in
      let v : State K = change u r (λ x. record x { reads = m.reads }) in
      of_others b (λ x. NoError x) v (kept_call (called_where own w) r world m) refl
      (of_change b (λ x. NoError x) u r (λ x. record x { reads = m.reads }) (λ x e a. a) (of_others b (λ x. NoError x) w u (calls_same own w).scopes h))

  bare_frame : Frame app (λ w. Bare w) (λ w. Bare w) 0 (others_throw b)
  bare_frame =
      record {
        low = λ w h. from_zero w.next.tasks;
        leaves = λ w h. h;
        marks = λ w r h. of_others b (λ x. NoError x) w (post w (Mark r)) (posts_same w (post w (Mark r)) (post_posts w (Mark r))).scopes h;
        wakes = λ w t a h. of_others b (λ x. NoError x) w (post w (Woken t)) (posts_same w (post w (Woken t)) (post_posts w (Woken t))).scopes h;
        tells = λ w i a h. of_others b (λ x. NoError x) w (tell w i) (tell_same w i).scopes h;
        looks = λ w h. of_others b (λ x. NoError x) w (look w) (look_same w).scopes h;
        pauses = λ w t e h. of_others b (λ x. NoError x) w _ refl h;
        unqueues = λ w t a h. of_others b (λ x. NoError x) w _ refl h;
        unmarks = λ w r h. of_others b (λ x. NoError x) w _ refl h;
        asides = λ w v e h. of_others b (λ x. NoError x) w v (ap (λ (x : State K). x.scopes) e) h;
        nexts = λ w next low h. of_others b (λ x. NoError x) w (with_next w next) refl h;
        writes =
            λ w c v old e a told h.
            let u : State K = record w { cells = put w.cells c (record old { value = v }) } in of_others b (λ x. NoError x) w (tell u (Cell c)) (tell_same u (Cell c)).scopes h;
        drops =
            λ w c a told h. let u : State K = record w { cells = without w.cells c } in of_others b (λ x. NoError x) w (tell u (Cell c)) (tell_same u (Cell c)).scopes h;
        new_cells = λ w r c v a h. of_others b (λ x. NoError x) w _ refl h;
        new_contexts = λ w c x a h. of_others b (λ x. NoError x) w _ refl h;
        sources = λ w c x y e a h. of_others b (λ x. NoError x) w _ refl h;
        rows = λ w r x y e same h. of_put b (λ z. NoError z) w r x y e (λ q a. ap (λ (z : Scope K). z.error) same ∙ a) h;
        hooks = λ w r x hook e h. of_put b (λ z. NoError z) w r x (record x { hooks = x.hooks ++ hook ∷ [] }) e (λ q a. a) h;
        joins = λ w r t origin x e h. of_put b (λ z. NoError z) w r x (record x { holders = x.holders ++ (t, origin) ∷ [] }) e (λ q a. a) h;
        throws =
            λ w r x f e none told h.
            let y : Scope K = record x { error = Some f } in
            let u : State K = record w { scopes = put w.scopes r y } in
            of_others b (λ z. NoError z) u (tell u (Error r)) (tell_same u (Error r)).scopes (of_put b (λ z. NoError z) w r x y e (λ q a. clash (ap (λ (n : ℕ). nat_eq n b) q ∙ eq_same b) told) h);
        clears =
            λ w r x e may told h.
            let y : Scope K = record x { error = None } in
            let u : State K = record w { scopes = put w.scopes r y } in
            of_others b (λ z. NoError z) u (tell u (Error r)) (tell_same u (Error r)).scopes (of_put b (λ z. NoError z) w r x y e (λ q a. refl) h);
        provides = λ w r c v x e told h. provided_bare w r c v (at x.contexts c) h;
        feeds = λ w t c x e a h. of_put b (λ z. NoError z) w t x (record x { component = c }) e (λ q z. z) h;
        patches =
            λ w r d tree x e h.
            let y : Scope K = with_side x d (with_tree app tree (side_of x d)) in of_put b (λ z. NoError z) w r x y e (λ q a. side_error x d (with_tree app tree (side_of x d)) a) h;
        draws = λ w r d q l h. numbered_bare w r d q l h;
        empties = λ w r x e h. of_put b (λ z. NoError z) w r x (record x { fallback_side = empty_side }) e (λ q a. a) h;
        makes = λ w r d q c x e h. made_bare w r d q c x e h;
        goes =
            λ w r other told h.
            of_others b (λ x. NoError x) (record w { scopes = without w.scopes r }) (gone w r) (gone_same w r).scopes
            (record { row = h.row; there = at_without_other w.scopes r b other ∙ h.there; holds = h.holds });
        mounts =
            λ w h.
            let found = mounted_row w w.scopes b h.row h.there in
            let y : Scope K = record (h.row) { mounted = found.0 } in
            record { row = y; there = found.1; holds = h.holds };
        ends =
            λ w t a h.
            of_others b (λ x. NoError x) (record w { scopes = released w.scopes t }) _ refl (of_released b (λ x. NoError x) w t (λ x z. z) h);
        spawns =
            λ w t x live low free h.
            let v : State K = record w { tasks = w.tasks ++ (t, x) ∷ [] } in
            of_others b (λ z. NoError z) w (post v (Woken t)) (posts_same v (post v (Woken t)) (post_posts v (Woken t))).scopes h;
        goes_on = λ w t x a e may h. of_others b (λ z. NoError z) w _ refl h;
        suspends = λ w t x e h. of_others b (λ z. NoError z) w _ refl h;
        activates = λ w t active x e told h. of_others b (λ z. NoError z) w (activated w t active (Some x)) (activated_same w t active x).scopes h;
      }

  bare_called : Called app (λ w. Bare w) 0
  bare_called =
      record {
        bodies = λ w r c low h. let world : World K = world_of w r None true in called_bare w r (is_own c world) world (body_of app c world) h;
        turns =
            λ w r x e h.
            let y : Scope K = record x { shows = Some ChildrenSide; reads = [] } in
            of_others b (λ z. NoError z) (record w { scopes = put w.scopes r y }) (record w { last_calls = without w.last_calls r; scopes = put w.scopes r y }) refl
            (of_put b (λ z. NoError z) w r x y e (λ q a. a) h);
        turns_nowhere = λ w r e h. of_others b (λ z. NoError z) w (record w { last_calls = without w.last_calls r }) refl h;
      }

  -- commands

  may_clear : (o : Option ℕ) → MayClear app (λ w. Bare w) (λ w. Bare w) 0 (others_throw b) bare_frame o
  may_clear None = tt
  may_clear (Some r) = tt

  may_throw : (w : State K) (o : Option ℕ) → IsOther b o → MayThrow app (λ w. Bare w) (λ w. Bare w) 0 (others_throw b) bare_frame w o
  may_throw w None h = tt
  may_throw w (Some r) h = λ x live none. h

  may_tell : (w : State K) (o : Option ℕ) → IsOther b o → MayTell app (λ w. Bare w) (λ w. Bare w) 0 (others_throw b) bare_frame w o
  may_tell w None h = tt
  may_tell w (Some r) h = h

  may_provide : (w : State K) (s k : ℕ) (v : K.Value) (o : Option (Scope K)) → MayProvide app (λ w. Bare w) (λ w. Bare w) 0 (others_throw b) bare_frame w s k v o
  may_provide w s k v None = tt
  may_provide w s k v (Some x) = λ other. tt

  allowed : (w : State K) (s : ℕ) (c : Command K) → Allowed app (λ w. Bare w) (λ w. Bare w) 0 (others_throw b) bare_frame w s c
  allowed w s ClearErrors = may_clear (error_context w s)
  allowed w s (Spawn t a forever isomorphic) = (from_zero t, tt)
  allowed w s (RemoveFuture t) = tt
  allowed w s (Write n v) = tt
  allowed w s (DropCell n) = tt
  allowed w s (NewCell n v) = tt
  allowed w s (NewContext n target) = tt
  allowed w s (Reset n) = tt
  allowed w s (ReadInto n source) = tt
  allowed w s c = tt

  caused : (w : State K) (s : ℕ) (c : Command K) → SparesError w s b c → Caused app (λ w. Bare w) (λ w. Bare w) 0 (others_throw b) bare_frame w s c
  caused w s (Write n v) h = λ there. tt
  caused w s (DropCell n) h = λ there. tt
  caused w s (Wake t) h = tt
  caused w s (SetActive t active) h = tt
  caused w s (Provide root k v) h = may_provide w (if root then 0 else s) k v (at w.scopes (if root then 0 else s))
  caused w s (Throw e) h = may_throw w (error_context w s) h
  caused w s ClearErrors h = may_tell w (error_context w s) h
  caused w s c h = tt

  all_allowed : (w : State K) (s : ℕ) (polled : Option ℕ) (cs : List (Command K)) → NoneThrows app b w s polled cs → AllAllowed app (λ w. Bare w) (λ w. Bare w) 0 (others_throw b) bare_frame w s polled cs
  all_allowed w s polled [] h = tt
  all_allowed w s polled (c ∷ cs) h = ((allowed w s c, caused w s c h.0), all_allowed (command app w s polled c) s polled cs h.1)

  -- calls and entries

  calls_spare : (limits : Limits) (m v : Machine K) (moves : List Move) (leads : Leads app limits m moves v) → NoneThrowsOn app limits b m v moves leads
      → GoodOn app (λ w. Bare w) (λ w. Bare w) 0 (others_throw b) bare_frame (λ t. tt) bare_called (λ w s polled cs. NoneThrows app b w s polled cs) (λ w s polled cs f g. all_allowed w s polled cs g) (draw_anyway app) limits m v moves leads
  calls_spare limits m v [] leads h = tt
  calls_spare limits m v (move ∷ moves) leads h = (h.0, calls_spare limits leads.0 v moves leads.2 h.1)

  may_take : (inputs : List (Input K)) → MayTake app (λ w. Bare w) (λ w. Bare w) 0 (others_throw b) bare_frame (λ t. tt) bare_called (λ w s polled cs. NoneThrows app b w s polled cs) (λ w s polled cs f g. all_allowed w s polled cs g) (draw_anyway app) inputs
  may_take [] = tt
  may_take (WriteOf c v ∷ more) = tt
  may_take (EventAt name payload element bubbles ∷ more) = tt
  may_take (WakeOf t ∷ more) = tt
  may_take (MarkOf r ∷ more) = tt
  may_take (Drain messages ∷ more) = tt

  entry_spares : (inputs : List (Input K)) (e : Entry) → removed_in b e ≡ false
      → Sparing app (λ w. Bare w) (λ w. Bare w) 0 (others_throw b) bare_frame (λ t. tt) bare_called (λ w s polled cs. NoneThrows app b w s polled cs) (λ w s polled cs f g. all_allowed w s polled cs g) (draw_anyway app) inputs e
  entry_spares inputs (Removed r) q = q
  entry_spares inputs Build q = tt
  entry_spares inputs (Taken c) q = may_take inputs
  entry_spares inputs (Heard r) q = tt
  entry_spares inputs (Rerun r) q = tt
  entry_spares inputs (Poll t) q = tt
  entry_spares inputs (Effects r) q = tt
  entry_spares inputs (Made r) q = tt
  entry_spares inputs (Fed r) q = tt
  entry_spares inputs (Kept r) q = tt

  one_post : (w : State K) (what : Post) → MayPost app (λ w. Bare w) (λ w. Bare w) 0 (others_throw b) bare_frame (λ t. tt) bare_called (λ w s polled cs. NoneThrows app b w s polled cs) (λ w s polled cs f g. all_allowed w s polled cs g) (draw_anyway app) w what
  one_post w (MarkScope s) = tt
  one_post w (WakeTask t) = tt
  one_post w AllDirty = tt

  all_posts : (w : State K) (ms : List Message) → MayPostAll app (λ w. Bare w) (λ w. Bare w) 0 (others_throw b) bare_frame (λ t. tt) bare_called (λ w s polled cs. NoneThrows app b w s polled cs) (λ w s polled cs f g. all_allowed w s polled cs g) (draw_anyway app) w ms
  all_posts w [] = tt
  all_posts w (m ∷ ms) = (one_post w m.what, all_posts (post_message w m.what) ms)

  may_wake : (w : State K) (inputs : List (Input K)) → MayWake app (λ w. Bare w) (λ w. Bare w) 0 (others_throw b) bare_frame (λ t. tt) bare_called (λ w s polled cs. NoneThrows app b w s polled cs) (λ w s polled cs f g. all_allowed w s polled cs g) (draw_anyway app) w inputs
  may_wake w [] = tt
  may_wake w (WriteOf n v ∷ more) = λ there. tt
  may_wake w (EventAt name payload element bubbles ∷ more) = tt
  may_wake w (WakeOf t ∷ more) = tt
  may_wake w (MarkOf s ∷ more) = tt
  may_wake w (Drain messages ∷ more) = all_posts w messages

  entry_wakes : (m : Machine K) (e : Entry) → Waking app (λ w. Bare w) (λ w. Bare w) 0 (others_throw b) bare_frame (λ t. tt) bare_called (λ w s polled cs. NoneThrows app b w s polled cs) (λ w s polled cs f g. all_allowed w s polled cs g) (draw_anyway app) m e
  entry_wakes m Build = tt
  entry_wakes m (Taken k) = may_wake (at_rest m.state) m.inputs
  entry_wakes m (Heard s) = tt
  entry_wakes m (Rerun s) = tt
  entry_wakes m (Poll t) = tt
  entry_wakes m (Effects s) = tt
  entry_wakes m (Made s) = tt
  entry_wakes m (Fed s) = tt
  entry_wakes m (Kept s) = tt
  entry_wakes m (Removed s) = λ v cells contexts. tt

  moves_spare : (limits : Limits) (m v : Machine K) (moves : List Move) (leads : Leads app limits m moves v) → NoneRemoves b (entries moves)
      → AllSparing app (λ w. Bare w) (λ w. Bare w) 0 (others_throw b) bare_frame (λ t. tt) bare_called (λ w s polled cs. NoneThrows app b w s polled cs) (λ w s polled cs f g. all_allowed w s polled cs g) (draw_anyway app) limits m v moves leads
  moves_spare limits m v [] leads still = tt
  moves_spare limits m v (Silent ∷ moves) leads still = (λ q. q, moves_spare limits leads.0 v moves leads.2 still)
  moves_spare limits m v (Closed ∷ moves) leads still = moves_spare limits leads.0 v moves leads.2 still
  moves_spare limits m v (Logged e ∷ moves) leads still = (
    (entry_spares m.inputs e still.0, entry_wakes m e),
    λ q. q,
    moves_spare limits leads.0 v moves leads.2 still.1,
  )

pub no_error_comes : {K : Types} (app : Application K) → NoErrorComes app
no_error_comes {K = K} app limits m v moves b leads still none h =
    let before : Bare app b m.state = record { row = h.row; there = h.there; holds = h.none } in
    let after : Bare app b v.state =
    moves_on app (λ w. Bare app b w) (λ w. Bare app b w) 0 (others_throw b) (bare_frame app b) (λ t. tt) (bare_called app b) (λ w s polled cs. NoneThrows app b w s polled cs)
    (λ w s polled cs f g. all_allowed app b w s polled cs g) (draw_anyway app)
    limits m v moves leads (calls_spare app b limits m v moves leads none) (moves_spare app b limits m v moves leads still) before in
    record { row = after.row; there = after.there; none = after.holds }
