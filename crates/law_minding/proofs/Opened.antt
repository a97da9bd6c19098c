-- No context has the next number.
use Rattle.std.proofs.Common.{ℕ, ◌+◌, ◌≤◌, Bool, true, false, not, List, [], ◌∷◌, ◌++◌, ◌≡◌, refl, sym, ap, ◌∙◌, subst, nat_eq, arith}
use Rattle.std.specs.Prelude.{Option, Some, None, if◌then◌else◌}
use Rattle.std.specs.List.{AllByRecursion}
use Rattle.rt_lemmas.proofs.Numbers.{least, eq_before as below}
use Rattle.rt_model.specs.Lists.{at, put, without, kept_by}
use Rattle.rt_model.specs.Laws.{IsLawful}
use Rattle.rt_model.specs.Tree.{Types, Element, Place, Kind}
use Rattle.rt_model.specs.World.{Cell, Error, Context, Firsts, Command, NewCell, Write, DropCell, NewContext, Reset, ReadInto, Spawn, RemoveFuture, ClearErrors, World, Meaning, Application}
use Rattle.rt_model.specs.State.{SideName, Mark, Woken, Scope, ContextRow, State, side_of, with_side, changed_scope, change, error_context, world_of}
use Rattle.rt_model.specs.Commands.{post, tell, activated, provided_at, command}
use Rattle.rt_model.specs.Next.{look}
use Rattle.rt_model.specs.Run.{with_next, called_where, is_own, kept_call, body_of}
use Rattle.rt_model.specs.Removal.{without_scope, gone}
use Rattle.rt_model.specs.Replay.{Entry, Build, Taken, Heard, Rerun, Poll, Effects, Made, Fed, Kept, Removed, Input, EventAt, WakeOf, WriteOf, MarkOf, Drain, Machine, numbered, start}
use Rattle.rt_model.specs.Causes.{Limits}
use Rattle.rt_model.proofs.Maps.{by_test, none_some, pick_true, pick_false, at_here, at_there, at_append_none, at_put_none}
use Rattle.rt_model.proofs.Tour.{AllFresh}
use Rattle.law_moves.specs.Moves.{Move, Silent, Closed, Logged, Moves, Leads}
use Rattle.law_behavior.specs.Deeds.{Deed, move_deeds}
use Rattle.law_behavior.proofs.Readers.{post_posts}
use Rattle.law_behavior.proofs.Frames.{Free, Permits, Frame, Called}
use Rattle.law_behavior.proofs.Commanded.{MayClear, Allowed, caused_anyway, AllAllowed}
use Rattle.law_behavior.proofs.Onwards.{MayTake, Sparing, waking_anyway, AllSparing, moves_on}
use Rattle.law_behavior.proofs.Steadfast.{from_zero, draw_anyway}
use Rattle.law_lasting.proofs.Told.{posts_same, tell_same, look_same, calls_same, activated_same, gone_same}
use Rattle.law_minding.specs.Numbering.{NumberedIn, NextIsFree}
use Rattle.law_minding.proofs.Numbers.{move_rises}
use Rattle.law_minding.proofs.Numbering.{moves_number}

-- a context of another number may be made
abbrev opening : {K : Types} → ℕ → Permits K
opening n =
    record {
      clearable = Free;
      makeable = Free;
      writable = Free;
      droppable = Free;
      openable = λ c. nat_eq c n ≡ false;
      readable = Free;
      pollable = Free;
      endable = Free;
      spawnable = λ w t s a. Unit {0};
      feedable = Free;
      removable = Free;
      causable = λ w c. Unit {0};
    }

-- what isn't there isn't there when others are gone
pub kept_none : {A : Type 0} (f : ℕ × A → Bool) (n : ℕ) (es : List (ℕ × A)) → at es n ≡ None → at (kept_by f es) n ≡ None
kept_none f n [] h = refl
kept_none {A = A} f n (e ∷ es) h =
    let later : List (ℕ × A) = kept_by f es in
    by_test (nat_eq e.0 n)
    (λ q. none_some h (at_here e.0 e.1 es n q))
    (
    λ q.
    let rest : at later n ≡ None = kept_none f n es (sym (at_there e.0 e.1 es n q) ∙ h) in
    by_test (f e)
    (λ p. ap (λ (ds : List (ℕ × A)). at ds n) (pick_true (e ∷ later) later p) ∙ at_there e.0 e.1 later n q ∙ rest)
    (λ p. ap (λ (ds : List (ℕ × A)). at ds n) (pick_false (e ∷ later) later p) ∙ rest)
    )

module _ {K : Types} where
  changes_same : (w : State K) (s : ℕ) (f : Scope K → Scope K) (o : Option (Scope K)) → (changed_scope w s f o).contexts ≡ w.contexts
  changes_same w s f None = refl
  changes_same w s f (Some x) = refl

  bodies_same : (w : State K) (s : ℕ) (own : Bool) (world : World K) (m : Meaning K (Element K)) → (kept_call (called_where own w) s world m).contexts ≡ w.contexts
  bodies_same w s own world m =
      let u : State K = with_next (called_where own w) m.next in changes_same u s (λ x. record x { reads = m.reads }) (at u.scopes s) ∙ (calls_same own w).contexts

  provided_same : (app : Application K) (w : State K) (s k : ℕ) (v : K.Value) (o : Option K.Value) → (provided_at app w s k v o).contexts ≡ w.contexts
  provided_same app w s k v o = on o
    where
      u : State K
      u = change w s (λ x. record x { contexts = put x.contexts k v })

      changed : u.contexts ≡ w.contexts
      changed = changes_same w s (λ x. record x { contexts = put x.contexts k v }) (at w.scopes s)

      one_or_other : (x y : State K) (b : Bool) → x.contexts ≡ w.contexts → y.contexts ≡ w.contexts → (if b then x else y).contexts ≡ w.contexts
      one_or_other x y true f g = f
      one_or_other x y false f g = g

      on : (p : Option K.Value) → (provided_at app w s k v p).contexts ≡ w.contexts
      on None = (tell_same u (Context k s)).contexts ∙ changed
      on (Some old) = one_or_other u (tell u (Context k s)) (app.same_value old v) changed ((tell_same u (Context k s)).contexts ∙ changed)

  numbered_same : (w : State K) (s : ℕ) (side : SideName) (p : Place) (k : Kind) → (numbered w s side p k).contexts ≡ w.contexts
  numbered_same w s side p k =
      changes_same (with_next w (record (w.next) { elements = w.next.elements + 1 })) s
      (λ x. with_side x side (record (side_of x side) { numbers = (side_of x side).numbers ++ (p, k, w.next.elements) ∷ [] }))
      (at w.scopes s)

module _ {K : Types} (n : ℕ) where
  -- no context has the number
  abbrev Is : State K → Type 0
  Is w = at w.contexts n ≡ None

  by_contexts : (w v : State K) → v.contexts ≡ w.contexts → Is w → Is v
  by_contexts w v same h = ap (λ (es : List (ℕ × ContextRow K)). at es n) same ∙ h

  -- no command makes one of it
  abbrev Opens : Command K → Type 0
  Opens (NewContext c target) = nat_eq c n ≡ false
  Opens _ = Unit {0}

  abbrev AllOpen : List (Command K) → Type 0
  AllOpen cs = AllByRecursion (λ (c : Command K). Opens c) cs

  module _ (app : Application K) where
    frame : Frame app (λ w. Is w) (λ w. Is w) 0 (opening n)
    frame =
        record {
          low = λ w h. from_zero w.next.tasks;
          leaves = λ w h. h;
          marks = λ w s h. by_contexts w (post w (Mark s)) (posts_same w (post w (Mark s)) (post_posts w (Mark s))).contexts h;
          wakes = λ w t a h. by_contexts w (post w (Woken t)) (posts_same w (post w (Woken t)) (post_posts w (Woken t))).contexts h;
          tells = λ w i a h. by_contexts w (tell w i) (tell_same w i).contexts h;
          looks = λ w h. by_contexts w (look w) (look_same w).contexts h;
          pauses = λ w t e h. h;
          unqueues = λ w t a h. h;
          unmarks = λ w s h. h;
          asides = λ w v e h. by_contexts w v (ap (λ (x : State K). x.contexts) e) h;
          nexts = λ w next low h. h;
          writes =
              λ w c v old e a told h.
              let u : State K = record w { cells = put w.cells c (record old { value = v }) } in by_contexts u (tell u (Cell c)) (tell_same u (Cell c)).contexts h;
          drops =
              λ w c a told h.
              let u : State K = record w { cells = without w.cells c } in by_contexts u (tell u (Cell c)) (tell_same u (Cell c)).contexts h;
          new_cells = λ w s c v a h. h;
          new_contexts = λ w c x a h. at_append_none w.contexts c x n a ∙ h;
          sources = λ w c x y e a h. at_put_none w.contexts c y x n e h;
          rows = λ w s x y e same h. h;
          hooks = λ w s x k e h. h;
          joins = λ w b t origin x e h. h;
          throws =
              λ w b x e live none told h.
              let u : State K = record w { scopes = put w.scopes b (record x { error = Some e }) } in by_contexts u (tell u (Error b)) (tell_same u (Error b)).contexts h;
          clears =
              λ w b x live a told h.
              let u : State K = record w { scopes = put w.scopes b (record x { error = None }) } in by_contexts u (tell u (Error b)) (tell_same u (Error b)).contexts h;
          provides = λ w s k v x e told h. by_contexts w (provided_at app w s k v (at x.contexts k)) (provided_same app w s k v (at x.contexts k)) h;
          feeds = λ w t c x e a h. h;
          patches = λ w s side tree x e h. h;
          draws = λ w s side p k h. by_contexts w (numbered w s side p k) (numbered_same w s side p k) h;
          empties = λ w b x e h. h;
          makes = λ w s side p c x e h. h;
          goes = λ w s free told h. by_contexts (without_scope w s) (gone w s) (gone_same w s).contexts (kept_none (λ (e : ℕ × ContextRow K). not (nat_eq (e.1).scope s)) n w.contexts h);
          mounts = λ w h. h;
          ends = λ w t a h. h;
          spawns =
              λ w t x live low free h.
              let v : State K = record w { tasks = w.tasks ++ (t, x) ∷ [] } in by_contexts v (post v (Woken t)) (posts_same v (post v (Woken t)) (post_posts v (Woken t))).contexts h;
          goes_on = λ w t x a e may h. h;
          suspends = λ w t x e h. h;
          activates = λ w t active x e told h. by_contexts w (activated w t active (Some x)) (activated_same w t active x).contexts h;
        }

    called : Called app (λ w. Is w) 0
    called =
        record {
          bodies =
              λ w s c low h.
              let world : World K = world_of w s None true in
              by_contexts w (kept_call (called_where (is_own c world) w) s world (body_of app c world)) (bodies_same w s (is_own c world) world (body_of app c world)) h;
          turns = λ w b x e h. h;
          turns_nowhere = λ w b e h. h;
        }

    may_clear : (o : Option ℕ) → MayClear app (λ w. Is w) (λ w. Is w) 0 (opening n) frame o
    may_clear None = tt
    may_clear (Some b) = tt

    allowed : (w : State K) (s : ℕ) (c : Command K) → Opens c → Allowed app (λ w. Is w) (λ w. Is w) 0 (opening n) frame w s c
    allowed w s (NewContext c target) h = h
    allowed w s ClearErrors h = may_clear (error_context w s)
    allowed w s (Spawn t a forever isomorphic) h = (from_zero t, tt)
    allowed w s (RemoveFuture t) h = tt
    allowed w s (NewCell c v) h = tt
    allowed w s (Write c v) h = tt
    allowed w s (DropCell c) h = tt
    allowed w s (Reset c) h = tt
    allowed w s (ReadInto c source) h = tt
    allowed w s c h = tt

    all_allowed : (w : State K) (s : ℕ) (polled : Option ℕ) (cs : List (Command K)) → AllFresh app 0 cs → AllOpen cs → AllAllowed app (λ w. Is w) (λ w. Is w) 0 (opening n) frame w s polled cs
    all_allowed w s polled [] f h = tt
    all_allowed w s polled (c ∷ cs) f h = (
      (allowed w s c h.0, caused_anyway app (λ w. Is w) (λ w. Is w) 0 (opening n) frame (λ v d. tt) w s c),
      all_allowed (command app w s polled c) s polled cs f.1 h.1,
    )

    may_take : (inputs : List (Input K))
        → MayTake app (λ w. Is w) (λ w. Is w) 0 (opening n) frame (λ t. tt) called (λ w s polled cs. AllOpen cs) (λ w s polled cs f g. all_allowed w s polled cs f g) (draw_anyway app) inputs
    may_take [] = tt
    may_take (WriteOf c v ∷ more) = tt
    may_take (EventAt name payload element bubbles ∷ more) = tt
    may_take (WakeOf t ∷ more) = tt
    may_take (MarkOf s ∷ more) = tt
    may_take (Drain messages ∷ more) = tt

    entry_spares : (inputs : List (Input K)) (e : Entry)
        → Sparing app (λ w. Is w) (λ w. Is w) 0 (opening n) frame (λ t. tt) called (λ w s polled cs. AllOpen cs) (λ w s polled cs f g. all_allowed w s polled cs f g) (draw_anyway app) inputs e
    entry_spares inputs Build = tt
    entry_spares inputs (Taken k) = may_take inputs
    entry_spares inputs (Heard s) = tt
    entry_spares inputs (Rerun s) = tt
    entry_spares inputs (Poll t) = tt
    entry_spares inputs (Effects s) = tt
    entry_spares inputs (Made s) = tt
    entry_spares inputs (Fed s) = tt
    entry_spares inputs (Kept s) = tt
    entry_spares inputs (Removed s) = tt

    move_spares : (limits : Limits) (m u : Machine K) (move : Move) (step : Moves app limits m move u)
        → AllSparing app (λ w. Is w) (λ w. Is w) 0 (opening n) frame (λ t. tt) called (λ w s polled cs. AllOpen cs) (λ w s polled cs f g. all_allowed w s polled cs f g) (draw_anyway app) limits m u (move ∷ []) (u, step, refl)
    move_spares limits m u Silent step = (λ g. g, tt)
    move_spares limits m u Closed step = tt
    move_spares limits m u (Logged e) step = (
      (
        entry_spares m.inputs e,
        waking_anyway app (λ w. Is w) (λ w. Is w) 0 (opening n) frame (λ t. tt) called (λ w s polled cs. AllOpen cs) (λ w s polled cs f g. all_allowed w s polled cs f g) (draw_anyway app) (λ w c. tt) m e,
      ),
      λ g. g,
      tt,
    )

    move_opens : (limits : Limits) (m u : Machine K) (move : Move) → Moves app limits m move u → AllByRecursion (λ (d : Deed K). AllOpen d.wants) (move_deeds app m move) → Is m.state → Is u.state
    move_opens limits m u move step deeds h =
        moves_on app (λ w. Is w) (λ w. Is w) 0 (opening n) frame (λ t. tt) called (λ w s polled cs. AllOpen cs) (λ w s polled cs f g. all_allowed w s polled cs f g) (draw_anyway app)
        limits m u (move ∷ []) (u, step, refl) (deeds, tt) (move_spares limits m u move step) h

    module _ (before behind : Firsts) (low : behind.contexts ≤ n) where
      -- what has a number below the next one behind the move has another one
      opens : (c : Command K) → NumberedIn before behind c → Opens c
      opens (NewContext c target) h =
          let under : c + 1 ≤ n = omega (arith, h.1, low) in
          below c n under
      opens c h = tt

      all_open : (cs : List (Command K)) → AllByRecursion (λ (c : Command K). NumberedIn before behind c) cs → AllOpen cs
      all_open [] h = tt
      all_open (c ∷ cs) h = (opens c h.0, all_open cs h.1)

      deeds_open : (ds : List (Deed K)) → AllByRecursion (λ (d : Deed K). AllByRecursion (λ (c : Command K). NumberedIn before behind c) d.wants) ds
          → AllByRecursion (λ (d : Deed K). AllOpen d.wants) ds
      deeds_open [] h = tt
      deeds_open (d ∷ ds) h = (all_open d.wants h.0, deeds_open ds h.1)

    module _ (lawful : IsLawful K app) (limits : Limits) where
      all_rise : (m v : Machine K) (moves : List Move) → Leads app limits m moves v → m.state.next.contexts ≤ v.state.next.contexts
      all_rise m v [] leads =
          let same : v.state.next.contexts ≡ m.state.next.contexts = ap (λ (x : Machine K). x.state.next.contexts) leads in
          omega (arith, same)
      all_rise m v (move ∷ moves) leads =
          let first : m.state.next.contexts ≤ (leads.0).state.next.contexts = (move_rises app lawful limits m leads.0 move leads.1).contexts in
          let more : (leads.0).state.next.contexts ≤ v.state.next.contexts = all_rise leads.0 v moves leads.2 in
          omega (arith, first, more)

      -- no move makes a context of a number that isn't drawn behind them
      stays_free : (m v : Machine K) (moves : List Move) → Leads app limits m moves v → v.state.next.contexts ≤ n → Is m.state → Is v.state
      stays_free m v [] leads low h = subst (λ (x : Machine K). Is x.state) (sym leads) h
      stays_free m v (move ∷ moves) leads low h =
          let more : (leads.0).state.next.contexts ≤ v.state.next.contexts = all_rise leads.0 v moves leads.2 in
          let under : (leads.0).state.next.contexts ≤ n = omega (arith, more, low) in
          let free : Is (leads.0).state =
          move_opens limits m leads.0 move leads.1
          (deeds_open m.state.next (leads.0).state.next under (move_deeds app m move) (moves_number app lawful limits m leads.0 move leads.1))
          h in
          stays_free leads.0 v moves leads.2 low free

pub next_is_free : {K : Types} (app : Application K) → NextIsFree app
next_is_free app lawful limits props inputs m moves leads =
    stays_free m.state.next.contexts app lawful limits (start app props inputs) m moves leads (least m.state.next.contexts) refl
