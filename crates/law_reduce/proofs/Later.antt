-- The next number of cells rises along moves, and each call is given the one that its state has.
use Rattle.std.proofs.Common.{ℕ, ◌≤◌, Bool, true, false, List, [], ◌∷◌, ◌++◌, ◌≡◌, ◌⊎◌, ◌+◌, inl, inr, refl, sym, ap, ◌∙◌, subst, nat_eq, arith}
use Rattle.std.specs.Prelude.{Option, Some, None, if◌then◌else◌}
use Rattle.rt_model.specs.Lists.{at, put, without}
use Rattle.rt_model.specs.Laws.{IsLawful}
use Rattle.rt_model.specs.Tree.{Types, VComponent, Place, Kind, Element}
use Rattle.rt_model.specs.World.{Cell, Error, Context, Firsts, Command, World, Meaning, Application}
use Rattle.rt_model.specs.State.{SideName, ChildrenSide, Mark, Woken, Scope, LastCall, State, side_of, with_side, changed_scope, change, world_of}
use Rattle.rt_model.specs.Commands.{post, tell, activated, provided_at}
use Rattle.rt_model.specs.Next.{look}
use Rattle.rt_model.specs.Run.{with_next, called_where, is_own, output_of, kept_call, body_of}
use Rattle.rt_model.specs.Removal.{gone}
use Rattle.rt_model.specs.Replay.{Entry, Build, Taken, Heard, Rerun, Poll, Effects, Made, Fed, Kept, Removed, Input, EventAt, WakeOf, WriteOf, MarkOf, Drain, Machine, numbered}
use Rattle.rt_model.specs.Causes.{Limits}
use Rattle.rt_model.proofs.Maps.{by_test, at_put_here, at_put_other, at_without_here, at_without_other}
use Rattle.rt_model.proofs.Tour.{AllFresh}
use Rattle.law_moves.specs.Moves.{Move, Silent, Closed, Logged, Leads}
use Rattle.law_behavior.proofs.Readers.{post_posts}
use Rattle.law_behavior.proofs.Calling.{Follows}
use Rattle.law_behavior.proofs.Frames.{Free, permits, Frame, Called}
use Rattle.law_behavior.proofs.Commanded.{AllAllowed}
use Rattle.law_behavior.proofs.Onwards.{MayTake, Sparing, waking_anyway, AllSparing, moves_on, good_anyway}
use Rattle.law_behavior.proofs.Steadfast.{from_zero, draw_anyway, all_allowed}
use Rattle.law_lasting.proofs.Told.{posts_same, tell_same, look_same, activated_same, gone_same}
use Rattle.law_reduce.specs.Later.{CallsComeLater}
use Rattle.law_reduce.proofs.Hooked.{posts_calls, tell_calls, looks_calls, changes_calls, calls_where, provided_calls, numbered_calls, gone_calls, activated_calls}

module _ {K : Types} where
  -- what leaves the next number of cells

  changes_next : (w : State K) (s : ℕ) (f : Scope K → Scope K) (o : Option (Scope K)) → (changed_scope w s f o).next ≡ w.next
  changes_next w s f None = refl
  changes_next w s f (Some x) = refl

  bodies_next : (w : State K) (s : ℕ) (own : Bool) (world : World K) (m : Meaning K (Element K)) → (kept_call (called_where own w) s world m).next ≡ m.next
  bodies_next w s own world m =
      let u : State K = with_next (called_where own w) m.next in changes_next u s (λ x. record x { reads = m.reads }) (at u.scopes s)

  provided_next : (app : Application K) (w : State K) (s k : ℕ) (v : K.Value) (o : Option K.Value) → (provided_at app w s k v o).next ≡ w.next
  provided_next app w s k v o = on o
    where
      u : State K
      u = change w s (λ x. record x { contexts = put x.contexts k v })

      changed : u.next ≡ w.next
      changed = changes_next w s (λ x. record x { contexts = put x.contexts k v }) (at w.scopes s)

      one_or_other : (x y : State K) (b : Bool) → x.next ≡ w.next → y.next ≡ w.next → (if b then x else y).next ≡ w.next
      one_or_other x y true f g = f
      one_or_other x y false f g = g

      on : (p : Option K.Value) → (provided_at app w s k v p).next ≡ w.next
      on None = (tell_same u (Context k s)).next ∙ changed
      on (Some old) = one_or_other u (tell u (Context k s)) (app.same_value old v) changed ((tell_same u (Context k s)).next ∙ changed)

  numbered_next : (w : State K) (s : ℕ) (side : SideName) (p : Place) (k : Kind) → (numbered w s side p k).next.cells ≡ w.next.cells
  numbered_next w s side p k =
      ap (λ (f : Firsts). f.cells)
      (
      changes_next (with_next w (record (w.next) { elements = w.next.elements + 1 })) s
      (λ x. with_side x side (record (side_of x side) { numbers = (side_of x side).numbers ++ (p, k, w.next.elements) ∷ [] }))
      (at w.scopes s)
      )

module _ {K : Types} (app : Application K) (lawful : IsLawful K app) (low s : ℕ) (old : Option (LastCall K)) where
  -- numbers below a bound are drawn, and the last call of the scope is the old one or was given them
  abbrev Is : State K → Type 0
  Is w =
      (low ≤ w.next.cells)
      × ((last : LastCall K) → at w.last_calls s ≡ Some last → (old ≡ Some last) ⊎ (low ≤ last.given.given.next.cells))

  by_both : (w v : State K) → v.next.cells ≡ w.next.cells → v.last_calls ≡ w.last_calls → Is w → Is v
  by_both w v next calls h = (
    subst (λ (n : ℕ). low ≤ n) (sym next) h.0,
    λ last e. h.1 last (ap (λ (es : List (ℕ × LastCall K)). at es s) (sym calls) ∙ e),
  )

  by_next : (w v : State K) → v.next ≡ w.next → v.last_calls ≡ w.last_calls → Is w → Is v
  by_next w v next calls h = by_both w v (ap (λ (f : Firsts). f.cells) next) calls h

  -- where the call of a scope goes
  by_without : (w v : State K) (t : ℕ) → v.next ≡ w.next → v.last_calls ≡ without w.last_calls t → Is w → Is v
  by_without w v t next calls h = (
    subst (λ (f : Firsts). low ≤ f.cells) (sym next) h.0,
    λ last e.
        let there : at (without w.last_calls t) s ≡ Some last = ap (λ (es : List (ℕ × LastCall K)). at es s) (sym calls) ∙ e in
        by_test (nat_eq t s)
        (λ q. let absurdity : None ≡ Some last = sym (at_without_here w.last_calls t s q) ∙ there in cc)
        (λ q. h.1 last (sym (at_without_other w.last_calls t s q) ∙ there)),
  )

  raised : (first next : Firsts) → Follows app 0 first next → low ≤ first.cells → low ≤ next.cells
  raised first next drawn h = let rises : first.cells ≤ next.cells = drawn.rises lawful in omega (arith, h, rises)

  frame : Frame app (λ w. Is w) (λ w. Is w) 0 (permits Free Free Free Free)
  frame =
      record {
        low = λ w h. from_zero w.next.tasks;
        leaves = λ w h. h;
        marks = λ w t h. by_next w (post w (Mark t)) (posts_same w (post w (Mark t)) (post_posts w (Mark t))).next (posts_calls w (post w (Mark t)) (post_posts w (Mark t))) h;
        wakes = λ w t a h. by_next w (post w (Woken t)) (posts_same w (post w (Woken t)) (post_posts w (Woken t))).next (posts_calls w (post w (Woken t)) (post_posts w (Woken t))) h;
        tells = λ w i a h. by_next w (tell w i) (tell_same w i).next (tell_calls w i) h;
        looks = λ w h. by_next w (look w) (look_same w).next (looks_calls w.posted (record w { posted = [] })) h;
        pauses = λ w t e h. h;
        unqueues = λ w t a h. h;
        unmarks = λ w t h. h;
        asides = λ w v e h. by_next w v (ap (λ (x : State K). x.next) e) (ap (λ (x : State K). x.last_calls) e) h;
        nexts = λ w next drawn h. (raised w.next next drawn h.0, h.1);
        writes =
            λ w n v row e a told h.
            let u : State K = record w { cells = put w.cells n (record row { value = v }) } in by_next u (tell u (Cell n)) (tell_same u (Cell n)).next (tell_calls u (Cell n)) h;
        drops =
            λ w n a told h.
            let u : State K = record w { cells = without w.cells n } in by_next u (tell u (Cell n)) (tell_same u (Cell n)).next (tell_calls u (Cell n)) h;
        new_cells = λ w t n v a h. h;
        new_contexts = λ w n x a h. h;
        sources = λ w n x y e a h. h;
        rows = λ w t x y e same h. h;
        hooks = λ w t x k e h. h;
        joins = λ w b t origin x e h. h;
        throws =
            λ w b x e live none told h.
            let u : State K = record w { scopes = put w.scopes b (record x { error = Some e }) } in by_next u (tell u (Error b)) (tell_same u (Error b)).next (tell_calls u (Error b)) h;
        clears =
            λ w b x live a told h.
            let u : State K = record w { scopes = put w.scopes b (record x { error = None }) } in by_next u (tell u (Error b)) (tell_same u (Error b)).next (tell_calls u (Error b)) h;
        provides = λ w t k v x e told h. by_next w (provided_at app w t k v (at x.contexts k)) (provided_next app w t k v (at x.contexts k)) (provided_calls app w t k v (at x.contexts k)) h;
        feeds = λ w t c x e a h. h;
        patches = λ w t side tree x e h. h;
        draws = λ w t side p k h. by_both w (numbered w t side p k) (numbered_next w t side p k) (numbered_calls w t side p k) h;
        empties = λ w b x e h. h;
        makes = λ w t side p c x e h. h;
        goes = λ w t free told h. by_without w (gone w t) t (gone_same w t).next (gone_calls w t) h;
        mounts = λ w h. h;
        ends = λ w t a h. h;
        spawns =
            λ w t x live fresh free h.
            let v : State K = record w { tasks = w.tasks ++ (t, x) ∷ [] } in
            by_next v (post v (Woken t)) (posts_same v (post v (Woken t)) (post_posts v (Woken t))).next (posts_calls v (post v (Woken t)) (post_posts v (Woken t))) h;
        goes_on = λ w t x a e may h. h;
        suspends = λ w t x e h. h;
        activates = λ w t active x e told h. by_next w (activated w t active (Some x)) (activated_same w t active x).next (activated_calls w t active x) h;
      }

  -- a call is given the next number that its state has
  called_on : (w : State K) (t : ℕ) (c : VComponent K) → Follows app 0 w.next (body_of app c (world_of w t None true)).next → Is w
      → Is (kept_call (called_where (is_own c (world_of w t None true)) w) t (world_of w t None true) (body_of app c (world_of w t None true)))
  called_on w t c drawn h =
      let world : World K = world_of w t None true in
      let m : Meaning K (Element K) = body_of app c world in
      let b : Bool = is_own c world in
      let u : State K = called_where b w in
      let n : State K = with_next u m.next in
      let call : LastCall K = record { given = world; aside = m.aside; answer = m.answer; before = output_of u t } in
      let same : (change n t (λ x. record x { reads = m.reads })).last_calls ≡ w.last_calls =
      changes_calls n t (λ x. record x { reads = m.reads }) (at n.scopes t) ∙ calls_where b w in (
        subst (λ (f : Firsts). low ≤ f.cells) (sym (bodies_next w t b world m)) (raised w.next m.next drawn h.0),
        λ last e.
            let there : at (put w.last_calls t call) s ≡ Some last = ap (λ (es : List (ℕ × LastCall K)). at (put es t call) s) (sym same) ∙ e in
            by_test (nat_eq t s)
            (
            λ q.
            let is : Some call ≡ Some last = sym (at_put_here w.last_calls t call s q) ∙ there in
            let this : call ≡ last = cc in
            inr (subst (λ (l : LastCall K). low ≤ l.given.given.next.cells) this h.0)
            )
            (λ q. h.1 last (sym (at_put_other w.last_calls t call s q) ∙ there)),
      )

  called : Called app (λ w. Is w) 0
  called =
      record {
        bodies = λ w t c drawn h. called_on w t c drawn h;
        turns = λ w b x e h. by_without w (record w { last_calls = without w.last_calls b; scopes = put w.scopes b (record x { shows = Some ChildrenSide; reads = [] }) }) b refl refl h;
        turns_nowhere = λ w b e h. by_without w (record w { last_calls = without w.last_calls b }) b refl refl h;
      }

  freely : (w : State K) (r : ℕ) (polled : Option ℕ) (cs : List (Command K)) → AllFresh app 0 cs → Unit {0}
      → AllAllowed app (λ v. Is v) (λ v. Is v) 0 (permits Free Free Free Free) frame w r polled cs
  freely w r polled cs f g = all_allowed app (λ v. Is v) (λ v. Is v) 0 Free Free frame w r polled cs f

  may_take : (inputs : List (Input K))
      → MayTake app (λ w. Is w) (λ w. Is w) 0 (permits Free Free Free Free) frame (λ t. tt) called (λ w r polled cs. Unit {0}) (λ w r polled cs f g. freely w r polled cs f g) (draw_anyway app) inputs
  may_take [] = tt
  may_take (WriteOf n v ∷ more) = tt
  may_take (EventAt name payload element bubbles ∷ more) = tt
  may_take (WakeOf t ∷ more) = tt
  may_take (MarkOf r ∷ more) = tt
  may_take (Drain messages ∷ more) = tt

  entry_spares : (inputs : List (Input K)) (e : Entry)
      → Sparing app (λ w. Is w) (λ w. Is w) 0 (permits Free Free Free Free) frame (λ t. tt) called (λ w r polled cs. Unit {0}) (λ w r polled cs f g. freely w r polled cs f g) (draw_anyway app) inputs e
  entry_spares inputs Build = tt
  entry_spares inputs (Taken n) = may_take inputs
  entry_spares inputs (Heard r) = tt
  entry_spares inputs (Rerun r) = tt
  entry_spares inputs (Poll t) = tt
  entry_spares inputs (Effects r) = tt
  entry_spares inputs (Made r) = tt
  entry_spares inputs (Fed r) = tt
  entry_spares inputs (Kept r) = tt
  entry_spares inputs (Removed r) = tt

  all_spare : (limits : Limits) (m v : Machine K) (moves : List Move) (leads : Leads app limits m moves v)
      → AllSparing app (λ w. Is w) (λ w. Is w) 0 (permits Free Free Free Free) frame (λ t. tt) called (λ w r polled cs. Unit {0}) (λ w r polled cs f g. freely w r polled cs f g) (draw_anyway app) limits m v moves leads
  all_spare limits m v [] leads = tt
  all_spare limits m v (Silent ∷ moves) leads = (λ g. g, all_spare limits leads.0 v moves leads.2)
  all_spare limits m v (Closed ∷ moves) leads = all_spare limits leads.0 v moves leads.2
  all_spare limits m v (Logged e ∷ moves) leads = (
    (
      entry_spares m.inputs e,
      waking_anyway app (λ w. Is w) (λ w. Is w) 0 (permits Free Free Free Free) frame (λ t. tt) called (λ w r polled cs. Unit {0}) (λ w r polled cs f g. freely w r polled cs f g) (draw_anyway app) (λ w c. tt) m e,
    ),
    λ g. g,
    all_spare limits leads.0 v moves leads.2,
  )

  later_on : (limits : Limits) (m v : Machine K) (moves : List Move) → Leads app limits m moves v → Is m.state → Is v.state
  later_on limits m v moves leads h =
      moves_on app (λ w. Is w) (λ w. Is w) 0 (permits Free Free Free Free) frame (λ t. tt) called (λ w r polled cs. Unit {0}) (λ w r polled cs f g. freely w r polled cs f g) (draw_anyway app)
      limits m v moves leads
      (
      good_anyway app (λ w. Is w) (λ w. Is w) 0 (permits Free Free Free Free) frame (λ t. tt) called (λ w r polled cs. Unit {0}) (λ w r polled cs f g. freely w r polled cs f g) (draw_anyway app)
      (λ w r polled cs. tt) limits m v moves leads
      )
      (all_spare limits m v moves leads)
      h

pub calls_come_later : {K : Types} (app : Application K) → CallsComeLater app
calls_come_later {K = K} app lawful limits m v moves leads = ((ends 0).0, λ s last e. (ends s).1 last e)
  where
    bound : ℕ
    bound = m.state.next.cells

    level : bound ≤ bound
    level = omega arith

    ends : (s : ℕ) → Is app lawful bound s (at m.state.last_calls s) v.state
    ends s = later_on app lawful bound s (at m.state.last_calls s) limits m v moves leads (level, λ last e. inl e)
