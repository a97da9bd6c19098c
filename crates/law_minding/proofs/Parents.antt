-- A scope that is there before a move and after it has one parent and one height.
use Rattle.std.proofs.Common.{ℕ, ◌+◌, Bool, true, false, not, List, [], ◌∷◌, ◌++◌, ◌≡◌, refl, ap, ◌∙◌, nat_eq}
use Rattle.std.specs.Prelude.{Option, Some, None, if◌then◌else◌}
use Rattle.rt_model.specs.Lists.{at, put, without, kept_by}
use Rattle.rt_model.specs.Tree.{Types, VComponent, Element, Place, Kind}
use Rattle.rt_model.specs.World.{Cell, Error, Context, Command, World, Meaning, Application}
use Rattle.rt_model.specs.State.{SideName, MainSide, ChildrenSide, FallbackSide, Mark, Woken, Side, Scope, State, empty_side, side_of, with_side, new_scope, change, world_of}
use Rattle.rt_model.specs.Commands.{released, post, tell, activated, provided_at}
use Rattle.rt_model.specs.Next.{look}
use Rattle.rt_model.specs.Removal.{gone}
use Rattle.rt_model.specs.Run.{with_next, called_where, is_own, kept_call, body_of}
use Rattle.rt_model.specs.Replay.{Machine, numbered, with_new_scope}
use Rattle.rt_model.specs.Causes.{Limits}
use Rattle.rt_model.proofs.Maps.{at_without_other}
use Rattle.rt_model.proofs.Tour.{AllFresh}
use Rattle.law_moves.specs.Moves.{Move, entries, Moves}
use Rattle.law_behavior.specs.Along.{NoneRemoves}
use Rattle.law_behavior.proofs.Readers.{post_posts}
use Rattle.law_behavior.proofs.Frames.{Free, Permits, permits, with_tree, Frame, Called}
use Rattle.law_behavior.proofs.Commanded.{AllAllowed}
use Rattle.law_behavior.proofs.Onwards.{moves_on, good_anyway, spares_all}
use Rattle.law_behavior.proofs.Steadfast.{Of, Other, from_zero, draw_anyway, all_allowed, of_others, of_put, of_change, of_released, at_more, mounted_row}
use Rattle.law_lasting.proofs.Told.{posts_same, tell_same, look_same, calls_same, activated_same, gone_same}

-- another scope may be removed
abbrev others_go : {K : Types} → ℕ → Permits K
others_go s = permits Free Free Free (λ t. Other s t)

module _ {K : Types} (s : ℕ) (parent : Option ℕ) (height : ℕ) where
  abbrev Has : Scope K → Type 0
  Has x = (x.parent ≡ parent) × (x.height ≡ height)

  -- the scope is there, with this parent and height
  abbrev Is : State K → Type 0
  Is w = Of s Has w

  stays : (x y : Scope K) → y.parent ≡ x.parent → y.height ≡ x.height → Has x → Has y
  stays x y p h g = (p ∙ g.0, h ∙ g.1)

  side_parent : (x : Scope K) (d : SideName) (a : Side K) → (with_side x d a).parent ≡ x.parent
  side_parent x MainSide a = refl
  side_parent x ChildrenSide a = refl
  side_parent x FallbackSide a = refl

  side_height : (x : Scope K) (d : SideName) (a : Side K) → (with_side x d a).height ≡ x.height
  side_height x MainSide a = refl
  side_height x ChildrenSide a = refl
  side_height x FallbackSide a = refl

  side_stays : (x : Scope K) (d : SideName) (a : Side K) → Has x → Has (with_side x d a)
  side_stays x d a h = stays x (with_side x d a) (side_parent x d a) (side_height x d a) h

  provided_stays : (app : Application K) (w : State K) (r c : ℕ) (v : K.Value) (o : Option K.Value) → Is w → Is (provided_at app w r c v o)
  provided_stays app w r c v o h =
      on o (of_change s (λ x. Has x) w r (λ x. record x { contexts = put x.contexts c v }) (λ x e a. stays x (record x { contexts = put x.contexts c v }) refl refl a) h)
    where
      one_of : (b : Bool) (x y : State K) → Is x → Is y → Is (if b then x else y)
      one_of true x y f g = f
      one_of false x y f g = g

      on : (q : Option K.Value) → Is (change w r (λ x. record x { contexts = put x.contexts c v })) → Is (provided_at app w r c v q)
      on None g =
          let u : State K = change w r (λ x. record x { contexts = put x.contexts c v }) in
          of_others s (λ x. Has x) u (tell u (Context c r)) (tell_same u (Context c r)).scopes g
      on (Some old) g =
          let u : State K = change w r (λ x. record x { contexts = put x.contexts c v }) in
          let told : Is (tell u (Context c r)) = of_others s (λ x. Has x) u (tell u (Context c r)) (tell_same u (Context c r)).scopes g in
          one_of (app.same_value old v) u (tell u (Context c r)) g told

  numbered_stays : (w : State K) (r : ℕ) (d : SideName) (q : Place) (l : Kind) → Is w → Is (numbered w r d q l)
  numbered_stays w r d q l h =
      let v : State K = with_next w (record (w.next) { elements = w.next.elements + 1 }) in
      of_change s (λ x. Has x) v r (λ x. with_side x d (record (side_of x d) { numbers = (side_of x d).numbers ++ (q, l, w.next.elements) ∷ [] }))
      (λ x e a. side_stays x d (record (side_of x d) { numbers = (side_of x d).numbers ++ (q, l, w.next.elements) ∷ [] }) a)
      (of_others s (λ x. Has x) w v refl h)

  made_stays : (w : State K) (r : ℕ) (d : SideName) (q : Place) (c : VComponent K) (x : Scope K) → at w.scopes r ≡ Some x → Is w → Is (with_new_scope w r d q c x)
  made_stays w r d q c x e h =
      let a : Side K = record (side_of x d) { children = (side_of x d).children ++ (q, w.next_scope) ∷ [] } in
      let joined : Is (record w { scopes = put w.scopes r (with_side x d a) }) =
      of_put s (λ y. Has y) w r x (with_side x d a) e (λ same b. side_stays x d a b) h in
      record {
        row = joined.row;
        there = at_more (put w.scopes r (with_side x d a)) w.next_scope s (new_scope c (Some r) (x.height + 1) d) joined.row joined.there;
        holds = joined.holds;
      }

  called_stays : (w : State K) (r : ℕ) (own : Bool) (world : World K) (m : Meaning K (Element K)) → Is w → Is (kept_call (called_where own w) r world m)
  called_stays w r own world m h =
      let u : State K = with_next (called_where own w) m.next in
      let v : State K = change u r (λ x. record x { reads = m.reads }) in
      of_others s (λ x. Has x) v (kept_call (called_where own w) r world m) refl
      (of_change s (λ x. Has x) u r (λ x. record x { reads = m.reads }) (λ x e a. stays x (record x { reads = m.reads }) refl refl a)
      (of_others s (λ x. Has x) w u (calls_same own w).scopes h))

  module _ (app : Application K) where
    frame : Frame app (λ w. Is w) (λ w. Is w) 0 (others_go s)
    frame =
        record {
          low = λ w h. from_zero w.next.tasks;
          leaves = λ w h. h;
          marks = λ w r h. of_others s (λ x. Has x) w (post w (Mark r)) (posts_same w (post w (Mark r)) (post_posts w (Mark r))).scopes h;
          wakes = λ w t a h. of_others s (λ x. Has x) w (post w (Woken t)) (posts_same w (post w (Woken t)) (post_posts w (Woken t))).scopes h;
          tells = λ w i a h. of_others s (λ x. Has x) w (tell w i) (tell_same w i).scopes h;
          looks = λ w h. of_others s (λ x. Has x) w (look w) (look_same w).scopes h;
          pauses = λ w t e h. of_others s (λ x. Has x) w _ refl h;
          unqueues = λ w t a h. of_others s (λ x. Has x) w _ refl h;
          unmarks = λ w r h. of_others s (λ x. Has x) w _ refl h;
          asides = λ w v e h. of_others s (λ x. Has x) w v (ap (λ (x : State K). x.scopes) e) h;
          nexts = λ w next low h. of_others s (λ x. Has x) w (with_next w next) refl h;
          writes =
              λ w c v old e a told h.
              let u : State K = record w { cells = put w.cells c (record old { value = v }) } in
              of_others s (λ x. Has x) w (tell u (Cell c)) (tell_same u (Cell c)).scopes h;
          drops =
              λ w c a told h.
              let u : State K = record w { cells = without w.cells c } in of_others s (λ x. Has x) w (tell u (Cell c)) (tell_same u (Cell c)).scopes h;
          new_cells = λ w r c v a h. of_others s (λ x. Has x) w _ refl h;
          new_contexts = λ w c x a h. of_others s (λ y. Has y) w _ refl h;
          sources = λ w c x y e a h. of_others s (λ z. Has z) w _ refl h;
          rows = λ w r x y e same h. of_put s (λ z. Has z) w r x y e (λ q a. stays x y (ap (λ (z : Scope K). z.parent) same) (ap (λ (z : Scope K). z.height) same) a) h;
          hooks = λ w r x hook e h. let y : Scope K = record x { hooks = x.hooks ++ hook ∷ [] } in of_put s (λ z. Has z) w r x y e (λ q a. stays x y refl refl a) h;
          joins =
              λ w b t origin x e h.
              let y : Scope K = record x { holders = x.holders ++ (t, origin) ∷ [] } in of_put s (λ z. Has z) w b x y e (λ q a. stays x y refl refl a) h;
          throws =
              λ w b x f e none told h.
              let y : Scope K = record x { error = Some f } in
              let u : State K = record w { scopes = put w.scopes b y } in
              of_others s (λ z. Has z) u (tell u (Error b)) (tell_same u (Error b)).scopes (of_put s (λ z. Has z) w b x y e (λ q a. stays x y refl refl a) h);
          clears =
              λ w b x e may told h.
              let y : Scope K = record x { error = None } in
              let u : State K = record w { scopes = put w.scopes b y } in
              of_others s (λ z. Has z) u (tell u (Error b)) (tell_same u (Error b)).scopes (of_put s (λ z. Has z) w b x y e (λ q a. stays x y refl refl a) h);
          provides = λ w r c v x e told h. provided_stays app w r c v (at x.contexts c) h;
          feeds = λ w t c x e a h. let y : Scope K = record x { component = c } in of_put s (λ z. Has z) w t x y e (λ q b. stays x y refl refl b) h;
          patches =
              λ w r d tree x e h.
              of_put s (λ z. Has z) w r x (with_side x d (with_tree app tree (side_of x d))) e (λ q a. side_stays x d (with_tree app tree (side_of x d)) a) h;
          draws = λ w r d q l h. numbered_stays w r d q l h;
          empties =
              λ w b x e h. let y : Scope K = record x { fallback_side = empty_side } in of_put s (λ z. Has z) w b x y e (λ q a. stays x y refl refl a) h;
          makes = λ w r d q c x e h. made_stays w r d q c x e h;
          goes =
              λ w r other told h.
              of_others s (λ z. Has z) (record w { scopes = without w.scopes r }) (gone w r) (gone_same w r).scopes
              (record { row = h.row; there = at_without_other w.scopes r s other ∙ h.there; holds = h.holds });
          mounts =
              λ w h.
              let found = mounted_row w w.scopes s h.row h.there in
              let y : Scope K = record (h.row) { mounted = found.0 } in
              record { row = y; there = found.1; holds = stays h.row y refl refl h.holds };
          ends =
              λ w t a h.
              of_others s (λ z. Has z) (record w { scopes = released w.scopes t }) _ refl
              (of_released s (λ z. Has z) w t (λ x b. let y : Scope K = record x { holders = kept_by (λ d. not (nat_eq d.0 t)) x.holders } in stays x y refl refl b) h);
          spawns =
              λ w t x live low free h.
              let v : State K = record w { tasks = w.tasks ++ (t, x) ∷ [] } in
              of_others s (λ z. Has z) w (post v (Woken t)) (posts_same v (post v (Woken t)) (post_posts v (Woken t))).scopes h;
          goes_on = λ w t x a e may h. of_others s (λ z. Has z) w _ refl h;
          suspends = λ w t x e h. of_others s (λ z. Has z) w _ refl h;
          activates = λ w t active x e told h. of_others s (λ z. Has z) w (activated w t active (Some x)) (activated_same w t active x).scopes h;
        }

    called : Called app (λ w. Is w) 0
    called =
        record {
          bodies = λ w r c low h. let world : World K = world_of w r None true in called_stays w r (is_own c world) world (body_of app c world) h;
          turns =
              λ w b x e h.
              let y : Scope K = record x { shows = Some ChildrenSide; reads = [] } in
              of_others s (λ z. Has z) (record w { scopes = put w.scopes b y }) (record w { last_calls = without w.last_calls b; scopes = put w.scopes b y }) refl
              (of_put s (λ z. Has z) w b x y e (λ q a. stays x y refl refl a) h);
          turns_nowhere = λ w b e h. of_others s (λ z. Has z) w (record w { last_calls = without w.last_calls b }) refl h;
        }

    freely : (w : State K) (r : ℕ) (polled : Option ℕ) (cs : List (Command K)) → AllFresh app 0 cs → Unit {0} → AllAllowed app (λ x. Is x) (λ x. Is x) 0 (others_go s) frame w r polled cs
    freely w r polled cs f g = all_allowed app (λ x. Is x) (λ x. Is x) 0 Free (λ t. Other s t) frame w r polled cs f

    pub move_keeps : (limits : Limits) (m u : Machine K) (move : Move) → Moves app limits m move u → NoneRemoves s (entries (move ∷ [])) → Is m.state → Is u.state
    move_keeps limits m u move step still h =
        moves_on app (λ x. Is x) (λ x. Is x) 0 (others_go s) frame (λ t. tt) called (λ w r polled cs. Unit {0}) (λ w r polled cs f g. freely w r polled cs f g) (draw_anyway app)
        limits m u (move ∷ []) (u, step, refl)
        (
        good_anyway app (λ x. Is x) (λ x. Is x) 0 (others_go s) frame (λ t. tt) called (λ w r polled cs. Unit {0}) (λ w r polled cs f g. freely w r polled cs f g) (draw_anyway app)
        (λ w r polled cs. tt) limits m u (move ∷ []) (u, step, refl)
        )
        (
        spares_all app (λ x. Is x) (λ x. Is x) 0 (others_go s) frame (λ t. tt) called (λ w r polled cs. Unit {0}) (λ w r polled cs f g. freely w r polled cs f g) (draw_anyway app) s
        (λ r q. q) (λ n. tt) (λ n. tt) (λ n. tt) (λ w c. tt) (λ w g. g) limits m u (move ∷ []) (u, step, refl) still
        )
        h
