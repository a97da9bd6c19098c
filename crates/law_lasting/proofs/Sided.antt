-- What lasts of a side of a scope: a fact that small changes keep, as long as it is regained wherever the side is given another tree.
use Rattle.std.proofs.Common.{ℕ, Bool, true, false, List, [], ◌∷◌, ◌++◌, ◌≡◌, ◌+◌, not, refl, sym, ap, ◌∙◌, subst, nat_eq}
use Rattle.std.proofs.lemmas.Bool.{eqb-true}
use Rattle.std.specs.Prelude.{Option, Some, None, if◌then◌else◌}
use Rattle.rt_model.specs.Lists.{at, put, without, kept_by}
use Rattle.rt_model.specs.Tree.{Types, Tree, Element, VComponent, Place, Kind}
use Rattle.rt_model.specs.World.{Cell, Error, Context, Command, World, Meaning, Application}
use Rattle.rt_model.specs.State.{SideName, MainSide, ChildrenSide, FallbackSide, Mark, Woken, Side, Scope, State, empty_side, side_of, with_side, new_scope, change, world_of}
use Rattle.rt_model.specs.Commands.{released, post, tell, activated, provided_at}
use Rattle.rt_model.specs.Next.{look}
use Rattle.rt_model.specs.Run.{with_next, called_where, is_own, kept_call, body_of}
use Rattle.rt_model.specs.Removal.{gone}
use Rattle.rt_model.specs.Replay.{Entry, Build, Taken, Heard, Rerun, Poll, Effects, Made, Fed, Kept, Removed, Input, EventAt, WakeOf, WriteOf, MarkOf, Drain, Machine, numbered, with_new_scope}
use Rattle.rt_model.specs.Causes.{Limits}
use Rattle.rt_model.proofs.Maps.{by_test, at_put_here, at_put_other, at_without_other}
use Rattle.rt_model.proofs.Tour.{AllFresh}
use Rattle.law_moves.specs.Moves.{Move, Silent, Closed, Logged, entries, Leads}
use Rattle.law_behavior.specs.Along.{removed_in, NoneRemoves}
use Rattle.law_behavior.proofs.Readers.{post_posts}
use Rattle.law_behavior.proofs.Frames.{Free, Permits, permits, with_tree, Frame, Called}
use Rattle.law_behavior.proofs.Commanded.{AllAllowed}
use Rattle.law_behavior.proofs.Onwards.{MayTake, Sparing, waking_anyway, AllSparing, moves_on, good_anyway}
use Rattle.law_behavior.proofs.Steadfast.{Of, Other, from_zero, draw_anyway, all_allowed, of_others, of_put, of_change, of_released, at_more, mounted_row}
use Rattle.law_lasting.proofs.Told.{posts_same, tell_same, look_same, calls_same, activated_same, gone_same}

-- another scope may be removed
abbrev others_go : {K : Types} → ℕ → Permits K
others_go s = permits Free Free Free (λ t. Other s t)

module _ {K : Types} where
  -- another side is another one, and the same is the new one
  on_side : (R S : Side K → Type 0) (x : Scope K) (d side : SideName) (a : Side K) → (R (side_of x d) → S a) → ((b : Side K) → R b → S b) → R (side_of x side) → S (side_of (with_side x d a) side)
  on_side R S x MainSide MainSide a f g h = f h
  on_side R S x MainSide ChildrenSide a f g h = g x.children_side h
  on_side R S x MainSide FallbackSide a f g h = g x.fallback_side h
  on_side R S x ChildrenSide MainSide a f g h = g x.main_side h
  on_side R S x ChildrenSide ChildrenSide a f g h = f h
  on_side R S x ChildrenSide FallbackSide a f g h = g x.fallback_side h
  on_side R S x FallbackSide MainSide a f g h = g x.main_side h
  on_side R S x FallbackSide ChildrenSide a f g h = g x.children_side h
  on_side R S x FallbackSide FallbackSide a f g h = f h

  -- all sides are as they were
  unmoved : (R : Side K → Type 0) (side : SideName) (x y : Scope K) → y.main_side ≡ x.main_side → y.children_side ≡ x.children_side → y.fallback_side ≡ x.fallback_side → R (side_of x side) → R (side_of y side)
  unmoved R MainSide x y a b c h = subst (λ (z : Side K). R z) (sym a) h
  unmoved R ChildrenSide x y a b c h = subst (λ (z : Side K). R z) (sym b) h
  unmoved R FallbackSide x y a b c h = subst (λ (z : Side K). R z) (sym c) h

-- a fact of a side of a scope that small changes of the side keep, and what is left of it where the side is given another tree
pub record SideBears {K : Types} (app : Application K) (R S : Side K → Type 0) : Type 0 where
  pub leaves : (a : Side K) → R a → S a
  pub draws : (a : Side K) (e : Place × Kind × ℕ) → R a → R (record a { numbers = a.numbers ++ e ∷ [] })
  pub makes : (a : Side K) (e : Place × ℕ) → R a → R (record a { children = a.children ++ e ∷ [] })
  pub patches : (a : Side K) (tree : Tree K) → R a → S (with_tree app tree a)
  pub empties : (a : Side K) → R a → S empty_side

module _ {K : Types} (app : Application K) (s : ℕ) (side : SideName) (R S : Side K → Type 0) (law : SideBears app R S) where
  abbrev pub Has : Scope K → Type 0
  Has x = R (side_of x side)

  abbrev pub HasLeft : Scope K → Type 0
  HasLeft x = S (side_of x side)

  abbrev pub SideIs : State K → Type 0
  SideIs w = Of s Has w

  abbrev pub SideLeft : State K → Type 0
  SideLeft w = Of s HasLeft w

  stays : (x y : Scope K) → y.main_side ≡ x.main_side → y.children_side ≡ x.children_side → y.fallback_side ≡ x.fallback_side → Has x → Has y
  stays x y a b c h = unmoved R side x y a b c h

  provided_stays : (w : State K) (r c : ℕ) (v : K.Value) (o : Option K.Value) → SideIs w → SideIs (provided_at app w r c v o)
  provided_stays w r c v o h =
      on o (of_change s Has w r (λ x. record x { contexts = put x.contexts c v }) (λ x e a. stays x (record x { contexts = put x.contexts c v }) refl refl refl a) h)
    where
      one_of : (b : Bool) (x y : State K) → SideIs x → SideIs y → SideIs (if b then x else y)
      one_of true x y f h = f
      one_of false x y f h = h

      on : (q : Option K.Value) → SideIs (change w r (λ x. record x { contexts = put x.contexts c v })) → SideIs (provided_at app w r c v q)
      on None g =
          let u : State K = change w r (λ x. record x { contexts = put x.contexts c v }) in
          of_others s Has u (tell u (Context c r)) (tell_same u (Context c r)).scopes g
      on (Some old) g =
          let u : State K = change w r (λ x. record x { contexts = put x.contexts c v }) in
          let told : SideIs (tell u (Context c r)) = of_others s Has u (tell u (Context c r)) (tell_same u (Context c r)).scopes g in
          one_of (app.same_value old v) u (tell u (Context c r)) g told

  numbered_stays : (w : State K) (r : ℕ) (d : SideName) (q : Place) (l : Kind) → SideIs w → SideIs (numbered w r d q l)
  numbered_stays w r d q l h =
      let v : State K = with_next w (record (w.next) { elements = w.next.elements + 1 }) in
      of_change s Has v r (λ x. with_side x d (record (side_of x d) { numbers = (side_of x d).numbers ++ (q, l, w.next.elements) ∷ [] }))
      (
      λ x e a.
      on_side R R x d side (record (side_of x d) { numbers = (side_of x d).numbers ++ (q, l, w.next.elements) ∷ [] })
      (λ b. law.draws (side_of x d) (q, l, w.next.elements) b)
      (λ b c. c)
      a
      )
      (of_others s Has w v refl h)

  made_stays : (w : State K) (r : ℕ) (d : SideName) (q : Place) (c : VComponent K) (x : Scope K) → at w.scopes r ≡ Some x → SideIs w → SideIs (with_new_scope w r d q c x)
  made_stays w r d q c x e h =
      let a : Side K = record (side_of x d) { children = (side_of x d).children ++ (q, w.next_scope) ∷ [] } in
      let joined : SideIs (record w { scopes = put w.scopes r (with_side x d a) }) =
      of_put s Has w r x (with_side x d a) e (λ same b. on_side R R x d side a (λ z. law.makes (side_of x d) (q, w.next_scope) z) (λ z y. y) b) h in
      record {
        row = joined.row;
        there = at_more (put w.scopes r (with_side x d a)) w.next_scope s (new_scope c (Some r) (x.height + 1) d) joined.row joined.there;
        holds = joined.holds;
      }

  called_stays : (w : State K) (r : ℕ) (own : Bool) (world : World K) (m : Meaning K (Element K)) → SideIs w → SideIs (kept_call (called_where own w) r world m)
  called_stays w r own world m h =
      let u : State K = with_next (called_where own w) m.next in
      let v : State K = change u r (λ x. record x { reads = m.reads }) in
      of_others s Has v (kept_call (called_where own w) r world m) refl
      (of_change s Has u r (λ x. record x { reads = m.reads }) (λ x e a. stays x (record x { reads = m.reads }) refl refl refl a) (of_others s Has w u (calls_same own w).scopes h))

  -- the fact of a scope goes to another fact of it
  put_other : (w : State K) (r : ℕ) (x y : Scope K) → at w.scopes r ≡ Some x → (Has x → HasLeft y) → SideIs w → SideLeft (record w { scopes = put w.scopes r y })
  put_other w r x y e f h =
      by_test (nat_eq r s)
      (
      λ q.
      let found : Some x ≡ Some h.row = sym e ∙ ap (λ (m : ℕ). at w.scopes m) (eqb-true r s q) ∙ h.there in
      let same : x ≡ h.row = cc in
      record { row = y; there = at_put_here w.scopes r y s q; holds = f (subst (λ (z : Scope K). Has z) (sym same) h.holds) }
      )
      (λ q. record { row = h.row; there = at_put_other w.scopes r y s q ∙ h.there; holds = law.leaves (side_of h.row side) h.holds })

  tree_there : (x : Scope K) (d : SideName) (tree : Tree K) → Has x → HasLeft (with_side x d (with_tree app tree (side_of x d)))
  tree_there x d tree h = on_side R S x d side (with_tree app tree (side_of x d)) (λ a. law.patches (side_of x d) tree a) (λ b a. law.leaves b a) h

  side_frame : Frame app SideIs SideLeft 0 (others_go s)
  side_frame =
      record {
        low = λ w h. from_zero w.next.tasks;
        leaves = λ w h. record { row = h.row; there = h.there; holds = law.leaves (side_of h.row side) h.holds };
        marks = λ w r h. of_others s Has w (post w (Mark r)) (posts_same w (post w (Mark r)) (post_posts w (Mark r))).scopes h;
        wakes = λ w t a h. of_others s Has w (post w (Woken t)) (posts_same w (post w (Woken t)) (post_posts w (Woken t))).scopes h;
        tells = λ w i a h. of_others s Has w (tell w i) (tell_same w i).scopes h;
        looks = λ w h. of_others s Has w (look w) (look_same w).scopes h;
        pauses = λ w t e h. of_others s Has w _ refl h;
        unqueues = λ w t a h. of_others s Has w _ refl h;
        unmarks = λ w r h. of_others s Has w _ refl h;
        asides = λ w v e h. of_others s Has w v (ap (λ (x : State K). x.scopes) e) h;
        nexts = λ w next low h. of_others s Has w (with_next w next) refl h;
        writes =
            λ w c v old e a told h.
            let u : State K = record w { cells = put w.cells c (record old { value = v }) } in of_others s Has w (tell u (Cell c)) (tell_same u (Cell c)).scopes h;
        drops =
            λ w c a told h. let u : State K = record w { cells = without w.cells c } in of_others s Has w (tell u (Cell c)) (tell_same u (Cell c)).scopes h;
        new_cells = λ w r c v a h. of_others s Has w _ refl h;
        new_contexts = λ w c x a h. of_others s Has w _ refl h;
        sources = λ w c x y e a h. of_others s Has w _ refl h;
        rows =
            λ w r x y e same h.
            of_put s Has w r x y e
            (λ q a. stays x y (ap (λ (z : Scope K). z.main_side) same) (ap (λ (z : Scope K). z.children_side) same) (ap (λ (z : Scope K). z.fallback_side) same) a)
            h;
        hooks = λ w r x hook e h. let y : Scope K = record x { hooks = x.hooks ++ hook ∷ [] } in of_put s Has w r x y e (λ q a. stays x y refl refl refl a) h;
        joins =
            λ w b t origin x e h. let y : Scope K = record x { holders = x.holders ++ (t, origin) ∷ [] } in of_put s Has w b x y e (λ q a. stays x y refl refl refl a) h;
        throws =
            λ w b x f e none told h.
            let y : Scope K = record x { error = Some f } in
            let u : State K = record w { scopes = put w.scopes b y } in
            of_others s Has u (tell u (Error b)) (tell_same u (Error b)).scopes (of_put s Has w b x y e (λ q a. stays x y refl refl refl a) h);
        clears =
            λ w b x e may told h.
            let y : Scope K = record x { error = None } in
            let u : State K = record w { scopes = put w.scopes b y } in
            of_others s Has u (tell u (Error b)) (tell_same u (Error b)).scopes (of_put s Has w b x y e (λ q a. stays x y refl refl refl a) h);
        provides = λ w r c v x e told h. provided_stays w r c v (at x.contexts c) h;
        feeds = λ w t c x e a h. let y : Scope K = record x { component = c } in of_put s Has w t x y e (λ q b. stays x y refl refl refl b) h;
        patches = λ w r d tree x e h. put_other w r x (with_side x d (with_tree app tree (side_of x d))) e (λ a. tree_there x d tree a) h;
        draws = λ w r d q l h. numbered_stays w r d q l h;
        empties =
            λ w b x e h.
            put_other w b x (with_side x FallbackSide empty_side) e
            (λ a. on_side R S x FallbackSide side empty_side (λ c. law.empties x.fallback_side c) (λ c d. law.leaves c d) a)
            h;
        makes = λ w r d q c x e h. made_stays w r d q c x e h;
        goes =
            λ w r other told h.
            of_others s Has (record w { scopes = without w.scopes r }) (gone w r) (gone_same w r).scopes
            (record { row = h.row; there = at_without_other w.scopes r s other ∙ h.there; holds = h.holds });
        mounts =
            λ w h.
            let found = mounted_row w w.scopes s h.row h.there in
            let y : Scope K = record (h.row) { mounted = found.0 } in
            record { row = y; there = found.1; holds = stays h.row y refl refl refl h.holds };
        ends =
            λ w t a h.
            of_others s Has (record w { scopes = released w.scopes t }) _ refl
            (of_released s Has w t (λ x b. let y : Scope K = record x { holders = kept_by (λ d. not (nat_eq d.0 t)) x.holders } in stays x y refl refl refl b) h);
        spawns =
            λ w t x live low free h.
            let v : State K = record w { tasks = w.tasks ++ (t, x) ∷ [] } in
            of_others s Has w (post v (Woken t)) (posts_same v (post v (Woken t)) (post_posts v (Woken t))).scopes h;
        goes_on = λ w t x a e may h. of_others s Has w _ refl h;
        suspends = λ w t x e h. of_others s Has w _ refl h;
        activates = λ w t active x e told h. of_others s Has w (activated w t active (Some x)) (activated_same w t active x).scopes h;
      }

  side_called : Called app SideIs 0
  side_called =
      record {
        bodies = λ w r c low h. let world : World K = world_of w r None true in called_stays w r (is_own c world) world (body_of app c world) h;
        turns =
            λ w b x e h.
            let y : Scope K = record x { shows = Some ChildrenSide; reads = [] } in
            of_others s Has (record w { scopes = put w.scopes b y }) (record w { last_calls = without w.last_calls b; scopes = put w.scopes b y }) refl
            (of_put s Has w b x y e (λ q a. stays x y refl refl refl a) h);
        turns_nowhere = λ w b e h. of_others s Has w (record w { last_calls = without w.last_calls b }) refl h;
      }

  freely : (w : State K) (r : ℕ) (polled : Option ℕ) (cs : List (Command K)) → AllFresh app 0 cs → Unit {0} → AllAllowed app SideIs SideLeft 0 (others_go s) side_frame w r polled cs
  freely w r polled cs f g = all_allowed app SideIs SideLeft 0 Free (λ t. Other s t) side_frame w r polled cs f

  may_take : (inputs : List (Input K)) → MayTake app SideIs SideLeft 0 (others_go s) side_frame (λ t. tt) side_called (λ w r polled cs. Unit {0}) (λ w r polled cs f g. freely w r polled cs f g) (draw_anyway app) inputs
  may_take [] = tt
  may_take (WriteOf c v ∷ more) = tt
  may_take (EventAt name payload element bubbles ∷ more) = tt
  may_take (WakeOf t ∷ more) = tt
  may_take (MarkOf r ∷ more) = tt
  may_take (Drain messages ∷ more) = tt

  entry_leaves : (inputs : List (Input K)) (e : Entry) → removed_in s e ≡ false
      → Sparing app SideIs SideLeft 0 (others_go s) side_frame (λ t. tt) side_called (λ w r polled cs. Unit {0}) (λ w r polled cs f g. freely w r polled cs f g) (draw_anyway app) inputs e
  entry_leaves inputs (Removed r) q = q
  entry_leaves inputs Build q = tt
  entry_leaves inputs (Taken c) q = may_take inputs
  entry_leaves inputs (Heard r) q = tt
  entry_leaves inputs (Rerun r) q = tt
  entry_leaves inputs (Poll t) q = tt
  entry_leaves inputs (Effects r) q = tt
  entry_leaves inputs (Made r) q = tt
  entry_leaves inputs (Fed r) q = tt
  entry_leaves inputs (Kept r) q = tt

  -- wherever these moves come to, what is left of the fact is the fact itself
  abbrev pub Regains : (limits : Limits) (m v : Machine K) (moves : List Move) → Leads app limits m moves v → Type 0
  Regains limits m v [] leads = Unit {0}
  Regains limits m v (move ∷ moves) leads = (SideLeft (leads.0).state → SideIs (leads.0).state) × Regains limits leads.0 v moves leads.2

  moves_leave : (limits : Limits) (m v : Machine K) (moves : List Move) (leads : Leads app limits m moves v) → NoneRemoves s (entries moves) → Regains limits m v moves leads
      → AllSparing app SideIs SideLeft 0 (others_go s) side_frame (λ t. tt) side_called (λ w r polled cs. Unit {0}) (λ w r polled cs f g. freely w r polled cs f g) (draw_anyway app) limits m v moves leads
  moves_leave limits m v [] leads still there = tt
  moves_leave limits m v (Silent ∷ moves) leads still there = (there.0, moves_leave limits leads.0 v moves leads.2 still there.1)
  moves_leave limits m v (Closed ∷ moves) leads still there = moves_leave limits leads.0 v moves leads.2 still there.1
  moves_leave limits m v (Logged e ∷ moves) leads still there = (
    (entry_leaves m.inputs e still.0, waking_anyway app SideIs SideLeft 0 (others_go s) side_frame (λ t. tt) side_called (λ w r polled cs. Unit {0}) (λ w r polled cs f g. freely w r polled cs f g) (draw_anyway app) (λ w c. tt) m e),
    there.0,
    moves_leave limits leads.0 v moves leads.2 still.1 there.1,
  )

  pub side_lasts : (limits : Limits) (m v : Machine K) (moves : List Move) (leads : Leads app limits m moves v) → NoneRemoves s (entries moves) → Regains limits m v moves leads
      → SideIs m.state
      → SideIs v.state
  side_lasts limits m v moves leads still there h =
      moves_on app SideIs SideLeft 0 (others_go s) side_frame (λ t. tt) side_called (λ w r polled cs. Unit {0}) (λ w r polled cs f g. freely w r polled cs f g) (draw_anyway app)
      limits m v moves leads
      (
      good_anyway app SideIs SideLeft 0 (others_go s) side_frame (λ t. tt) side_called (λ w r polled cs. Unit {0}) (λ w r polled cs f g. freely w r polled cs f g) (draw_anyway app)
      (λ w r polled cs. tt) limits m v moves leads
      )
      (moves_leave limits m v moves leads still there)
      h
