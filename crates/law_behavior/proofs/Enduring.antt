-- A fact that cells, contexts and what is owed leave, and that goes by components, hooks, errors, holders and the tasks that are there.
use Rattle.std.proofs.Common.{ℕ, Bool, true, false, List, [], ◌∷◌, ◌++◌, ◌≡◌, ◌≤◌, ◌+◌, ◌&&◌, not, refl, ap}
use Rattle.std.specs.Prelude.{Option, Some, None, if◌then◌else◌, is_some}
use Rattle.rt_model.specs.Lists.{at, put, without, drop_number, join}
use Rattle.rt_model.specs.Tree.{Types, CapturedError, VComponent, Element, Place, Kind}
use Rattle.rt_model.specs.World.{Source, Cell, Error, Context, Firsts, Hook, World, Meaning, Application}
use Rattle.rt_model.specs.State.{SideName, MainSide, ChildrenSide, FallbackSide, Posted, Mark, Woken, SuspendedTask, Side, Scope, TaskRow, State, empty_side, side_of, with_side, new_scope, is_live, changed_scope, change, world_of}
use Rattle.rt_model.specs.Commands.{unqueued, drop_posted, holding, released, post, tell, activated, provided_at}
use Rattle.rt_model.specs.Next.{look_on}
use Rattle.rt_model.specs.Removal.{without_scope, gone, cell_sources, cells_in, read_contexts, tell_all}
use Rattle.rt_model.specs.Run.{with_next, called_once, called_where, is_own, kept_call, unmarked, body_of}
use Rattle.rt_model.specs.Replay.{numbered, with_child, with_new_scope, mounted_state}
use Rattle.law_behavior.proofs.Readers.{Posts, post_posts, tell_posts}
use Rattle.law_behavior.proofs.Frames.{permits, Still, with_tree, Frame, Called}

module _ {K : Types} where
  -- component, hooks, error and holders of a scope are as they were
  pub record LastsBut (x y : Scope K) : Type 0 where
    pub component : y.component ≡ x.component
    pub hooks : y.hooks ≡ x.hooks
    pub error : y.error ≡ x.error
    pub holders : y.holders ≡ x.holders

  -- and what it read
  pub record LastsIn (x y : Scope K) : Type 0 where
    pub reads : y.reads ≡ x.reads
    pub but : LastsBut x y

  lasts_but : (x y : Scope K) → y.component ≡ x.component → y.hooks ≡ x.hooks → y.error ≡ x.error → y.holders ≡ x.holders → LastsBut x y
  lasts_but x y c h e d = record { component = c; hooks = h; error = e; holders = d }

  pub lasts_all : (x y : Scope K) → y.reads ≡ x.reads → y.component ≡ x.component → y.hooks ≡ x.hooks → y.error ≡ x.error → y.holders ≡ x.holders → LastsIn x y
  lasts_all x y r c h e d = record { reads = r; but = lasts_but x y c h e d }

  -- a fact that other reads of a scope leave, too
  abbrev pub Again : (State K → Type 0) → Type 0
  Again P = (w : State K) (s : ℕ) (x y : Scope K) → at w.scopes s ≡ Some x → LastsBut x y → P w → P (record w { scopes = put w.scopes s y })

  -- a fact of a state that each small change keeps: errors are cleared, tasks end, scopes are handed a component and go only where
  -- that is allowed, and tasks come from a bound on
  pub record Enduring (P : State K → Type 0) (bound : ℕ) (clearable endable feedable removable : ℕ → Type 0) : Type 0 where
    pub low : (w : State K) → P w → bound ≤ w.next.tasks
    pub others : (w v : State K) → v.scopes ≡ w.scopes → v.tasks ≡ w.tasks → v.next ≡ w.next → P w → P v
    pub nexts : (w : State K) (next : Firsts) → bound ≤ next.tasks → P w → P (with_next w next)
    pub rows : (w : State K) (s : ℕ) (x y : Scope K) → at w.scopes s ≡ Some x → LastsIn x y → P w → P (record w { scopes = put w.scopes s y })
    pub hooks : (w : State K) (s : ℕ) (x : Scope K) (h : Hook K) → at w.scopes s ≡ Some x → P w → P (record w { scopes = put w.scopes s (record x { hooks = x.hooks ++ h ∷ [] }) })
    pub joins : (w : State K) (b t origin : ℕ) (x : Scope K) → at w.scopes b ≡ Some x → P w → P (record w { scopes = put w.scopes b (record x { holders = x.holders ++ (t, origin) ∷ [] }) })
    pub throws : (w : State K) (b : ℕ) (x : Scope K) (e : CapturedError) → at w.scopes b ≡ Some x → x.error ≡ None → P w → P (record w { scopes = put w.scopes b (record x { error = Some e }) })
    pub clears : (w : State K) (b : ℕ) (x : Scope K) → at w.scopes b ≡ Some x → clearable b → P w → P (record w { scopes = put w.scopes b (record x { error = None }) })
    pub feeds : (w : State K) (t : ℕ) (c : VComponent K) (x : Scope K) → at w.scopes t ≡ Some x → feedable t → P w → P (record w { scopes = put w.scopes t (record x { component = c }) })
    pub ends : (w : State K) (t : ℕ) → endable t → P w → P (record w { tasks = without w.tasks t; scopes = released w.scopes t })
    pub spawns : (w : State K) (t : ℕ) (x : TaskRow K) → is_live w x.scope ≡ true → bound ≤ t → P w → P (record w { tasks = w.tasks ++ (t, x) ∷ [] })
    pub tasks : (w : State K) (t : ℕ) (x y : TaskRow K) → at w.tasks t ≡ Some x → y.scope ≡ x.scope → P w → P (record w { tasks = put w.tasks t y })
    pub makes : (w : State K) (n : ℕ) (x : Scope K) → P w → P (record w { scopes = w.scopes ++ (n, x) ∷ [] })
    pub removes : (w : State K) (s : ℕ) → removable s → P w → P (record w { scopes = without w.scopes s })
    pub mounts : (w : State K) → P w → P (mounted_state w)

  lasts_still : (x y : Scope K) → Still x y → LastsIn x y
  lasts_still x y e =
      lasts_all x y (ap (λ (z : Scope K). z.reads) e) (ap (λ (z : Scope K). z.component) e) (ap (λ (z : Scope K). z.hooks) e) (ap (λ (z : Scope K). z.error) e) (ap (λ (z : Scope K). z.holders) e)

  -- a fact that cells, contexts and what is owed leave is such a fact
  module _ (P : State K → Type 0) (bound : ℕ) (clearable endable feedable removable : ℕ → Type 0) (law : Enduring P bound clearable endable feedable removable) where
    posts_keep : (w v : State K) → Posts w v → P w → P v
    posts_keep w v f p =
        law.others w v (ap (λ (x : State K). x.scopes) f.alike) (ap (λ (x : State K). x.tasks) f.alike) (ap (λ (x : State K). x.next) f.alike) p

    told_keeps : (w : State K) (i : Source) → P w → P (tell w i)
    told_keeps w i h = posts_keep w (tell w i) (tell_posts w i) h

    tells_keep : (xs : List Source) (w : State K) → P w → P (tell_all w xs)
    tells_keep [] w h = h
    tells_keep (x ∷ xs) w h = tells_keep xs (tell w x) (told_keeps w x h)

    one_of : (x y : State K) (b : Bool) → P x → P y → P (if b then x else y)
    one_of x y true f g = f
    one_of x y false f g = g

    look_keeps : (ps : List Posted) (w : State K) → P w → P (look_on ps w)
    look_keeps [] w h = h
    look_keeps (Mark s ∷ ps) w h =
        let v : State K = record w { seen = join w.seen s } in look_keeps ps (if is_live w s then v else w) (one_of v w (is_live w s) (law.others w v refl refl refl h) h)
    look_keeps (Woken t ∷ ps) w h =
        let v : State K = record w { queued = join w.queued t } in look_keeps ps (if is_some (at w.tasks t) then v else w) (one_of v w (is_some (at w.tasks t)) (law.others w v refl refl refl h) h)

    gone_keeps : (w : State K) (s : ℕ) → removable s → P w → P (gone w s)
    gone_keeps w s free h =
        let v : State K = without_scope w s in
        let u : State K = tell_all v (cell_sources (cells_in s w.cells)) in
        tells_keep (Error s ∷ read_contexts u s) u
        (tells_keep (cell_sources (cells_in s w.cells)) v (law.others (record w { scopes = without w.scopes s }) v refl refl refl (law.removes w s free h)))

    coarsely : (w : State K) (s : ℕ) (f : Scope K → Scope K) → ((x : Scope K) → LastsIn x (f x)) → P w → P (change w s f)
    coarsely w s f same h = on (at w.scopes s) refl
      where
        on : (o : Option (Scope K)) → at w.scopes s ≡ o → P (changed_scope w s f o)
        on None e = h
        on (Some x) e = law.rows w s x (f x) e (same x) h

    side_lasts : (x : Scope K) (side : SideName) (a : Side K) → LastsIn x (with_side x side a)
    side_lasts x MainSide a = lasts_all x (with_side x MainSide a) refl refl refl refl refl
    side_lasts x ChildrenSide a = lasts_all x (with_side x ChildrenSide a) refl refl refl refl refl
    side_lasts x FallbackSide a = lasts_all x (with_side x FallbackSide a) refl refl refl refl refl

    provided_keeps : (app : Application K) (w : State K) (s k : ℕ) (v : K.Value) (o : Option K.Value) → P w → P (provided_at app w s k v o)
    provided_keeps app w s k v o h =
        on o (coarsely w s (λ x. record x { contexts = put x.contexts k v }) (λ x. lasts_all x (record x { contexts = put x.contexts k v }) refl refl refl refl refl) h)
      where
        on : (o : Option K.Value) → P (change w s (λ x. record x { contexts = put x.contexts k v })) → P (provided_at app w s k v o)
        on None g = told_keeps (change w s (λ x. record x { contexts = put x.contexts k v })) (Context k s) g
        on (Some old) g =
            let u : State K = change w s (λ x. record x { contexts = put x.contexts k v }) in one_of u (tell u (Context k s)) (app.same_value old v) g (told_keeps u (Context k s) g)

    numbered_keeps : (w : State K) (s : ℕ) (side : SideName) (p : Place) (k : Kind) → P w → P (numbered w s side p k)
    numbered_keeps w s side p k h =
        let next : Firsts = record (w.next) { elements = w.next.elements + 1 } in
        coarsely (with_next w next) s (λ x. with_side x side (record (side_of x side) { numbers = (side_of x side).numbers ++ (p, k, w.next.elements) ∷ [] }))
        (λ x. side_lasts x side (record (side_of x side) { numbers = (side_of x side).numbers ++ (p, k, w.next.elements) ∷ [] }))
        (law.nexts w next (law.low w h) h)

    made_keeps : (w : State K) (s : ℕ) (side : SideName) (p : Place) (c : VComponent K) (x : Scope K) → at w.scopes s ≡ Some x → P w → P (with_new_scope w s side p c x)
    made_keeps w s side p c x e h =
        let y : Scope K = with_child side p w.next_scope x in
        let v : State K = record w { scopes = put w.scopes s y } in
        let new : Scope K = new_scope c (Some s) (x.height + 1) side in
        let u : State K = record v { scopes = v.scopes ++ (w.next_scope, new) ∷ [] } in
        let joined : P v = law.rows w s x y e (side_lasts x side (record (side_of x side) { children = (side_of x side).children ++ (p, w.next_scope) ∷ [] })) h in
        law.others u (with_new_scope w s side p c x) refl refl refl (law.makes v w.next_scope new joined)

    activated_keeps : (w : State K) (t : ℕ) (active : Bool) (x : TaskRow K) → at w.tasks t ≡ Some x → P w → P (activated w t active (Some x))
    activated_keeps w t active x e h =
        let v : State K = record w { tasks = put w.tasks t (record x { active = active }) } in
        let now : P v = law.tasks w t x (record x { active = active }) e refl h in
        one_of (post v (Woken t)) v (active && not x.active) (posts_keep v (post v (Woken t)) (post_posts v (Woken t)) now) now

    pub finely : (app : Application K) → Frame app P P bound (permits clearable endable feedable removable)
    finely app =
        record {
          low = λ w h. law.low w h;
          leaves = λ w h. h;
          marks = λ w s h. posts_keep w (post w (Mark s)) (post_posts w (Mark s)) h;
          wakes = λ w t a h. posts_keep w (post w (Woken t)) (post_posts w (Woken t)) h;
          tells = λ w i a h. told_keeps w i h;
          looks = λ w h. look_keeps w.posted (record w { posted = [] }) (law.others w (record w { posted = [] }) refl refl refl h);
          pauses = λ w t e h. law.others w (record w { queued = drop_number w.queued t }) refl refl refl h;
          unqueues = λ w t a h. law.others w (unqueued w t) refl refl refl h;
          unmarks = λ w s h. law.others w (unmarked w s) refl refl refl h;
          asides = λ w v e h. law.others w v (ap (λ (x : State K). x.scopes) e) (ap (λ (x : State K). x.tasks) e) (ap (λ (x : State K). x.next) e) h;
          nexts = λ w next drawn h. law.nexts w next drawn.low h;
          writes = λ w n v old e a c h. let u : State K = record w { cells = put w.cells n (record old { value = v }) } in told_keeps u (Cell n) (law.others w u refl refl refl h);
          drops = λ w n a c h. let u : State K = record w { cells = without w.cells n } in told_keeps u (Cell n) (law.others w u refl refl refl h);
          new_cells = λ w s n v a h. law.others w (record w { cells = w.cells ++ (n, record { owner = s; value = v }) ∷ [] }) refl refl refl h;
          new_contexts = λ w n x a h. law.others w (record w { contexts = w.contexts ++ (n, x) ∷ [] }) refl refl refl h;
          sources = λ w n x y e a h. law.others w (record w { contexts = put w.contexts n y }) refl refl refl h;
          rows = λ w s x y e same h. law.rows w s x y e (lasts_still x y same) h;
          hooks = λ w s x k e h. law.hooks w s x k e h;
          joins = λ w b t origin x e h. law.joins w b t origin x e h;
          throws = λ w b x e live none c h. told_keeps (record w { scopes = put w.scopes b (record x { error = Some e }) }) (Error b) (law.throws w b x e live none h);
          clears = λ w b x live a c h. told_keeps (record w { scopes = put w.scopes b (record x { error = None }) }) (Error b) (law.clears w b x live a h);
          provides = λ w s k v x e c h. provided_keeps app w s k v (at x.contexts k) h;
          feeds = λ w t c x e a h. law.feeds w t c x e a h;
          patches =
              λ w s side tree x e h.
              law.rows w s x (with_side x side (with_tree app tree (side_of x side))) e (side_lasts x side (with_tree app tree (side_of x side))) h;
          draws = λ w s side p k h. numbered_keeps w s side p k h;
          empties = λ w b x e h. law.rows w b x (record x { fallback_side = empty_side }) e (lasts_all x (record x { fallback_side = empty_side }) refl refl refl refl refl) h;
          makes = λ w s side p c x e h. made_keeps w s side p c x e h;
          goes = λ w s free c h. gone_keeps w s free h;
          mounts = λ w h. law.mounts w h;
          ends =
              λ w t a h.
              law.others (record w { tasks = without w.tasks t; scopes = released w.scopes t })
              (record w { tasks = without w.tasks t; posted = drop_posted w.posted (Woken t) ++ holding w.scopes t; queued = drop_number w.queued t; scopes = released w.scopes t })
              refl refl refl (law.ends w t a h);
          spawns =
              λ w t x live low free h.
              let v : State K = record w { tasks = w.tasks ++ (t, x) ∷ [] } in posts_keep v (post v (Woken t)) (post_posts v (Woken t)) (law.spawns w t x live low h);
          goes_on = λ w t x a e may h. law.tasks w t x (record x { state = a }) e refl h;
          suspends = λ w t x e h. law.tasks w t x (record x { kind = SuspendedTask }) e refl h;
          activates = λ w t active x e c h. activated_keeps w t active x e h;
        }

    called_keeps : (b : Bool) (w : State K) → P w → P (called_where b w)
    called_keeps true w h = law.others w (called_once w) refl refl refl h
    called_keeps false w h = h

    read_anew : Again P → (w : State K) (s : ℕ) (xs : List Source) → P w → P (change w s (λ x. record x { reads = xs }))
    read_anew again w s xs h = on (at w.scopes s) refl
      where
        on : (o : Option (Scope K)) → at w.scopes s ≡ o → P (changed_scope w s (λ x. record x { reads = xs }) o)
        on None e = h
        on (Some x) e = again w s x (record x { reads = xs }) e (lasts_but x (record x { reads = xs }) refl refl refl refl) h

    -- and of last calls where other reads leave it
    pub kept_so : (app : Application K) → Again P → Called app P bound
    kept_so app again =
        record {
          bodies =
              λ w s c drawn h.
              let world : World K = world_of w s None true in
              let m : Meaning K (Element K) = body_of app c world in
              let u : State K = called_where (is_own c world) w in
              let v : State K = change (with_next u m.next) s (λ x. record x { reads = m.reads }) in
              law.others v (kept_call u s world m) refl refl refl
              (read_anew again (with_next u m.next) s m.reads (law.nexts u m.next drawn.low (called_keeps (is_own c world) w h)));
          turns =
              λ w b x e h.
              let y : Scope K = record x { shows = Some ChildrenSide; reads = [] } in
              law.others (record w { scopes = put w.scopes b y }) (record w { last_calls = without w.last_calls b; scopes = put w.scopes b y }) refl refl refl
              (again w b x y e (lasts_but x y refl refl refl refl) h);
          turns_nowhere = λ w b e h. law.others w (record w { last_calls = without w.last_calls b }) refl refl refl h;
        }
