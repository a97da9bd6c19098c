-- A scope whose hooks keep cells: each call of its body from then on is given hooks that do.
use Rattle.std.proofs.Common.{ℕ, ◌+◌, Bool, true, false, ◌&&◌, not, List, [], ◌∷◌, ◌++◌, ◌≡◌, ◌⊎◌, inl, inr, refl, sym, ap, ◌∙◌, subst, nat_eq}
use Rattle.std.proofs.lemmas.Bool.{eqb-true}
use Rattle.std.specs.Prelude.{Option, Some, None, if◌then◌else◌, is_some}
use Rattle.rt_model.specs.Lists.{at, put, without, join}
use Rattle.rt_model.specs.Tree.{Types, VComponent, Place, Kind, Element}
use Rattle.rt_model.specs.World.{Source, Cell, Error, Context, Hook, HookValue, Command, World, Meaning, Application}
use Rattle.rt_model.specs.State.{SideName, ChildrenSide, Posted, Mark, Woken, Scope, LastCall, TaskRow, State, is_live, side_of, with_side, changed_scope, change, hooks_of, world_of}
use Rattle.rt_model.specs.Commands.{post, tell, activated, provided_at}
use Rattle.rt_model.specs.Next.{look, look_on}
use Rattle.rt_model.specs.Run.{with_next, called_where, is_own, output_of, kept_call, body_of}
use Rattle.rt_model.specs.Removal.{without_scope, gone, cell_sources, cells_in, read_contexts, tell_all}
use Rattle.rt_model.specs.Replay.{Machine, numbered}
use Rattle.rt_model.specs.Causes.{Limits}
use Rattle.rt_model.proofs.Maps.{by_test, eq_same, at_put_here, at_put_other, at_without_here, at_without_other}
use Rattle.rt_model.proofs.Tour.{AllFresh}
use Rattle.law_moves.specs.Moves.{Move, entries, Leads}
use Rattle.law_behavior.specs.Along.{NoneRemoves}
use Rattle.law_behavior.proofs.Readers.{Posts, post_posts, tell_posts}
use Rattle.law_behavior.proofs.Frames.{Free, permits, Frame, Called}
use Rattle.law_behavior.proofs.Enduring.{Enduring, finely, kept_so}
use Rattle.law_behavior.proofs.Commanded.{AllAllowed}
use Rattle.law_behavior.proofs.Onwards.{moves_on, good_anyway, spares_all}
use Rattle.law_behavior.proofs.Steadfast.{Of, Other, Bears, from_zero, draw_anyway, of_others, of_put, of_again, of_endures, all_allowed, nth_stays as nth_longer}
use Rattle.author_programs.specs.Cells.{Keeping}
use Rattle.author_programs.specs.Shows.{KeepAll}
use Rattle.law_reduce.specs.Kept.{CellsAreKept}

module _ {K : Types} where
  -- what no post, tell or look changes

  pub posts_calls : (w v : State K) → Posts w v → v.last_calls ≡ w.last_calls
  posts_calls w v f = ap (λ (x : State K). x.last_calls) f.alike

  pub tell_calls : (w : State K) (i : Source) → (tell w i).last_calls ≡ w.last_calls
  tell_calls w i = posts_calls w (tell w i) (tell_posts w i)

  tells_calls : (xs : List Source) (w : State K) → (tell_all w xs).last_calls ≡ w.last_calls
  tells_calls [] w = refl
  tells_calls (x ∷ xs) w = tells_calls xs (tell w x) ∙ tell_calls w x

  either_calls : (w x y : State K) (b : Bool) → x.last_calls ≡ w.last_calls → y.last_calls ≡ w.last_calls → (if b then x else y).last_calls ≡ w.last_calls
  either_calls w x y true f g = f
  either_calls w x y false f g = g

  pub looks_calls : (ps : List Posted) (w : State K) → (look_on ps w).last_calls ≡ w.last_calls
  looks_calls [] w = refl
  looks_calls (Mark s ∷ ps) w =
      let v : State K = record w { seen = join w.seen s } in looks_calls ps (if is_live w s then v else w) ∙ either_calls w v w (is_live w s) refl refl
  looks_calls (Woken t ∷ ps) w =
      let v : State K = record w { queued = join w.queued t } in looks_calls ps (if is_some (at w.tasks t) then v else w) ∙ either_calls w v w (is_some (at w.tasks t)) refl refl

  pub changes_calls : (w : State K) (s : ℕ) (f : Scope K → Scope K) (o : Option (Scope K)) → (changed_scope w s f o).last_calls ≡ w.last_calls
  changes_calls w s f None = refl
  changes_calls w s f (Some x) = refl

  pub calls_where : (b : Bool) (w : State K) → (called_where b w).last_calls ≡ w.last_calls
  calls_where true w = refl
  calls_where false w = refl

  scopes_where : (b : Bool) (w : State K) → (called_where b w).scopes ≡ w.scopes
  scopes_where true w = refl
  scopes_where false w = refl

  pub provided_calls : (app : Application K) (w : State K) (s k : ℕ) (v : K.Value) (o : Option K.Value) → (provided_at app w s k v o).last_calls ≡ w.last_calls
  provided_calls app w s k v o = on o
    where
      u : State K
      u = change w s (λ x. record x { contexts = put x.contexts k v })

      changed : u.last_calls ≡ w.last_calls
      changed = changes_calls w s (λ x. record x { contexts = put x.contexts k v }) (at w.scopes s)

      on : (p : Option K.Value) → (provided_at app w s k v p).last_calls ≡ w.last_calls
      on None = tell_calls u (Context k s) ∙ changed
      on (Some old) = either_calls w u (tell u (Context k s)) (app.same_value old v) changed (tell_calls u (Context k s) ∙ changed)

  pub numbered_calls : (w : State K) (s : ℕ) (side : SideName) (p : Place) (k : Kind) → (numbered w s side p k).last_calls ≡ w.last_calls
  numbered_calls w s side p k =
      changes_calls (with_next w (record (w.next) { elements = w.next.elements + 1 })) s
      (λ x. with_side x side (record (side_of x side) { numbers = (side_of x side).numbers ++ (p, k, w.next.elements) ∷ [] }))
      (at w.scopes s)

  pub gone_calls : (w : State K) (s : ℕ) → (gone w s).last_calls ≡ without w.last_calls s
  gone_calls w s =
      let v : State K = without_scope w s in
      let u : State K = tell_all v (cell_sources (cells_in s w.cells)) in
      tells_calls (Error s ∷ read_contexts u s) u ∙ tells_calls (cell_sources (cells_in s w.cells)) v

  pub activated_calls : (w : State K) (t : ℕ) (active : Bool) (x : TaskRow K) → (activated w t active (Some x)).last_calls ≡ w.last_calls
  activated_calls w t active x =
      let v : State K = record w { tasks = put w.tasks t (record x { active = active }) } in
      either_calls w (post v (Woken t)) v (active && not x.active) (posts_calls v (post v (Woken t)) (post_posts v (Woken t))) refl

-- what came with one of two facts goes on
so_far : {A R T G : Type 0} → (R → T) → (A × R) ⊎ G → (A × T) ⊎ G
so_far f (inl h) = inl (h.0, f h.1)
so_far f (inr g) = inr g

module _ {K : Types} (k : Keeping K.Value) (s : ℕ) (own : List ℕ) (old : Option (LastCall K)) (read : List Source) where
  -- the hooks of the scope keep the cells

  abbrev pub Keeps : Scope K → Type 0
  Keeps x = KeepAll k x.hooks 0 own

  pub kept_longer : (hs : List (Hook K)) (h : Hook K) (i : ℕ) (ns : List ℕ) → KeepAll k hs i ns → KeepAll k (hs ++ h ∷ []) i ns
  kept_longer hs h i [] f = tt
  kept_longer hs h i (n ∷ ns) f = (
    record { value = (f.0).value; is = nth_longer hs i (HookValue k.kind (f.0).value) h (f.0).is; keeps = (f.0).keeps },
    kept_longer hs h (i + 1) ns f.1,
  )

  keeps_bear : Bears {K = K} s Keeps Free Free Free
  keeps_bear =
      record {
        same = λ x y same q. subst (λ (hs : List (Hook K)). KeepAll k hs 0 own) (sym (same.but).hooks) q;
        hooks = λ x h q. kept_longer x.hooks h 0 own q;
        joins = λ x t origin q. q;
        throws = λ x e none q. q;
        clears = λ x may q. q;
        feeds = λ x c may q. q;
        ends = λ x t may q. q;
      }

  keeps_endure : Enduring {K = K} (λ w. Of s Keeps w) 0 Free Free Free (λ t. Other s t)
  keeps_endure = of_endures s Keeps Free Free Free keeps_bear

  -- it reads what it did

  abbrev pub Reads : Scope K → Type 0
  Reads x = x.reads ≡ read

  reads_bear : Bears {K = K} s Reads Free Free Free
  reads_bear =
      record {
        same = λ x y same q. same.reads ∙ q;
        hooks = λ x h q. q;
        joins = λ x t origin q. q;
        throws = λ x e none q. q;
        clears = λ x may q. q;
        feeds = λ x c may q. q;
        ends = λ x t may q. q;
      }

  reads_endure : Enduring {K = K} (λ w. Of s Reads w) 0 Free Free Free (λ t. Other s t)
  reads_endure = of_endures s Reads Free Free Free reads_bear

  -- its last call is the old one and it reads what it did, or it was given hooks that do

  abbrev pub Given : State K → Type 0
  Given w = (last : LastCall K) → at w.last_calls s ≡ Some last → ((old ≡ Some last) × Of s Reads w) ⊎ KeepAll k last.given.given.hooks 0 own

  by_calls : (w v : State K) → v.last_calls ≡ w.last_calls → (Of s Reads w → Of s Reads v) → Given w → Given v
  by_calls w v same f h = λ last e. so_far f (h last (ap (λ (es : List (ℕ × LastCall K)). at es s) (sym same) ∙ e))

  -- where the call of a scope goes
  by_without : (w v : State K) (t : ℕ) → v.last_calls ≡ without w.last_calls t → (nat_eq t s ≡ false → Of s Reads w → Of s Reads v) → Given w → Given v
  by_without w v t same f h = λ last e.
      let there : at (without w.last_calls t) s ≡ Some last = ap (λ (es : List (ℕ × LastCall K)). at es s) (sym same) ∙ e in
      by_test (nat_eq t s)
      (λ q. let absurdity : None ≡ Some last = sym (at_without_here w.last_calls t s q) ∙ there in cc)
      (λ q. so_far (f q) (h last (sym (at_without_other w.last_calls t s q) ∙ there)))

  -- another scope reads otherwise
  others_read : (w : State K) (t : ℕ) (x y : Scope K) → at w.scopes t ≡ Some x → nat_eq t s ≡ false → Of s Reads w → Of s Reads (record w { scopes = put w.scopes t y })
  others_read w t x y e q r =
      of_put s Reads w t x y e
      (λ is z. let absurdity : true ≡ false = sym (eq_same t) ∙ ap (λ (n : ℕ). nat_eq t n) is ∙ q in cc)
      r

  others_change : (w : State K) (t : ℕ) (xs : List Source) → nat_eq t s ≡ false → Of s Reads w → Of s Reads (change w t (λ x. record x { reads = xs }))
  others_change w t xs q r = on (at w.scopes t) refl
    where
      on : (o : Option (Scope K)) → at w.scopes t ≡ o → Of s Reads (changed_scope w t (λ x. record x { reads = xs }) o)
      on None e = r
      on (Some x) e = others_read w t x (record x { reads = xs }) e q r

  abbrev pub Both : State K → Type 0
  Both w = Of s Keeps w × Given w

  module _ (app : Application K) where
    one : Frame app (λ w. Of s Keeps w) (λ w. Of s Keeps w) 0 (permits Free Free Free (λ t. Other s t))
    one = finely (λ w. Of s Keeps w) 0 Free Free Free (λ t. Other s t) keeps_endure app

    reads : Frame app (λ w. Of s Reads w) (λ w. Of s Reads w) 0 (permits Free Free Free (λ t. Other s t))
    reads = finely (λ w. Of s Reads w) 0 Free Free Free (λ t. Other s t) reads_endure app

    pub one_called : Called app (λ w. Of s Keeps w) 0
    one_called =
        kept_so (λ w. Of s Keeps w) 0 Free Free Free (λ t. Other s t) keeps_endure app
        (of_again s Keeps (λ x y same q. subst (λ (hs : List (Hook K)). KeepAll k hs 0 own) (sym same.hooks) q))

    pub both_frame : Frame app (λ w. Both w) (λ w. Both w) 0 (permits Free Free Free (λ t. Other s t))
    both_frame =
        record {
          low = λ w h. from_zero w.next.tasks;
          leaves = λ w h. h;
          marks = λ w t h. (one.marks w t h.0, by_calls w (post w (Mark t)) (posts_calls w (post w (Mark t)) (post_posts w (Mark t))) (λ r. reads.marks w t r) h.1);
          wakes = λ w t a h. (one.wakes w t a h.0, by_calls w (post w (Woken t)) (posts_calls w (post w (Woken t)) (post_posts w (Woken t))) (λ r. reads.wakes w t a r) h.1);
          tells = λ w i a h. (one.tells w i a h.0, by_calls w (tell w i) (tell_calls w i) (λ r. reads.tells w i a r) h.1);
          looks = λ w h. (one.looks w h.0, by_calls w (look w) (looks_calls w.posted (record w { posted = [] })) (λ r. reads.looks w r) h.1);
          pauses = λ w t e h. (one.pauses w t e h.0, λ last is. so_far (λ r. reads.pauses w t e r) (h.1 last is));
          unqueues = λ w t a h. (one.unqueues w t a h.0, λ last is. so_far (λ r. reads.unqueues w t a r) (h.1 last is));
          unmarks = λ w t h. (one.unmarks w t h.0, λ last is. so_far (λ r. reads.unmarks w t r) (h.1 last is));
          asides = λ w v e h. (one.asides w v e h.0, by_calls w v (ap (λ (x : State K). x.last_calls) e) (λ r. reads.asides w v e r) h.1);
          nexts = λ w next low h. (one.nexts w next low h.0, λ last is. so_far (λ r. reads.nexts w next low r) (h.1 last is));
          writes = λ w n v row e a told h.
              (one.writes w n v row e a told h.0, by_calls w (tell (record w { cells = put w.cells n (record row { value = v }) }) (Cell n)) (tell_calls (record w { cells = put w.cells n (record row { value = v }) }) (Cell n)) (λ r. reads.writes w n v row e a told r) h.1);
          drops = λ w n a told h. (one.drops w n a told h.0, by_calls w (tell (record w { cells = without w.cells n }) (Cell n)) (tell_calls (record w { cells = without w.cells n }) (Cell n)) (λ r. reads.drops w n a told r) h.1);
          new_cells = λ w t n v a h. (one.new_cells w t n v a h.0, λ last is. so_far (λ r. reads.new_cells w t n v a r) (h.1 last is));
          new_contexts = λ w n x a h. (one.new_contexts w n x a h.0, λ last is. so_far (λ r. reads.new_contexts w n x a r) (h.1 last is));
          sources = λ w n x y e a h. (one.sources w n x y e a h.0, λ last is. so_far (λ r. reads.sources w n x y e a r) (h.1 last is));
          rows = λ w t x y e same h. (one.rows w t x y e same h.0, λ last is. so_far (λ r. reads.rows w t x y e same r) (h.1 last is));
          hooks = λ w t x hook e h. (one.hooks w t x hook e h.0, λ last is. so_far (λ r. reads.hooks w t x hook e r) (h.1 last is));
          joins = λ w b t origin x e h. (one.joins w b t origin x e h.0, λ last is. so_far (λ r. reads.joins w b t origin x e r) (h.1 last is));
          throws = λ w b x e live none told h.
              (one.throws w b x e live none told h.0, by_calls w (tell (record w { scopes = put w.scopes b (record x { error = Some e }) }) (Error b)) (tell_calls (record w { scopes = put w.scopes b (record x { error = Some e }) }) (Error b)) (λ r. reads.throws w b x e live none told r) h.1);
          clears = λ w b x live a told h.
              (one.clears w b x live a told h.0, by_calls w (tell (record w { scopes = put w.scopes b (record x { error = None }) }) (Error b)) (tell_calls (record w { scopes = put w.scopes b (record x { error = None }) }) (Error b)) (λ r. reads.clears w b x live a told r) h.1);
          provides = λ w t kind v x e told h. (one.provides w t kind v x e told h.0, by_calls w (provided_at app w t kind v (at x.contexts kind)) (provided_calls app w t kind v (at x.contexts kind)) (λ r. reads.provides w t kind v x e told r) h.1);
          feeds = λ w t c x e a h. (one.feeds w t c x e a h.0, λ last is. so_far (λ r. reads.feeds w t c x e a r) (h.1 last is));
          patches = λ w t side tree x e h. (one.patches w t side tree x e h.0, λ last is. so_far (λ r. reads.patches w t side tree x e r) (h.1 last is));
          draws = λ w t side p kind h. (one.draws w t side p kind h.0, by_calls w (numbered w t side p kind) (numbered_calls w t side p kind) (λ r. reads.draws w t side p kind r) h.1);
          empties = λ w b x e h. (one.empties w b x e h.0, λ last is. so_far (λ r. reads.empties w b x e r) (h.1 last is));
          makes = λ w t side p c x e h. (one.makes w t side p c x e h.0, λ last is. so_far (λ r. reads.makes w t side p c x e r) (h.1 last is));
          goes = λ w t free told h. (one.goes w t free told h.0, by_without w (gone w t) t (gone_calls w t) (λ q r. reads.goes w t free told r) h.1);
          mounts = λ w h. (one.mounts w h.0, λ last is. so_far (λ r. reads.mounts w r) (h.1 last is));
          ends = λ w t a h. (one.ends w t a h.0, λ last is. so_far (λ r. reads.ends w t a r) (h.1 last is));
          spawns = λ w t x live low free h.
              let v : State K = record w { tasks = w.tasks ++ (t, x) ∷ [] } in
              (one.spawns w t x live low tt h.0, by_calls w (post v (Woken t)) (posts_calls v (post v (Woken t)) (post_posts v (Woken t))) (λ r. reads.spawns w t x live low tt r) h.1);
          goes_on = λ w t x a e may h. (one.goes_on w t x a e may h.0, λ last is. so_far (λ r. reads.goes_on w t x a e may r) (h.1 last is));
          suspends = λ w t x e h. (one.suspends w t x e h.0, λ last is. so_far (λ r. reads.suspends w t x e r) (h.1 last is));
          activates = λ w t active x e told h. (one.activates w t active x e told h.0, by_calls w (activated w t active (Some x)) (activated_calls w t active x) (λ r. reads.activates w t active x e told r) h.1);
        }

    -- a call of a body: another scope's leaves the scope's own, and the scope's own is given what its hooks are
    called_given : (w : State K) (t : ℕ) (c : VComponent K) → Of s Keeps w → Given w
        → Given (kept_call (called_where (is_own c (world_of w t None true)) w) t (world_of w t None true) (body_of app c (world_of w t None true)))
    called_given w t c kept given = λ last e.
        let world : World K = world_of w t None true in
        let m : Meaning K (Element K) = body_of app c world in
        let b : Bool = is_own c world in
        let u : State K = called_where b w in
        let n : State K = with_next u m.next in
        let v : State K = change n t (λ x. record x { reads = m.reads }) in
        let call : LastCall K = record { given = world; aside = m.aside; answer = m.answer; before = output_of u t } in
        let same : v.last_calls ≡ w.last_calls = changes_calls n t (λ x. record x { reads = m.reads }) (at n.scopes t) ∙ calls_where b w in
        let there : at (put w.last_calls t call) s ≡ Some last = ap (λ (es : List (ℕ × LastCall K)). at (put es t call) s) (sym same) ∙ e in
        by_test (nat_eq t s)
        (
        λ q.
        let is : Some call ≡ Some last = sym (at_put_here w.last_calls t call s q) ∙ there in
        let this : call ≡ last = cc in
        let hooks : hooks_of w t ≡ (kept.row).hooks =
        ap (λ (o : ℕ). hooks_of w o) (eqb-true t s q)
        ∙ ap (λ (o : Option (Scope K)). elim o as (λ z. List (Hook K)) [ None ↦ [] | Some x ↦ x.hooks ]) kept.there in
        inr (subst (λ (l : LastCall K). KeepAll k l.given.given.hooks 0 own) this (subst (λ (hs : List (Hook K)). KeepAll k hs 0 own) (sym hooks) kept.holds))
        )
        (
        λ q.
        so_far
        (
        λ r.
        of_others s Reads v (kept_call u t world m) refl
        (others_change n t m.reads q (of_others s Reads w n (scopes_where b w) r))
        )
        (given last (sym (at_put_other w.last_calls t call s q) ∙ there))
        )

    pub both_called : Called app (λ w. Both w) 0
    both_called =
        record {
          bodies = λ w t c low h. (one_called.bodies w t c low h.0, called_given w t c h.0 h.1);
          turns = λ w b x e h. (
            one_called.turns w b x e h.0,
            by_without w (record w { last_calls = without w.last_calls b; scopes = put w.scopes b (record x { shows = Some ChildrenSide; reads = [] }) }) b refl
                (
                λ q r.
                let y : Scope K = record x { shows = Some ChildrenSide; reads = [] } in
                of_others s Reads (record w { scopes = put w.scopes b y }) (record w { last_calls = without w.last_calls b; scopes = put w.scopes b y }) refl (others_read w b x y e q r)
                )
                h.1,
          );
          turns_nowhere = λ w b e h. (one_called.turns_nowhere w b e h.0, by_without w (record w { last_calls = without w.last_calls b }) b refl (λ q r. of_others s Reads w (record w { last_calls = without w.last_calls b }) refl r) h.1);
        }

    freely : (w : State K) (r : ℕ) (polled : Option ℕ) (cs : List (Command K)) → AllFresh app 0 cs → Unit {0}
        → AllAllowed app (λ v. Both v) (λ v. Both v) 0 (permits Free Free Free (λ t. Other s t)) both_frame w r polled cs
    freely w r polled cs f g = all_allowed app (λ v. Both v) (λ v. Both v) 0 Free (λ t. Other s t) both_frame w r polled cs f

    pub both_last : (limits : Limits) (m v : Machine K) (moves : List Move) (leads : Leads app limits m moves v) → NoneRemoves s (entries moves) → Both m.state → Both v.state
    both_last limits m v moves leads stays h =
        moves_on app (λ w. Both w) (λ w. Both w) 0 (permits Free Free Free (λ t. Other s t)) both_frame (λ t. tt) both_called (λ w r polled cs. Unit {0}) (λ w r polled cs f g. freely w r polled cs f g) (draw_anyway app)
        limits m v moves leads
        (
        good_anyway app (λ w. Both w) (λ w. Both w) 0 (permits Free Free Free (λ t. Other s t)) both_frame (λ t. tt) both_called (λ w r polled cs. Unit {0}) (λ w r polled cs f g. freely w r polled cs f g) (draw_anyway app)
        (λ w r polled cs. tt) limits m v moves leads
        )
        (
        spares_all app (λ w. Both w) (λ w. Both w) 0 (permits Free Free Free (λ t. Other s t)) both_frame (λ t. tt) both_called (λ w r polled cs. Unit {0}) (λ w r polled cs f g. freely w r polled cs f g) (draw_anyway app)
        s (λ t q. q) (λ n. tt) (λ n. tt) (λ n. tt) (λ w c. tt) (λ w g. g) limits m v moves leads stays
        )
        h

pub cells_are_kept : {K : Types} (app : Application K) → CellsAreKept app
cells_are_kept {K = K} app k limits m v moves s x own leads stays there keeps =
    let old : Option (LastCall K) = at m.state.last_calls s in
    let begins : Both k s own old x.reads m.state =
    (record { row = x; there = there; holds = keeps }, λ last e. inl (e, record { row = x; there = there; holds = refl })) in
    let ends : Both k s own old x.reads v.state = both_last k s own old x.reads app limits m v moves leads stays begins in
    let kept = ends.0 in (
      subst (λ (o : Option (Scope K)). KeepAll k (elim o as (λ z. List (Hook K)) [ None ↦ [] | Some y ↦ y.hooks ]) 0 own) (sym kept.there) kept.holds,
      λ last e.
          so_far
          (λ (r : Of s (Reads k s own old x.reads) v.state). ap (λ (o : Option (Scope K)). elim o as (λ z. List Source) [ None ↦ [] | Some y ↦ y.reads ]) r.there ∙ r.holds)
          (ends.1 last e),
    )
