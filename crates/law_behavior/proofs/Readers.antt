-- Who read a source is posted when it is told.
use Rattle.std.proofs.Common.{ℕ, Bool, true, false, List, [], ◌∷◌, ◌++◌, ◌≡◌, inl, inr, refl, sym, ap, ◌∙◌, subst, nat_eq}
use Rattle.std.specs.Prelude.{Option, Some, None, if◌then◌else◌, is_some}
use Rattle.std.proofs.lemmas.Bool.{eqb-true}
use Rattle.rt_model.specs.Lists.{at, put, without}
use Rattle.rt_model.specs.Tree.{Types, CapturedError}
use Rattle.rt_model.specs.World.{Source, Cell, Error, Context, Target, ScopeTarget, TaskTarget, Application}
use Rattle.rt_model.specs.State.{Posted, Mark, Woken, Scope, CellRow, ContextRow, TaskRow, State, is_live, changed_scope, change, error_context, values_of}
use Rattle.rt_model.specs.Commands.{post, post_target, names_source, readers, tell_contexts, tell, written_at, caught_at, thrown_to, throw_error, provided_at, provide_context}
use Rattle.rt_model.proofs.Maps.{by_test, pick_true, pick_false, eq_same, at_put_here, at_put_other}
use Rattle.law_behavior.specs.Marking.{IsPosted, Targets, ReadersPosted, WritesPostReaders, ProvidesPostReaders}
use Rattle.law_behavior.specs.Errors.{ThrowsFillOnce}

pub posted_first : (ps qs : List Posted) (p : Posted) → IsPosted ps p → IsPosted (ps ++ qs) p
posted_first [] qs p h = absurd h
posted_first (q ∷ ps) qs p (inl h) = inl h
posted_first (q ∷ ps) qs p (inr h) = inr (posted_first ps qs p h)

pub posted_last : (ps qs : List Posted) (p : Posted) → IsPosted qs p → IsPosted (ps ++ qs) p
posted_last [] qs p h = h
posted_last (q ∷ ps) qs p h = inr (posted_last ps qs p h)

pub posted_where : (b : Bool) (q p : Posted) (ps : List Posted) → IsPosted ps p → IsPosted (if b then q ∷ ps else ps) p
posted_where true q p ps h = inr h
posted_where false q p ps h = h

module _ {K : Types} where
  -- readers of a source are among its readers
  reader_posted : (i : Source) (es : List (ℕ × Scope K)) (s : ℕ) (x : Scope K) → at es s ≡ Some x → names_source x.reads i ≡ true → IsPosted (readers i es) (Mark s)
  reader_posted i [] s x e h = cc
  reader_posted i (d ∷ es) s x e h =
      by_test (nat_eq d.0 s)
      (
      λ q.
      let found : Some d.1 ≡ Some x = sym (pick_true (Some d.1) (at es s) q) ∙ e in
      let same : d.1 ≡ x = cc in
      let reads : names_source (d.1).reads i ≡ true = ap (λ (y : Scope K). names_source y.reads i) same ∙ h in
      subst (λ (ps : List Posted). IsPosted ps (Mark s)) (sym (pick_true (Mark d.0 ∷ readers i es) (readers i es) reads)) (inl (ap (λ (n : ℕ). Mark n) (eqb-true d.0 s q)))
      )
      (
      λ q.
      posted_where (names_source (d.1).reads i) (Mark d.0) (Mark s) (readers i es)
      (reader_posted i es s x (sym (pick_false (Some d.1) (at es s) q) ∙ e) h)
      )

  -- posting keeps what is posted, and changes neither who is there

  -- the states are alike but for what is posted
  abbrev Alike : State K → State K → Type 0
  Alike w v = v ≡ record w { posted = v.posted }

  pub record Posts (w v : State K) : Type 0 where
    pub alike : Alike w v
    pub keeps : (p : Posted) → IsPosted w.posted p → IsPosted v.posted p

  posts_refl : (w : State K) → Posts w w
  posts_refl w = record { alike = refl; keeps = λ p h. h }

  posts_then : (u v w : State K) → Posts u v → Posts v w → Posts u w
  posts_then u v w f g =
      record { alike = g.alike ∙ ap (λ (x : State K). record x { posted = w.posted }) f.alike; keeps = λ p h. g.keeps p (f.keeps p h) }

  posts_if : (w x y : State K) (b : Bool) → Posts w x → Posts w y → Posts w (if b then x else y)
  posts_if w x y true f g = f
  posts_if w x y false f g = g

  one_more : (w : State K) (p : Posted) → Posts w (record w { posted = w.posted ++ p ∷ [] })
  one_more w p = record { alike = refl; keeps = λ q h. posted_first w.posted (p ∷ []) q h }

  pub post_posts : (w : State K) (p : Posted) → Posts w (post w p)
  post_posts w (Mark s) = posts_if w (record w { posted = w.posted ++ Mark s ∷ [] }) w (is_live w s) (one_more w (Mark s)) (posts_refl w)
  post_posts w (Woken t) = posts_if w (record w { posted = w.posted ++ Woken t ∷ [] }) w (is_some (at w.tasks t)) (one_more w (Woken t)) (posts_refl w)

  pub target_posts : (w : State K) (t : Target) → Posts w (post_target w t)
  target_posts w (ScopeTarget s) = post_posts w (Mark s)
  target_posts w (TaskTarget t) = post_posts w (Woken t)

  abbrev told_one : Source → ContextRow K → State K → State K
  told_one i x w = if names_source x.sources i then post_target w x.target else w

  one_posts : (i : Source) (x : ContextRow K) (w : State K) → Posts w (told_one i x w)
  one_posts i x w = posts_if w (post_target w x.target) w (names_source x.sources i) (target_posts w x.target) (posts_refl w)

  pub contexts_post : (i : Source) (es : List (ℕ × ContextRow K)) (w : State K) → Posts w (tell_contexts i es w)
  contexts_post i [] w = posts_refl w
  contexts_post i (e ∷ es) w = posts_then w (told_one i e.1 w) (tell_contexts i es (told_one i e.1 w)) (one_posts i e.1 w) (contexts_post i es (told_one i e.1 w))

  pub tell_posts : (w : State K) (i : Source) → Posts w (tell w i)
  tell_posts w i =
      let v : State K = record w { posted = w.posted ++ readers i w.scopes } in
      posts_then w v (tell w i) (record { alike = refl; keeps = λ p h. posted_first w.posted (readers i w.scopes) p h }) (contexts_post i w.contexts v)

  -- what a context targets is posted where it is there
  live_posted : (w : State K) (p : Posted) → post w p ≡ record w { posted = w.posted ++ p ∷ [] } → IsPosted (post w p).posted p
  live_posted w p e = subst (λ (v : State K). IsPosted v.posted p) (sym e) (posted_last w.posted (p ∷ []) p (inl refl))

  target_posted : (w : State K) (target : Target) (p : Posted) → Targets w target p → IsPosted (post_target w target).posted p
  target_posted w (ScopeTarget s) p h =
      subst (λ (q : Posted). IsPosted (post w (Mark s)).posted q) (sym h.1) (live_posted w (Mark s) (pick_true (record w { posted = w.posted ++ Mark s ∷ [] }) w h.0))
  target_posted w (TaskTarget t) p h =
      subst (λ (q : Posted). IsPosted (post w (Woken t)).posted q) (sym h.1) (live_posted w (Woken t) (pick_true (record w { posted = w.posted ++ Woken t ∷ [] }) w h.0))

  targets_alike : (w v : State K) (target : Target) (p : Posted) → Alike w v → Targets w target p → Targets v target p
  targets_alike w v target p same h = subst (λ (x : State K). Targets x target p) (sym same) (by target h)
    where
      by : (t : Target) → Targets w t p → Targets (record w { posted = v.posted }) t p
      by (ScopeTarget s) g = g
      by (TaskTarget u) g = g

  context_posted : (i : Source) (es : List (ℕ × ContextRow K)) (w : State K) (n : ℕ) (x : ContextRow K) (p : Posted)
      → at es n ≡ Some x → names_source x.sources i ≡ true → Targets w x.target p → IsPosted (tell_contexts i es w).posted p
  context_posted i [] w n x p e reads target = cc
  context_posted i (d ∷ es) w n x p e reads target =
      by_test (nat_eq d.0 n)
      (
      λ q.
      let found : Some d.1 ≡ Some x = sym (pick_true (Some d.1) (at es n) q) ∙ e in
      let same : d.1 ≡ x = cc in
      (contexts_post i es (told_one i d.1 w)).keeps p
      (
      subst (λ (y : ContextRow K). IsPosted (told_one i y w).posted p) (sym same)
      (subst (λ (v : State K). IsPosted v.posted p) (sym (pick_true (post_target w x.target) w reads)) (target_posted w x.target p target))
      )
      )
      (
      λ q.
      context_posted i es (told_one i d.1 w) n x p (sym (pick_false (Some d.1) (at es n) q) ∙ e) reads
      (targets_alike w (told_one i d.1 w) x.target p (one_posts i d.1 w).alike target)
      )

  -- so where a source is told all its readers are posted
  pub tell_readers : (w : State K) (i : Source) → ReadersPosted w (tell w i) i
  tell_readers w i =
      let v : State K = record w { posted = w.posted ++ readers i w.scopes } in
      record {
        scopes = λ s x e h. (contexts_post i w.contexts v).keeps (Mark s) (posted_last w.posted (readers i w.scopes) (Mark s) (reader_posted i w.scopes s x e h));
        contexts = λ n x p e reads target. context_posted i w.contexts v n x p e reads (targets_alike w v x.target p refl target);
        before = λ p h. (tell_posts w i).keeps p h;
      }

  -- a change that leaves all readers, and then they are told
  pub record LeavesReaders (w u : State K) (i : Source) : Type 0 where
    pub scopes : (s : ℕ) (x : Scope K) → at w.scopes s ≡ Some x → names_source x.reads i ≡ true → (y : Scope K) × (at u.scopes s ≡ Some y) × (names_source y.reads i ≡ true)
    pub live : (s : ℕ) → is_live w s ≡ true → is_live u s ≡ true
    pub contexts : u.contexts ≡ w.contexts
    pub tasks : u.tasks ≡ w.tasks
    pub posted : u.posted ≡ w.posted

  told_after : (w u : State K) (i : Source) → LeavesReaders w u i → ReadersPosted w (tell u i) i
  told_after w u i l =
      let told : ReadersPosted u (tell u i) i = tell_readers u i in
      record {
        scopes = λ s x e h. let y = l.scopes s x e h in told.scopes s y.0 y.1 y.2;
        contexts = λ n x p e reads target. told.contexts n x p (ap (λ (es : List (ℕ × ContextRow K)). at es n) l.contexts ∙ e) reads (by x.target p target);
        before = λ p h. told.before p (subst (λ (ps : List Posted). IsPosted ps p) (sym l.posted) h);
      }
    where
      by : (t : Target) (p : Posted) → Targets w t p → Targets u t p
      by (ScopeTarget s) p g = (l.live s g.0, g.1)
      by (TaskTarget t) p g = (ap (λ (es : List (ℕ × TaskRow K)). is_some (at es t)) l.tasks ∙ g.0, g.1)

  cells_leave : (w : State K) (cells : List (ℕ × CellRow K)) (i : Source) → LeavesReaders w (record w { cells = cells }) i
  cells_leave w cells i = record { scopes = λ s x e h. (x, e, h); live = λ s h. h; contexts = refl; tasks = refl; posted = refl }

  -- a scope's record changes, but not what it read
  change_leaves : (w : State K) (s : ℕ) (f : Scope K → Scope K) (i : Source) → ((x : Scope K) → (f x).reads ≡ x.reads) → LeavesReaders w (change w s f) i
  change_leaves w s f i same = on (at w.scopes s) refl
    where
      on : (o : Option (Scope K)) → at w.scopes s ≡ o → LeavesReaders w (changed_scope w s f o) i
      on None e = record { scopes = λ t x live h. (x, live, h); live = λ t h. h; contexts = refl; tasks = refl; posted = refl }
      on (Some y) e =
          record {
            scopes =
                λ t x live h.
                by_test (nat_eq s t)
                (
                λ q.
                let there : at w.scopes s ≡ Some x = ap (λ (n : ℕ). at w.scopes n) (eqb-true s t q) ∙ live in
                let found : Some y ≡ Some x = sym e ∙ there in
                let is : y ≡ x = cc in
                (f y, at_put_here w.scopes s (f y) t q, ap (λ (xs : List Source). names_source xs i) (same y ∙ ap (λ (z : Scope K). z.reads) is) ∙ h)
                )
                (λ q. (x, at_put_other w.scopes s (f y) t q ∙ live, h));
            live =
                λ t h.
                by_test (nat_eq s t)
                (λ q. ap (λ (o : Option (Scope K)). is_some o) (at_put_here w.scopes s (f y) t q))
                (λ q. ap (λ (o : Option (Scope K)). is_some o) (at_put_other w.scopes s (f y) t q) ∙ h);
            contexts = refl;
            tasks = refl;
            posted = refl;
          }

pub writes_post_readers : (K : Types) → WritesPostReaders K
writes_post_readers K w n row e = (
  λ v.
      subst (λ (u : State K). ReadersPosted w u (Cell n)) (sym (ap (λ (o : Option (CellRow K)). written_at w n v o) e))
      (told_after w (record w { cells = put w.cells n (record row { value = v }) }) (Cell n) (cells_leave w (put w.cells n (record row { value = v })) (Cell n))),
  subst (λ (u : State K). ReadersPosted w u (Cell n))
      (sym (pick_true (tell (record w { cells = without w.cells n }) (Cell n)) w (ap (λ (o : Option (CellRow K)). is_some o) e)))
      (told_after w (record w { cells = without w.cells n }) (Cell n) (cells_leave w (without w.cells n) (Cell n))),
)

module _ {K : Types} (app : Application K) (w : State K) (s k : ℕ) (v : K.Value) where
  abbrev with_context : State K
  with_context = change w s (λ y. record y { contexts = put y.contexts k v })

  provides : (x : Scope K) → at w.scopes s ≡ Some x → (o : Option K.Value) → at x.contexts k ≡ o → provide_context app w s k v ≡ provided_at app w s k v o
  provides x e o h =
      ap (λ (z : Option (Scope K)). elim z as (λ a. State K) [ None ↦ w | Some y ↦ provided_at app w s k v (at y.contexts k) ]) e
      ∙ ap (λ (z : Option K.Value). provided_at app w s k v z) h

  context_told : ReadersPosted w (tell with_context (Context k s)) (Context k s)
  context_told = told_after w with_context (Context k s) (change_leaves w s (λ y. record y { contexts = put y.contexts k v }) (Context k s) (λ y. refl))

  context_quiet : (o : Option (Scope K)) → (changed_scope w s (λ y. record y { contexts = put y.contexts k v }) o).posted ≡ w.posted
  context_quiet None = refl
  context_quiet (Some y) = refl

  equal_quiet : (x : Scope K) → at w.scopes s ≡ Some x → (old : K.Value) → at x.contexts k ≡ Some old → app.same_value old v ≡ true → (provide_context app w s k v).posted ≡ w.posted
  equal_quiet x e old h same =
      ap (λ (u : State K). u.posted) (provides x e (Some old) h ∙ pick_true with_context (tell with_context (Context k s)) same) ∙ context_quiet (at w.scopes s)

  differs_told : (x : Scope K) → at w.scopes s ≡ Some x → (old : K.Value) → at x.contexts k ≡ Some old → ¬ (app.same_value old v ≡ true) → ReadersPosted w (provide_context app w s k v) (Context k s)
  differs_told x e old h other =
      by_test (app.same_value old v)
      (λ q. absurd (other q))
      (
      λ q.
      subst (λ (u : State K). ReadersPosted w u (Context k s)) (sym (provides x e (Some old) h ∙ pick_false with_context (tell with_context (Context k s)) q)) context_told
      )

  absent_told : (x : Scope K) → at w.scopes s ≡ Some x → at x.contexts k ≡ None → ReadersPosted w (provide_context app w s k v) (Context k s)
  absent_told x e h = subst (λ (u : State K). ReadersPosted w u (Context k s)) (sym (provides x e None h)) context_told

pub provides_post_readers : {K : Types} (app : Application K) → ProvidesPostReaders app
provides_post_readers {K = K} app w s k v x e = (
  λ old h same. equal_quiet app w s k v x e old h same,
  λ old h other. differs_told app w s k v x e old h other,
  λ h. absent_told app w s k v x e h,
)

pub throws_fill_once : (K : Types) → ThrowsFillOnce K
throws_fill_once K w s thrown =
    record {
      nowhere = λ h. ap (λ (o : Option ℕ). thrown_to w thrown o) h;
      kept = λ b x first up e h. caught b x up e ∙ ap (λ (o : Option CapturedError). caught_at w thrown b o) h;
      filled =
          λ b x up e h.
          let filled_state : State K = change w b (λ y. record y { error = Some thrown }) in
          let is : throw_error w s thrown ≡ tell filled_state (Error b) = caught b x up e ∙ ap (λ (o : Option CapturedError). caught_at w thrown b o) h in (
            ap (λ (u : State K). (values_of u).error b) is
                ∙ ap (λ (u : State K). (values_of u).error b) (tell_posts filled_state (Error b)).alike
                ∙ has_error b x e,
            subst (λ (u : State K). ReadersPosted w u (Error b)) (sym is)
                (told_after w filled_state (Error b) (change_leaves w b (λ y. record y { error = Some thrown }) (Error b) (λ y. refl))),
          );
    }
  where
    caught : (b : ℕ) (x : Scope K) → error_context w s ≡ Some b → at w.scopes b ≡ Some x → throw_error w s thrown ≡ caught_at w thrown b x.error
    caught b x up e =
        ap (λ (o : Option ℕ). thrown_to w thrown o) up
        ∙ ap (λ (z : Option (Scope K)). elim z as (λ a. State K) [ None ↦ w | Some y ↦ caught_at w thrown b y.error ]) e

    has_error : (b : ℕ) (x : Scope K) → at w.scopes b ≡ Some x → (values_of (change w b (λ y. record y { error = Some thrown }))).error b ≡ Some thrown
    has_error b x e =
        ap (λ (o : Option (Scope K)). (values_of (changed_scope w b (λ y. record y { error = Some thrown }) o)).error b) e
        ∙ ap (λ (o : Option (Scope K)). elim o as (λ z. Option CapturedError) [ None ↦ None | Some y ↦ y.error ]) (at_put_here w.scopes b (record x { error = Some thrown }) b (eq_same b))
