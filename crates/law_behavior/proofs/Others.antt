-- A write posts nobody but readers.
use Rattle.std.proofs.Common.{ℕ, Bool, true, false, List, [], ◌∷◌, ◌++◌, ◌≡◌, ◌⊎◌, inl, inr, refl, sym, ap, ◌∙◌, subst}
use Rattle.std.specs.Prelude.{Option, Some, None, if◌then◌else◌, is_some}
use Rattle.rt_model.specs.Lists.{at, put}
use Rattle.rt_model.specs.Tree.{Types}
use Rattle.rt_model.specs.World.{Source, Cell, Target, ScopeTarget, TaskTarget}
use Rattle.rt_model.specs.State.{Posted, Mark, Woken, Scope, CellRow, ContextRow, TaskRow, State, is_live}
use Rattle.rt_model.specs.Commands.{post_target, names_source, readers, tell_contexts, tell, written_at}
use Rattle.rt_model.proofs.Maps.{by_test, pick_true, pick_false}
use Rattle.law_behavior.specs.Marking.{IsPosted, Targets}
use Rattle.law_behavior.specs.Hidden.{StandsIn}
use Rattle.law_behavior.proofs.Readers.{target_posts}
use Rattle.law_behavior.specs.Only.{IsReadersMark, IsContextsPost, WritesPostOnlyReaders}

pub posted_split : (ps qs : List Posted) (p : Posted) → IsPosted (ps ++ qs) p → IsPosted ps p ⊎ IsPosted qs p
posted_split [] qs p h = inr h
posted_split (q ∷ ps) qs p (inl h) = inl (inl h)
posted_split (q ∷ ps) qs p (inr h) = elim (posted_split ps qs p h) [ inl a ↦ inl (inr a) | inr a ↦ inr a ]

module _ {K : Types} where
  -- a mark among the readers is of a scope that read the source
  abbrev pub ReaderAmong : List (ℕ × Scope K) → Source → Posted → Type 0
  ReaderAmong es i p = (s : ℕ) × (x : Scope K) × StandsIn es (s, x) × (names_source x.reads i ≡ true) × (p ≡ Mark s)

  later_reader : (e : ℕ × Scope K) (es : List (ℕ × Scope K)) (i : Source) (p : Posted) → ReaderAmong es i p → ReaderAmong (e ∷ es) i p
  later_reader e es i p (s, x, stands, reads, is) = (s, x, inr stands, reads, is)

  readers_read : (i : Source) (es : List (ℕ × Scope K)) (p : Posted) → IsPosted (readers i es) p → ReaderAmong es i p
  readers_read i [] p h = absurd h
  readers_read i (e ∷ es) p h =
      by_test (names_source (e.1).reads i)
      (λ q. first q (subst (λ (ps : List Posted). IsPosted ps p) (pick_true (Mark e.0 ∷ readers i es) (readers i es) q) h) (λ g. readers_read i es p g))
      (λ q. later_reader e es i p (readers_read i es p (subst (λ (ps : List Posted). IsPosted ps p) (pick_false (Mark e.0 ∷ readers i es) (readers i es) q) h)))
    where
      first : names_source (e.1).reads i ≡ true → IsPosted (Mark e.0 ∷ readers i es) p → (IsPosted (readers i es) p → ReaderAmong es i p) → ReaderAmong (e ∷ es) i p
      first q (inl same) go = (e.0, e.1, inl refl, q, sym same)
      first q (inr g) go = later_reader e es i p (go g)

  -- a post beside what was posted is of the target, which is there
  one_posted : (w : State K) (q p : Posted) → IsPosted (w.posted ++ q ∷ []) p → IsPosted w.posted p ⊎ (p ≡ q)
  one_posted w q p h = elim (posted_split w.posted (q ∷ []) p h) [ inl a ↦ inl a | inr a ↦ elim a [ inl e ↦ inr (sym e) | inr b ↦ absurd b ] ]

  target_only : (w : State K) (target : Target) (p : Posted) → IsPosted (post_target w target).posted p → IsPosted w.posted p ⊎ Targets w target p
  target_only w (ScopeTarget s) p h =
      by_test (is_live w s)
      (
      λ q.
      elim (one_posted w (Mark s) p (subst (λ (v : State K). IsPosted v.posted p) (pick_true (record w { posted = w.posted ++ Mark s ∷ [] }) w q) h)) [
        | inl a ↦ inl a
        | inr e ↦ inr (q, e)
      ]
      )
      (λ q. inl (subst (λ (v : State K). IsPosted v.posted p) (pick_false (record w { posted = w.posted ++ Mark s ∷ [] }) w q) h))
  target_only w (TaskTarget t) p h =
      by_test (is_some (at w.tasks t))
      (
      λ q.
      elim (one_posted w (Woken t) p (subst (λ (v : State K). IsPosted v.posted p) (pick_true (record w { posted = w.posted ++ Woken t ∷ [] }) w q) h)) [
        | inl a ↦ inl a
        | inr e ↦ inr (q, e)
      ]
      )
      (λ q. inl (subst (λ (v : State K). IsPosted v.posted p) (pick_false (record w { posted = w.posted ++ Woken t ∷ [] }) w q) h))

  -- the target is there as it was before other posts
  targets_back : (w v : State K) (target : Target) (p : Posted) → v.scopes ≡ w.scopes → v.tasks ≡ w.tasks → Targets v target p → Targets w target p
  targets_back w v (ScopeTarget s) p scopes tasks h = (ap (λ (es : List (ℕ × Scope K)). is_some (at es s)) (sym scopes) ∙ h.0, h.1)
  targets_back w v (TaskTarget t) p scopes tasks h = (ap (λ (es : List (ℕ × TaskRow K)). is_some (at es t)) (sym tasks) ∙ h.0, h.1)

  abbrev pub ContextAmong : State K → List (ℕ × ContextRow K) → Source → Posted → Type 0
  ContextAmong w es i p = (n : ℕ) × (x : ContextRow K) × StandsIn es (n, x) × (names_source x.sources i ≡ true) × Targets w x.target p

  contexts_only : (w : State K) (i : Source) (es : List (ℕ × ContextRow K)) (u : State K) (p : Posted) → u.scopes ≡ w.scopes → u.tasks ≡ w.tasks
      → IsPosted (tell_contexts i es u).posted p → IsPosted u.posted p ⊎ ContextAmong w es i p
  contexts_only w i [] u p scopes tasks h = inl h
  contexts_only w i (e ∷ es) u p scopes tasks h =
      let v : State K = if names_source (e.1).sources i then post_target u (e.1).target else u in
      let kept = told (names_source (e.1).sources i) (e.1).target in
      elim (contexts_only w i es v p (kept.0 ∙ scopes) (kept.1 ∙ tasks) h) [
        | inl a ↦ before (names_source (e.1).sources i) refl a
        | inr (n, x, stands, reads, targets) ↦ inr (n, x, inr stands, reads, targets)
      ]
    where
      told : (b : Bool) (target : Target) → ((if b then post_target u target else u).scopes ≡ u.scopes) × ((if b then post_target u target else u).tasks ≡ u.tasks)
      told false target = (refl, refl)
      told true target =
          let same = (target_posts u target).alike in
          (ap (λ (x : State K). x.scopes) same, ap (λ (x : State K). x.tasks) same)

      before : (b : Bool) → names_source (e.1).sources i ≡ b → IsPosted (if b then post_target u (e.1).target else u).posted p → IsPosted u.posted p ⊎ ContextAmong w (e ∷ es) i p
      before false q g = inl g
      before true q g =
          elim (target_only u (e.1).target p g) [
            | inl a ↦ inl a
            | inr t ↦ inr (e.0, e.1, inl refl, q, targets_back w u (e.1).target p scopes tasks t)
          ]

  -- what is posted where a source is told was posted before, or it is of a reader
  pub told_only : (w : State K) (i : Source) (p : Posted) → IsPosted (tell w i).posted p → IsPosted w.posted p ⊎ (ReaderAmong w.scopes i p ⊎ ContextAmong w w.contexts i p)
  told_only w i p h =
      let u : State K = record w { posted = w.posted ++ readers i w.scopes } in
      elim (contexts_only w i w.contexts u p refl refl h) [
        | inl a ↦ elim (posted_split w.posted (readers i w.scopes) p a) [ inl b ↦ inl b | inr b ↦ inr (inl (readers_read i w.scopes p b)) ]
        | inr c ↦ inr (inr c)
      ]

pub writes_post_only_readers : (K : Types) → WritesPostOnlyReaders K
writes_post_only_readers K w n v p h = on (at w.cells n) h
  where
    on : (o : Option (CellRow K)) → IsPosted (written_at w n v o).posted p → IsPosted w.posted p ⊎ (IsReadersMark w (Cell n) p ⊎ IsContextsPost w (Cell n) p)
    on None g = inl g
    on (Some old) g =
        let u : State K = record w { cells = put w.cells n (record old { value = v }); posted = w.posted ++ readers (Cell n) w.scopes } in
        elim (contexts_only w (Cell n) w.contexts u p refl refl g) [
          | inl a ↦ elim (posted_split w.posted (readers (Cell n) w.scopes) p a) [
            | inl b ↦ inl b
            | inr b ↦
                let (s, x, stands, reads, is) = readers_read (Cell n) w.scopes p b in
                inr (inl (record { scope = s; row = x; stands = stands; reads = reads; is = is }))
          ]
          | inr (c, x, stands, reads, targets) ↦ inr (inr (record { context = c; row = x; stands = stands; reads = reads; targets = targets }))
        ]
