-- What other changes leave of the values of sources, and of rows by number.
use Rattle.std.proofs.Common.{ℕ, ◌+◌, ◌≤◌, Bool, true, false, ◌||◌, not, List, [], ◌∷◌, ◌++◌, ◌≡◌, refl, sym, ap, ◌∙◌, subst, nat_eq, arith}
use Rattle.std.specs.Prelude.{Option, Some, None, is_some, if◌then◌else◌}
use Rattle.std.proofs.lemmas.Bool.{eqb-true}
pub use Rattle.rt_lemmas.proofs.Numbers.{eq_past as apart}
pub use Rattle.law_lasting.proofs.Celled.{at_longer}
use Rattle.rt_model.specs.Lists.{at, put, without, join, kept_by}
use Rattle.rt_model.specs.Tree.{Types}
use Rattle.rt_model.specs.State.{Posted, Mark, Woken, SideName, MainSide, ChildrenSide, FallbackSide, Side, Scope, TaskRow, State, is_live, with_side, is_shown}
use Rattle.rt_model.specs.Commands.{released}
use Rattle.rt_model.specs.Next.{Work, RerunScope, PollTask, RunEffects, is_active, look_on, found, paused}
use Rattle.rt_model.specs.Replay.{mounted}
use Rattle.rt_model.proofs.Maps.{by_test, pick_true, pick_false, at_here, at_there, at_put_here, at_put_other, at_without_other}
use Rattle.law_minding.proofs.Polled.{error_value, context_value}

-- what is there stays there in longer lists, and where something else is put
pub put_live : {A : Type 0} (es : List (ℕ × A)) (s : ℕ) (y : A) (r : ℕ) → is_some (at es r) ≡ true → is_some (at (put es s y) r) ≡ true
put_live {A = A} es s y r h =
    by_test (nat_eq s r)
    (λ q. ap (λ (o : Option A). is_some o) (at_put_here es s y r q))
    (λ q. ap (λ (o : Option A). is_some o) (at_put_other es s y r q) ∙ h)

pub longer_live : {A : Type 0} (es : List (ℕ × A)) (m : ℕ) (x : A) (r : ℕ) → is_some (at es r) ≡ true → is_some (at (es ++ (m, x) ∷ []) r) ≡ true
longer_live {A = A} es m x r h = by (at es r) refl h
  where
    by : (o : Option A) → at es r ≡ o → is_some o ≡ true → is_some (at (es ++ (m, x) ∷ []) r) ≡ true
    by None e g = cc
    by (Some y) e g = ap (λ (o : Option A). is_some o) (at_longer es r m x y e)

pub without_live : {A : Type 0} (es : List (ℕ × A)) (s r : ℕ) → nat_eq s r ≡ false → is_some (at es r) ≡ true → is_some (at (without es s) r) ≡ true
without_live {A = A} es s r other h = ap (λ (o : Option A). is_some o) (at_without_other es s r other) ∙ h

pub equal_le : (a b : ℕ) → b ≡ a → a ≤ b
equal_le a b e = omega (arith, e)

module _ {K : Types} where
  -- whether a row is that of an active task
  abbrev pub active_in : Option (TaskRow K) → Bool
  active_in o = elim o as (λ z. Bool) [ None ↦ false | Some x ↦ x.active ]

  -- other sides keep the error and what is provided
  pub side_error : (x : Scope K) (side : SideName) (a : Side K) → (with_side x side a).error ≡ x.error
  side_error x MainSide a = refl
  side_error x ChildrenSide a = refl
  side_error x FallbackSide a = refl

  pub side_contexts : (x : Scope K) (side : SideName) (a : Side K) → (with_side x side a).contexts ≡ x.contexts
  side_contexts x MainSide a = refl
  side_contexts x ChildrenSide a = refl
  side_contexts x FallbackSide a = refl

  -- a scope that was found has its value after a change of another one, or of what isn't looked at
  pub put_error : (es : List (ℕ × Scope K)) (s : ℕ) (x y : Scope K) → at es s ≡ Some x → y.error ≡ x.error → (r : ℕ)
      → error_value (at es r) ≡ error_value (at (put es s y) r)
  put_error es s x y e same r =
      by_test (nat_eq s r)
      (
      λ q.
      ap (λ (o : Option (Scope K)). error_value o) (ap (λ (m : ℕ). at es m) (sym (eqb-true s r q)) ∙ e)
      ∙ sym same
      ∙ sym (ap (λ (o : Option (Scope K)). error_value o) (at_put_here es s y r q))
      )
      (λ q. sym (ap (λ (o : Option (Scope K)). error_value o) (at_put_other es s y r q)))

  pub put_context : (es : List (ℕ × Scope K)) (s k : ℕ) (x y : Scope K) → at es s ≡ Some x → at y.contexts k ≡ at x.contexts k → (r : ℕ)
      → context_value k (at es r) ≡ context_value k (at (put es s y) r)
  put_context es s k x y e same r =
      by_test (nat_eq s r)
      (
      λ q.
      ap (λ (o : Option (Scope K)). context_value k o) (ap (λ (m : ℕ). at es m) (sym (eqb-true s r q)) ∙ e)
      ∙ sym same
      ∙ sym (ap (λ (o : Option (Scope K)). context_value k o) (at_put_here es s y r q))
      )
      (λ q. sym (ap (λ (o : Option (Scope K)). context_value k o) (at_put_other es s y r q)))

  -- a new scope has neither an error nor provides anything
  pub new_error : (es : List (ℕ × Scope K)) (m : ℕ) (y : Scope K) → y.error ≡ None → (r : ℕ)
      → error_value (at es r) ≡ error_value (at (es ++ (m, y) ∷ []) r)
  new_error [] m y none r =
      by_test (nat_eq m r)
      (λ q. sym none ∙ sym (ap (λ (o : Option (Scope K)). error_value o) (at_here m y [] r q)))
      (λ q. sym (ap (λ (o : Option (Scope K)). error_value o) (at_there m y [] r q)))
  new_error (e ∷ es) m y none r =
      by_test (nat_eq e.0 r)
      (λ q. ap (λ (o : Option (Scope K)). error_value o) (at_here e.0 e.1 es r q ∙ sym (at_here e.0 e.1 (es ++ (m, y) ∷ []) r q)))
      (
      λ q.
      ap (λ (o : Option (Scope K)). error_value o) (at_there e.0 e.1 es r q)
      ∙ new_error es m y none r
      ∙ sym (ap (λ (o : Option (Scope K)). error_value o) (at_there e.0 e.1 (es ++ (m, y) ∷ []) r q))
      )

  pub new_context : (es : List (ℕ × Scope K)) (m k : ℕ) (y : Scope K) → y.contexts ≡ [] → (r : ℕ)
      → context_value k (at es r) ≡ context_value k (at (es ++ (m, y) ∷ []) r)
  new_context [] m k y none r =
      by_test (nat_eq m r)
      (
      λ q.
      sym (ap (λ (cs : List (ℕ × K.Value)). at cs k) none)
      ∙ sym (ap (λ (o : Option (Scope K)). context_value k o) (at_here m y [] r q))
      )
      (λ q. sym (ap (λ (o : Option (Scope K)). context_value k o) (at_there m y [] r q)))
  new_context (e ∷ es) m k y none r =
      by_test (nat_eq e.0 r)
      (λ q. ap (λ (o : Option (Scope K)). context_value k o) (at_here e.0 e.1 es r q ∙ sym (at_here e.0 e.1 (es ++ (m, y) ∷ []) r q)))
      (
      λ q.
      ap (λ (o : Option (Scope K)). context_value k o) (at_there e.0 e.1 es r q)
      ∙ new_context es m k y none r
      ∙ sym (ap (λ (o : Option (Scope K)). context_value k o) (at_there e.0 e.1 (es ++ (m, y) ∷ []) r q))
      )

  -- mounting and releasing leave both
  pub mounted_error : (w : State K) (es : List (ℕ × Scope K)) (r : ℕ) → error_value (at es r) ≡ error_value (at (mounted w es) r)
  mounted_error w [] r = refl
  mounted_error w (e ∷ es) r =
      let y : Scope K = record (e.1) { mounted = (e.1).mounted || is_shown w e.0 } in
      by_test (nat_eq e.0 r)
      (λ q. ap (λ (o : Option (Scope K)). error_value o) (at_here e.0 e.1 es r q) ∙ sym (ap (λ (o : Option (Scope K)). error_value o) (at_here e.0 y (mounted w es) r q)))
      (
      λ q.
      ap (λ (o : Option (Scope K)). error_value o) (at_there e.0 e.1 es r q)
      ∙ mounted_error w es r
      ∙ sym (ap (λ (o : Option (Scope K)). error_value o) (at_there e.0 y (mounted w es) r q))
      )

  pub mounted_context : (w : State K) (k : ℕ) (es : List (ℕ × Scope K)) (r : ℕ) → context_value k (at es r) ≡ context_value k (at (mounted w es) r)
  mounted_context w k [] r = refl
  mounted_context w k (e ∷ es) r =
      let y : Scope K = record (e.1) { mounted = (e.1).mounted || is_shown w e.0 } in
      by_test (nat_eq e.0 r)
      (λ q. ap (λ (o : Option (Scope K)). context_value k o) (at_here e.0 e.1 es r q) ∙ sym (ap (λ (o : Option (Scope K)). context_value k o) (at_here e.0 y (mounted w es) r q)))
      (
      λ q.
      ap (λ (o : Option (Scope K)). context_value k o) (at_there e.0 e.1 es r q)
      ∙ mounted_context w k es r
      ∙ sym (ap (λ (o : Option (Scope K)). context_value k o) (at_there e.0 y (mounted w es) r q))
      )

  abbrev freed : Scope K → ℕ → Scope K
  freed x t = record x { holders = kept_by (λ h. not (nat_eq h.0 t)) x.holders }

  pub released_error : (t : ℕ) (es : List (ℕ × Scope K)) (r : ℕ) → error_value (at es r) ≡ error_value (at (released es t) r)
  released_error t [] r = refl
  released_error t (e ∷ es) r =
      by_test (nat_eq e.0 r)
      (λ q. ap (λ (o : Option (Scope K)). error_value o) (at_here e.0 e.1 es r q) ∙ sym (ap (λ (o : Option (Scope K)). error_value o) (at_here e.0 (freed e.1 t) (released es t) r q)))
      (
      λ q.
      ap (λ (o : Option (Scope K)). error_value o) (at_there e.0 e.1 es r q)
      ∙ released_error t es r
      ∙ sym (ap (λ (o : Option (Scope K)). error_value o) (at_there e.0 (freed e.1 t) (released es t) r q))
      )

  pub released_context : (t k : ℕ) (es : List (ℕ × Scope K)) (r : ℕ) → context_value k (at es r) ≡ context_value k (at (released es t) r)
  released_context t k [] r = refl
  released_context t k (e ∷ es) r =
      by_test (nat_eq e.0 r)
      (λ q. ap (λ (o : Option (Scope K)). context_value k o) (at_here e.0 e.1 es r q) ∙ sym (ap (λ (o : Option (Scope K)). context_value k o) (at_here e.0 (freed e.1 t) (released es t) r q)))
      (
      λ q.
      ap (λ (o : Option (Scope K)). context_value k o) (at_there e.0 e.1 es r q)
      ∙ released_context t k es r
      ∙ sym (ap (λ (o : Option (Scope K)). context_value k o) (at_there e.0 (freed e.1 t) (released es t) r q))
      )

  pub released_live : (t : ℕ) (es : List (ℕ × Scope K)) (r : ℕ) → is_some (at es r) ≡ true → is_some (at (released es t) r) ≡ true
  released_live t [] r h = h
  released_live t (e ∷ es) r h =
      by_test (nat_eq e.0 r)
      (λ q. ap (λ (o : Option (Scope K)). is_some o) (at_here e.0 (freed e.1 t) (released es t) r q))
      (
      λ q.
      ap (λ (o : Option (Scope K)). is_some o) (at_there e.0 (freed e.1 t) (released es t) r q)
      ∙ released_live t es r (sym (ap (λ (o : Option (Scope K)). is_some o) (at_there e.0 e.1 es r q)) ∙ h)
      )

  pub mounted_live : (w : State K) (es : List (ℕ × Scope K)) (r : ℕ) → is_some (at es r) ≡ true → is_some (at (mounted w es) r) ≡ true
  mounted_live w [] r h = h
  mounted_live w (e ∷ es) r h =
      let y : Scope K = record (e.1) { mounted = (e.1).mounted || is_shown w e.0 } in
      by_test (nat_eq e.0 r)
      (λ q. ap (λ (o : Option (Scope K)). is_some o) (at_here e.0 y (mounted w es) r q))
      (
      λ q.
      ap (λ (o : Option (Scope K)). is_some o) (at_there e.0 y (mounted w es) r q)
      ∙ mounted_live w es r (sym (ap (λ (o : Option (Scope K)). is_some o) (at_there e.0 e.1 es r q)) ∙ h)
      )

  -- a look changes nothing but what is posted, seen and queued
  abbrev LooksAlone : List Posted → State K → Type 0
  LooksAlone ps w = look_on ps w ≡ record w { seen = (look_on ps w).seen; queued = (look_on ps w).queued }

  mark_alike : (ps : List Posted) (w : State K) (s : ℕ) → ((v : State K) → LooksAlone ps v) → (b : Bool)
      → look_on ps (if b then record w { seen = join w.seen s } else w)
      ≡ record w { seen = (look_on ps (if b then record w { seen = join w.seen s } else w)).seen; queued = (look_on ps (if b then record w { seen = join w.seen s } else w)).queued }
  mark_alike ps w s go true = go (record w { seen = join w.seen s })
  mark_alike ps w s go false = go w

  wake_alike : (ps : List Posted) (w : State K) (t : ℕ) → ((v : State K) → LooksAlone ps v) → (b : Bool)
      → look_on ps (if b then record w { queued = join w.queued t } else w)
      ≡ record w { seen = (look_on ps (if b then record w { queued = join w.queued t } else w)).seen; queued = (look_on ps (if b then record w { queued = join w.queued t } else w)).queued }
  wake_alike ps w t go true = go (record w { queued = join w.queued t })
  wake_alike ps w t go false = go w

  pub look_alike : (ps : List Posted) (w : State K) → LooksAlone ps w
  look_alike [] w = refl
  look_alike (Mark s ∷ ps) w = mark_alike ps w s (λ v. look_alike ps v) (is_live w s)
  look_alike (Woken t ∷ ps) w = wake_alike ps w t (λ v. look_alike ps v) (is_some (at w.tasks t))

  -- a task that comes up and is dropped is paused
  pub paused_is : (w : State K) (o : Option Work) (t : ℕ) → paused w o ≡ Some t → is_active w t ≡ false
  paused_is w None t h = cc
  paused_is w (Some (RerunScope s)) t h = cc
  paused_is w (Some (RunEffects s)) t h = cc
  paused_is w (Some (PollTask u)) t h =
      by_test (is_active w u)
      (λ q. let absurdity : None ≡ Some t = sym (pick_true None (Some u) q) ∙ h in cc)
      (
      λ q.
      let found : Some u ≡ Some t = sym (pick_false None (Some u) q) ∙ h in
      let same : u ≡ t = cc in
      subst (λ (n : ℕ). is_active w n ≡ false) same q
      )
