-- The seen scope that is rerun next isn't higher than any other that is seen, and without a look no scope becomes seen.
use Rattle.std.proofs.Common.{ℕ, ◌≤◌, Bool, true, false, not, List, [], ◌∷◌, ◌≡◌, refl, ap, ◌∙◌, subst, arith, nat_eq}
use Rattle.std.specs.Prelude.{Option, Some, None, is_some, if◌then◌else◌}
use Rattle.std.proofs.lemmas.Bool.{eqb-true}
use Rattle.rt_model.specs.Lists.{has, drop_number}
use Rattle.rt_model.specs.Tree.{Types}
use Rattle.rt_model.specs.State.{Scope, State, height_of}
use Rattle.rt_model.specs.Next.{Work, RerunScope, RunEffects, least_from, least, is_before, scope_of_task, first_task, first_seen, chosen, found, paused, drop_then, drops, looked, at_rest, with_effects, or_effects, next}
use Rattle.rt_model.specs.Sentences.{render_ends}
use Rattle.rt_model.proofs.Maps.{eq_same}
use Rattle.rt_model.proofs.Members.{or_left, or_right, by_either}
use Rattle.law_moves.proofs.Lists.{some_number}
use Rattle.law_moves.proofs.Due.{either_rerun as picked}

rerun_of : (o : Option ℕ) (s : ℕ) → elim o as (λ z. Option Work) [ None ↦ None | Some r ↦ Some (RunEffects r) ] ≡ Some (RerunScope s) → ⊥
rerun_of None s h = cc
rerun_of (Some r) s h = cc

module _ {K : Types} where
  level : (scopes : List (ℕ × Scope K)) (s t : ℕ) → is_before scopes s t ≡ true → height_of scopes s ≤ height_of scopes t
  level scopes s t h = grind (arith, h)

  not_level : (scopes : List (ℕ × Scope K)) (s t : ℕ) → is_before scopes s t ≡ false → height_of scopes t ≤ height_of scopes s
  not_level scopes s t h = grind (arith, h)

  record Least (scopes : List (ℕ × Scope K)) (xs : List ℕ) (r : ℕ) : Type 0 where
    there : has xs r ≡ true
    low : (x : ℕ) → has xs x ≡ true → height_of scopes r ≤ height_of scopes x

  least_low : (scopes : List (ℕ × Scope K)) (x : ℕ) (xs : List ℕ) → Least scopes (x ∷ xs) (least_from (λ s t. is_before scopes s t) x xs)
  least_low scopes x [] =
      record {
        there = or_left (nat_eq x x) false (eq_same x);
        low = λ y h. by_either (nat_eq x y) false h (λ e. let same : height_of scopes x ≡ height_of scopes y = ap (λ (n : ℕ). height_of scopes n) (eqb-true x y e) in omega (arith, same)) (λ e. let absurdity : false ≡ true = e in cc);
      }
  least_low scopes x (t ∷ xs) = one (is_before scopes t x) (least_low scopes t xs) (least_low scopes x xs) refl
    where
      one : (b : Bool) → Least scopes (t ∷ xs) (least_from (λ s u. is_before scopes s u) t xs) → Least scopes (x ∷ xs) (least_from (λ s u. is_before scopes s u) x xs) → is_before scopes t x ≡ b → Least scopes (x ∷ t ∷ xs) (least_from (λ s u. is_before scopes s u) (if b then t else x) xs)
      one true rest_t rest_x e =
          let r : ℕ = least_from (λ s u. is_before scopes s u) t xs in
          let rest : Least scopes (t ∷ xs) r = rest_t in
          let near = level scopes t x e in
          let first = rest.low t (or_left (nat_eq t t) (has xs t) (eq_same t)) in
          record {
            there = or_right (nat_eq x r) (has (t ∷ xs) r) rest.there;
            low = λ y h. by_either (nat_eq x y) (has (t ∷ xs) y) h (λ q. let same : height_of scopes x ≡ height_of scopes y = ap (λ (n : ℕ). height_of scopes n) (eqb-true x y q) in omega (arith, same, near, first)) (λ q. rest.low y q);
          }
      one false rest_t rest_x e =
          let r : ℕ = least_from (λ s u. is_before scopes s u) x xs in
          let rest : Least scopes (x ∷ xs) r = rest_x in
          let near = not_level scopes t x e in
          let first = rest.low x (or_left (nat_eq x x) (has xs x) (eq_same x)) in
          record {
            there = by_either (nat_eq x r) (has xs r) rest.there (λ q. or_left (nat_eq x r) (has (t ∷ xs) r) q) (λ q. or_right (nat_eq x r) (has (t ∷ xs) r) (or_right (nat_eq t r) (has xs r) q));
            low =
                λ y h.
                by_either (nat_eq x y) (has (t ∷ xs) y) h (λ q. rest.low y (or_left (nat_eq x y) (has xs y) q))
                (
                λ g.
                by_either (nat_eq t y) (has xs y) g
                (λ q. let same : height_of scopes t ≡ height_of scopes y = ap (λ (n : ℕ). height_of scopes n) (eqb-true t y q) in omega (arith, same, near, first))
                (λ q. rest.low y (or_right (nat_eq x y) (has xs y) q))
                );
          }

  least_of : (scopes : List (ℕ × Scope K)) (xs : List ℕ) (s : ℕ) → least (λ a b. is_before scopes a b) xs ≡ Some s → Least scopes xs s
  least_of scopes [] s h = cc
  least_of scopes (x ∷ xs) s h =
      subst (λ (r : ℕ). Least scopes (x ∷ xs) r) (some_number (least_from (λ a b. is_before scopes a b) x xs) s h) (least_low scopes x xs)

  pub came_up : (w : State K) (o : Option Work) (s : ℕ) → or_effects w o ≡ Some (RerunScope s) → o ≡ Some (RerunScope s)
  came_up w (Some x) s h = h
  came_up w None s h = absurd (rerun_of (least (λ a b. is_before w.scopes a b) (with_effects w.scopes)) s h)

  was_seen : (w : State K) (t s : Option ℕ) (r : ℕ) → chosen w t s ≡ Some (RerunScope r) → s ≡ Some r
  was_seen w None None r h = cc
  was_seen w (Some t) None r h = cc
  was_seen w None (Some s) r h = cc
  was_seen w (Some t) (Some s) r h = ap (λ (k : ℕ). Some k) (picked (is_before w.scopes s (scope_of_task w t)) s t r h)

  -- the scope that is rerun is seen, and no seen scope is less high
  pub next_seen : (w : State K) (s : ℕ) → next w ≡ Some (RerunScope s) → (has (at_rest w).seen s ≡ true) × ((x : ℕ) → has (at_rest w).seen x ≡ true → height_of (at_rest w).scopes s ≤ height_of (at_rest w).scopes x)
  next_seen w s h =
      let r : State K = at_rest w in
      let found_it : Least r.scopes r.seen s = least_of r.scopes r.seen s (was_seen r (first_task r) (first_seen r) s (came_up r (found r) s h)) in
      (found_it.there, found_it.low)

  dropped_seen : (go : State K → State K) (w : State K) (o : Option ℕ) → ((v : State K) → (go v).seen ≡ v.seen) → (drop_then go w o).seen ≡ w.seen
  dropped_seen go w None h = refl
  dropped_seen go w (Some t) h = h (record w { queued = drop_number w.queued t })

  pub drops_seen : (qs : List ℕ) (w : State K) → (drops qs w).seen ≡ w.seen
  drops_seen [] w = refl
  drops_seen (q ∷ qs) w = dropped_seen (λ v. drops qs v) w (paused w (found w)) (λ v. drops_seen qs v)

  unlooked_at : (w : State K) (o : Option Work) → not (is_some o) ≡ false → (looked w o).seen ≡ w.seen
  unlooked_at w None h = cc
  unlooked_at w (Some x) h = refl

  -- while a render goes on no look comes before a unit
  pub unlooked : (w : State K) → render_ends w ≡ false → (at_rest w).seen ≡ w.seen
  unlooked w h = let v : State K = drops w.queued w in unlooked_at v (found v) h ∙ drops_seen w.queued w
