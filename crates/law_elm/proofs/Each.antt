-- A fact of each scope that is there, and changes of the scopes that keep it.
use Rattle.std.proofs.Common.{ℕ, Bool, true, not, ◌||◌, List, [], ◌∷◌, ◌++◌, ◌≡◌, ◌⊎◌, inl, inr, refl, sym, ap, ◌∙◌, subst, nat_eq}
use Rattle.std.proofs.lemmas.Bool.{eqb-true}
use Rattle.std.specs.Prelude.{Option, Some, None}
use Rattle.rt_model.specs.Lists.{at, put, without, kept_by}
use Rattle.rt_model.specs.Tree.{Types}
use Rattle.rt_model.specs.State.{Scope, State, changed_scope, change, is_shown}
use Rattle.rt_model.specs.Commands.{released}
use Rattle.rt_model.specs.Replay.{mounted}
use Rattle.rt_model.proofs.Maps.{by_test, none_some, at_here, at_there, at_put_here, at_put_other, at_without_here, at_without_other}

module _ {K : Types} where
  pub one_scope : (x y : Scope K) → Some x ≡ Some y → x ≡ y
  one_scope x y h = cc

  -- what one more scope brings
  pub joined : (es : List (ℕ × Scope K)) (m : ℕ) (y : Scope K) (n : ℕ) (x : Scope K) → at (es ++ (m, y) ∷ []) n ≡ Some x → (at es n ≡ Some x) ⊎ ((nat_eq m n ≡ true) × (y ≡ x))
  joined [] m y n x h =
      by_test (nat_eq m n)
      (λ q. inr (q, one_scope y x (sym (at_here m y [] n q) ∙ h)))
      (λ q. let absurdity : None ≡ Some x = sym (at_there m y [] n q) ∙ h in cc)
  joined (e ∷ es) m y n x h =
      by_test (nat_eq e.0 n)
      (λ q. inl (at_here e.0 e.1 es n q ∙ sym (at_here e.0 e.1 (es ++ (m, y) ∷ []) n q) ∙ h))
      (
      λ q.
      elim (joined es m y n x (sym (at_there e.0 e.1 (es ++ (m, y) ∷ []) n q) ∙ h)) [
        | inl g ↦ inl (at_there e.0 e.1 es n q ∙ g)
        | inr g ↦ inr g
      ]
      )

  released_row : (es : List (ℕ × Scope K)) (t n : ℕ) (x : Scope K) → at (released es t) n ≡ Some x
      → (y : Scope K) × (at es n ≡ Some y) × (record y { holders = kept_by (λ d. not (nat_eq d.0 t)) y.holders } ≡ x)
  released_row [] t n x h = cc
  released_row (e ∷ es) t n x h =
      let row : Scope K = record (e.1) { holders = kept_by (λ d. not (nat_eq d.0 t)) (e.1).holders } in
      by_test (nat_eq e.0 n)
      (λ q. (e.1, at_here e.0 e.1 es n q, one_scope row x (sym (at_here e.0 row (released es t) n q) ∙ h)))
      (
      λ q.
      let later = released_row es t n x (sym (at_there e.0 row (released es t) n q) ∙ h) in
      (later.0, at_there e.0 e.1 es n q ∙ later.1, later.2)
      )

  mounted_row : (w : State K) (es : List (ℕ × Scope K)) (n : ℕ) (x : Scope K) → at (mounted w es) n ≡ Some x
      → (y : Scope K) × (b : Bool) × (at es n ≡ Some y) × (record y { mounted = b } ≡ x)
  mounted_row w [] n x h = cc
  mounted_row w (e ∷ es) n x h =
      let now : Bool = (e.1).mounted || is_shown w e.0 in
      let row : Scope K = record (e.1) { mounted = now } in
      by_test (nat_eq e.0 n)
      (λ q. (e.1, now, at_here e.0 e.1 es n q, one_scope row x (sym (at_here e.0 row (mounted w es) n q) ∙ h)))
      (
      λ q.
      let later = mounted_row w es n x (sym (at_there e.0 row (mounted w es) n q) ∙ h) in
      (later.0, later.1, at_there e.0 e.1 es n q ∙ later.2, later.3)
      )

module _ {K : Types} (R : ℕ → Scope K → Type 0) where
  -- of each scope that is there
  abbrev pub Each : State K → Type 0
  Each w = (n : ℕ) (x : Scope K) → at w.scopes n ≡ Some x → R n x

  pub each_same : (w v : State K) → v.scopes ≡ w.scopes → Each w → Each v
  each_same w v same h = λ n x there. h n x (ap (λ (es : List (ℕ × Scope K)). at es n) (sym same) ∙ there)

  pub each_put : (w : State K) (s : ℕ) (y : Scope K) → R s y → Each w → Each (record w { scopes = put w.scopes s y })
  each_put w s y fine h =
      λ n x there.
      by_test (nat_eq s n)
      (
      λ q.
      let one : y ≡ x = one_scope y x (sym (at_put_here w.scopes s y n q) ∙ there) in
      subst (λ (z : Scope K). R n z) one (subst (λ (m : ℕ). R m y) (eqb-true s n q) fine)
      )
      (λ q. h n x (sym (at_put_other w.scopes s y n q) ∙ there))

  pub each_change : (w : State K) (s : ℕ) (f : Scope K → Scope K) → ((x : Scope K) → R s x → R s (f x)) → Each w → Each (change w s f)
  each_change w s f keeps h = on (at w.scopes s) refl
    where
      on : (o : Option (Scope K)) → at w.scopes s ≡ o → Each (changed_scope w s f o)
      on None e = h
      on (Some x) e = each_put w s (f x) (keeps x (h s x e)) h

  pub each_without : (w v : State K) (s : ℕ) → v.scopes ≡ without w.scopes s → Each w → Each v
  each_without w v s same h =
      λ n x there.
      let here : at (without w.scopes s) n ≡ Some x = ap (λ (es : List (ℕ × Scope K)). at es n) (sym same) ∙ there in
      by_test (nat_eq s n)
      (λ q. none_some (at_without_here w.scopes s n q) here)
      (λ q. h n x (sym (at_without_other w.scopes s n q) ∙ here))

  pub each_released : (w v : State K) (t : ℕ) → v.scopes ≡ released w.scopes t → ((n : ℕ) (x : Scope K) → R n x → R n (record x { holders = kept_by (λ d. not (nat_eq d.0 t)) x.holders })) → Each w → Each v
  each_released w v t same keeps h =
      λ n x there.
      let found = released_row w.scopes t n x (ap (λ (es : List (ℕ × Scope K)). at es n) (sym same) ∙ there) in
      subst (λ (z : Scope K). R n z) found.2 (keeps n found.0 (h n found.0 found.1))

  pub each_mounted : (w v : State K) → v.scopes ≡ mounted w w.scopes → ((n : ℕ) (x : Scope K) (b : Bool) → R n x → R n (record x { mounted = b })) → Each w → Each v
  each_mounted w v same keeps h =
      λ n x there.
      let found = mounted_row w w.scopes n x (ap (λ (es : List (ℕ × Scope K)). at es n) (sym same) ∙ there) in
      subst (λ (z : Scope K). R n z) found.3 (keeps n found.0 found.1 (h n found.0 found.2))
