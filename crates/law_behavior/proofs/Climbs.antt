-- A climb finds the nearest scope of which a test holds.
use Rattle.std.proofs.Common.{ℕ, zero, suc, ◌+◌, ◌≤◌, Bool, true, false, List, [], ◌∷◌, ◌≡◌, refl, sym, ap, ◌∙◌, subst, arith}
use Rattle.std.specs.Prelude.{Option, Some, None}
use Rattle.rt_model.specs.Lists.{at}
use Rattle.rt_model.specs.Tree.{Types}
use Rattle.rt_model.specs.State.{Scope, State, height_of, climb_at, climb}
use Rattle.rt_model.specs.Lasting.{IsRooted}
use Rattle.rt_model.proofs.Maps.{by_test, pick_true, pick_false}
use Rattle.law_behavior.specs.Nearest.{IsClimb, NearestIsFound}

module _ {K : Types} (test : Scope K → Bool) (w : State K) where
  abbrev Way : ℕ → ℕ → Type 0
  Way s top = (path : List ℕ) × IsClimb test w path s top

  ends_here : (s top : ℕ) (x : Scope K) → at w.scopes s ≡ Some x → test x ≡ true → Some s ≡ Some top → Way s top
  ends_here s top x e q h = ([], (cc, (x, e, q)))

  goes_up : (go : ℕ → Option ℕ) (s top : ℕ) (x : Scope K) (o : Option ℕ) → ((p : ℕ) → go p ≡ Some top → Way p top)
      → at w.scopes s ≡ Some x → test x ≡ false → x.parent ≡ o
      → elim o as (λ z. Option ℕ) [ None ↦ None | Some p ↦ go p ] ≡ Some top → Way s top
  goes_up go s top x None each e q up h = cc
  goes_up go s top x (Some p) each e q up h = let more = each p h in (p ∷ more.0, ((x, e, q, up), more.1))

  step_up : (go : ℕ → Option ℕ) (s top : ℕ) (o : Option (Scope K)) → ((p : ℕ) → go p ≡ Some top → Way p top)
      → at w.scopes s ≡ o → climb_at test go s o ≡ Some top → Way s top
  step_up go s top None each e h = cc
  step_up go s top (Some x) each e h =
      let up : Option ℕ = elim x.parent as (λ z. Option ℕ) [ None ↦ None | Some p ↦ go p ] in
      by_test (test x)
      (λ q. ends_here s top x e q (sym (pick_true (Some s) up q) ∙ h))
      (λ q. goes_up go s top x x.parent each e q refl (sym (pick_false (Some s) up q) ∙ h))

  climb_found : (n s top : ℕ) → climb test w.scopes n s ≡ Some top → Way s top
  climb_found zero s top h = step_up (λ p. None) s top (at w.scopes s) (λ p g. cc) refl h
  climb_found (suc n) s top h = step_up (λ p. climb test w.scopes n p) s top (at w.scopes s) (λ p g. climb_found n p top g) refl h

  -- conversely, where heights rise by one

  height_at_is : (s : ℕ) (x : Scope K) → at w.scopes s ≡ Some x → height_of w.scopes s ≡ x.height
  height_at_is s x e = ap (λ (o : Option (Scope K)). elim o as (λ z. ℕ) [ None ↦ 0 | Some y ↦ y.height ]) e

  first_live : (path : List ℕ) (s top : ℕ) → IsClimb test w path s top → (x : Scope K) × (at w.scopes s ≡ Some x)
  first_live [] s top h = (h.1.0, h.1.1)
  first_live (p ∷ path) s top h = (h.0.0, h.0.1)

  stays_here : (go : ℕ → Option ℕ) (s : ℕ) (x : Scope K) → at w.scopes s ≡ Some x → test x ≡ true → climb_at test go s (at w.scopes s) ≡ Some s
  stays_here go s x e q =
      ap (λ (o : Option (Scope K)). climb_at test go s o) e ∙ pick_true (Some s) (elim x.parent as (λ z. Option ℕ) [ None ↦ None | Some p ↦ go p ]) q

  steps_on : (go : ℕ → Option ℕ) (s p : ℕ) (x : Scope K) → at w.scopes s ≡ Some x → test x ≡ false → x.parent ≡ Some p → climb_at test go s (at w.scopes s) ≡ go p
  steps_on go s p x e q up =
      ap (λ (o : Option (Scope K)). climb_at test go s o) e
      ∙ pick_false (Some s) (elim x.parent as (λ z. Option ℕ) [ None ↦ None | Some r ↦ go r ]) q
      ∙ ap (λ (o : Option ℕ). elim o as (λ z. Option ℕ) [ None ↦ None | Some r ↦ go r ]) up

  falls : IsRooted w → (s p top : ℕ) (path : List ℕ) (x : Scope K) → at w.scopes s ≡ Some x → x.parent ≡ Some p → IsClimb test w path p top
      → height_of w.scopes s ≡ height_of w.scopes p + 1
  falls rooted s p top path x e up way =
      let above = first_live path p top way in
      height_at_is s x e ∙ rooted.heights s p x above.0 e up above.1 ∙ ap (λ (n : ℕ). n + 1) (sym (height_at_is p above.0 above.1))

  climb_finds : IsRooted w → (n : ℕ) (path : List ℕ) (s top : ℕ) → height_of w.scopes s ≤ n → IsClimb test w path s top → climb test w.scopes n s ≡ Some top
  climb_finds rooted zero [] s top low h =
      subst (λ (k : ℕ). climb test w.scopes zero s ≡ Some k) h.0 (stays_here (λ p. None) s h.1.0 h.1.1 h.1.2)
  climb_finds rooted (suc n) [] s top low h =
      subst (λ (k : ℕ). climb test w.scopes (suc n) s ≡ Some k) h.0 (stays_here (λ p. climb test w.scopes n p) s h.1.0 h.1.1 h.1.2)
  climb_finds rooted zero (p ∷ path) s top low h =
      let up = falls rooted s p top path h.0.0 h.0.1 h.0.3 h.1 in absurd (omega (arith, up, low))
  climb_finds rooted (suc n) (p ∷ path) s top low h =
      let up = falls rooted s p top path h.0.0 h.0.1 h.0.3 h.1 in
      steps_on (λ r. climb test w.scopes n r) s p h.0.0 h.0.1 h.0.2 h.0.3 ∙ climb_finds rooted n path p top (omega (arith, up, low)) h.1

pub nearest_is_found : (K : Types) → NearestIsFound K
nearest_is_found K test w s top = (
  λ h. climb_found test w (height_of w.scopes s) s top h,
  λ rooted path way. climb_finds test w rooted (height_of w.scopes s) path s top (omega arith) way,
)
