-- A climb from a scope upwards, step by step.
use Rattle.std.proofs.Common.{◌≡◌, ℕ, zero, suc, inl, inr, ◌-◌, ◌&&◌, Bool, true, false, List, refl, ap, sym, ◌∙◌, arith}
use Rattle.std.specs.Prelude.{nat_eq, Option, Some, None, is_some, if◌then◌else◌}
use Rattle.std.proofs.lemmas.Bool.Decides.{eqb_tells}
pub use Rattle.rt_lemmas.proofs.Numbers.{is_zero}
use Rattle.rt_lemmas.proofs.Bools.{and_right}
use Rattle.rt_model.specs.Lists.{at}
use Rattle.rt_model.specs.Tree.{Types}
use Rattle.rt_model.specs.State as model
use Rattle.rt_model.specs.State.{SideName, climb, climb_at, is_boundary, location_at, location_from, shown_at, shown_from, is_side}
use Rattle.run_state.specs.Mounts.{shown_in, shown_over}

-- a number of steps that isn't 0
pub one-less : (n : ℕ) → nat_eq n 0 ≡ false → suc (n - 1) ≡ n
one-less zero isnt = absurd (cc isnt)
one-less (suc n) isnt = omega arith

pub no-steps : (n : ℕ) → nat_eq n 0 ≡ true → n ≡ 0
no-steps n is = elim (eqb_tells n 0) as (λ _. n ≡ 0) [ inl p ↦ p.1 | inr p ↦ absurd (cc (sym p.0 ∙ is)) ]

pub not_zero : (n : ℕ) → (n ≡ 0 → ⊥) → nat_eq n 0 ≡ false
not_zero n isnt = elim (eqb_tells n 0) as (λ _. nat_eq n 0 ≡ false) [ inl p ↦ absurd (isnt p.1) | inr p ↦ p.0 ]

module _ {K : Types} (test : model.Scope K → Bool) (scopes : List (ℕ × model.Scope K)) where
  at_gone : (go : ℕ → Option ℕ) (s : ℕ) → at scopes s ≡ None → None ≡ climb_at test go s (at scopes s)
  at_gone go s gone = ap (λ o. climb_at test go s o) (sym gone)

  at_here : (go : ℕ → Option ℕ) (s : ℕ) (x : model.Scope K) → at scopes s ≡ Some x → test x ≡ true → Some s ≡ climb_at test go s (at scopes s)
  at_here go s x stood holds_it =
      ap (λ (b : Bool). if b then Some s else elim x.parent as (λ _. Option ℕ) [ None ↦ None | Some p ↦ go p ]) (sym holds_it) ∙ ap (λ o. climb_at test go s o) (sym stood)

  at_up : (go : ℕ → Option ℕ) (s : ℕ) (x : model.Scope K) (up : Option ℕ) → at scopes s ≡ Some x → test x ≡ false → x.parent ≡ up
      → elim up as (λ _. Option ℕ) [ None ↦ None | Some p ↦ go p ] ≡ climb_at test go s (at scopes s)
  at_up go s x up stood isnt is =
      ap (λ (o : Option ℕ). elim o as (λ _. Option ℕ) [ None ↦ None | Some p ↦ go p ]) (sym is)
      ∙ ap (λ (b : Bool). if b then Some s else elim x.parent as (λ _. Option ℕ) [ None ↦ None | Some p ↦ go p ]) (sym isnt)
      ∙ ap (λ o. climb_at test go s o) (sym stood)

  -- the scope is gone
  pub climb_gone : (n s : ℕ) → at scopes s ≡ None → None ≡ climb test scopes n s
  climb_gone zero s gone = at_gone (λ p. None) s gone
  climb_gone (suc n) s gone = at_gone (λ p. climb test scopes n p) s gone

  -- it is the one
  pub climb_here : (n s : ℕ) (x : model.Scope K) → at scopes s ≡ Some x → test x ≡ true → Some s ≡ climb test scopes n s
  climb_here zero s x stood holds_it = at_here (λ p. None) s x stood holds_it
  climb_here (suc n) s x stood holds_it = at_here (λ p. climb test scopes n p) s x stood holds_it

  -- it is at the top
  pub climb_top : (n s : ℕ) (x : model.Scope K) → at scopes s ≡ Some x → test x ≡ false → x.parent ≡ None → None ≡ climb test scopes n s
  climb_top zero s x stood isnt top = at_up (λ p. None) s x None stood isnt top
  climb_top (suc n) s x stood isnt top = at_up (λ p. climb test scopes n p) s x None stood isnt top

  -- no step is left
  pub climb_end : (n s p : ℕ) (x : model.Scope K) → nat_eq n 0 ≡ true → at scopes s ≡ Some x → test x ≡ false → x.parent ≡ Some p → None ≡ climb test scopes n s
  climb_end n s p x none stood isnt up = at_up (λ q. None) s x (Some p) stood isnt up ∙ ap (λ m. climb test scopes m s) (sym (no-steps n none))

  -- the climb goes on
  pub climb_on : (n s p : ℕ) (x : model.Scope K) → nat_eq n 0 ≡ false → at scopes s ≡ Some x → test x ≡ false → x.parent ≡ Some p → climb test scopes (n - 1) p ≡ climb test scopes n s
  climb_on n s p x some stood isnt up = at_up (λ q. climb test scopes (n - 1) q) s x (Some p) stood isnt up ∙ ap (λ m. climb test scopes m s) (one-less n some)

module _ {K : Types} (scopes : List (ℕ × model.Scope K)) where
  abbrev located : Option (model.Scope K) → (ℕ → Option (ℕ × SideName)) → Option (ℕ × SideName)
  located None go = None
  located (Some x) go = location_at scopes go x.below x.parent

  location-is : (n s : ℕ) → located (at scopes s) (λ p. location_from scopes n p) ≡ location_from scopes (suc n) s
  location-is n s = same (at scopes s)
    where
      same : (o : Option (model.Scope K)) → located o (λ p. location_from scopes n p) ≡ elim o [ None ↦ None | Some x ↦ location_at scopes (λ p. location_from scopes n p) x.below x.parent ]
      same None = refl
      same (Some x) = refl

  -- no step is left
  pub location_end : (n s : ℕ) → nat_eq n 0 ≡ true → None ≡ location_from scopes n s
  location_end n s none = ap (λ m. location_from scopes m s) (sym (no-steps n none))

  module _ (n s : ℕ) (some : nat_eq n 0 ≡ false) where
    counted : located (at scopes s) (λ p. location_from scopes (n - 1) p) ≡ location_from scopes n s
    counted = location-is (n - 1) s ∙ ap (λ m. location_from scopes m s) (one-less n some)

    -- the scope is gone
    pub location_gone : at scopes s ≡ None → None ≡ location_from scopes n s
    location_gone gone = ap (λ o. located o (λ p. location_from scopes (n - 1) p)) (sym gone) ∙ counted

    up_to : (x : model.Scope K) (up : Option ℕ) → at scopes s ≡ Some x → x.parent ≡ up → location_at scopes (λ p. location_from scopes (n - 1) p) x.below up ≡ location_from scopes n s
    up_to x up stood is =
        ap (λ o. location_at scopes (λ p. location_from scopes (n - 1) p) x.below o) (sym is) ∙ ap (λ o. located o (λ p. location_from scopes (n - 1) p)) (sym stood) ∙ counted

    -- nothing is above
    pub location_top : (x : model.Scope K) → at scopes s ≡ Some x → x.parent ≡ None → None ≡ location_from scopes n s
    location_top x stood top = up_to x None stood top

    -- a boundary is
    pub location_here : (x : model.Scope K) (p : ℕ) → at scopes s ≡ Some x → x.parent ≡ Some p → is_boundary scopes p ≡ true → Some (p, x.below) ≡ location_from scopes n s
    location_here x p stood up holds_it = ap (λ (b : Bool). if b then Some (p, x.below) else location_from scopes (n - 1) p) (sym holds_it) ∙ up_to x (Some p) stood up

    -- the way goes on
    pub location_on : (x : model.Scope K) (p : ℕ) → at scopes s ≡ Some x → x.parent ≡ Some p → is_boundary scopes p ≡ false → location_from scopes (n - 1) p ≡ location_from scopes n s
    location_on x p stood up isnt = ap (λ (b : Bool). if b then Some (p, x.below) else location_from scopes (n - 1) p) (sym isnt) ∙ up_to x (Some p) stood up

module _ {K : Types} (scopes : List (ℕ × model.Scope K)) where
  abbrev shown_by : Option (model.Scope K) → (ℕ → Bool) → Bool
  shown_by None go = false
  shown_by (Some x) go = shown_at scopes go x.below x.parent

  shown-is : (n s : ℕ) → shown_by (at scopes s) (λ p. shown_from scopes n p) ≡ shown_from scopes (suc n) s
  shown-is n s = same (at scopes s)
    where
      same : (o : Option (model.Scope K)) → shown_by o (λ p. shown_from scopes n p) ≡ elim o [ None ↦ false | Some x ↦ shown_at scopes (λ p. shown_from scopes n p) x.below x.parent ]
      same None = refl
      same (Some x) = refl

  -- no step is left
  pub shown_end : (n s : ℕ) → nat_eq n 0 ≡ true → true ≡ shown_from scopes n s
  shown_end n s none = ap (λ m. shown_from scopes m s) (sym (no-steps n none))

  module _ (n s : ℕ) (some : nat_eq n 0 ≡ false) where
    counted_shown : shown_by (at scopes s) (λ p. shown_from scopes (n - 1) p) ≡ shown_from scopes n s
    counted_shown = shown-is (n - 1) s ∙ ap (λ m. shown_from scopes m s) (one-less n some)

    -- it shows where the scopes above it do
    pub shown_up : (x : model.Scope K) (up : Option ℕ) → at scopes s ≡ Some x → x.parent ≡ up → shown_at scopes (λ p. shown_from scopes (n - 1) p) x.below up ≡ shown_from scopes n s
    shown_up x up stood is =
        ap (λ o. shown_at scopes (λ p. shown_from scopes (n - 1) p) x.below o) (sym is) ∙ ap (λ o. shown_by o (λ p. shown_from scopes (n - 1) p)) (sym stood) ∙ counted_shown

  -- a live scope shows where those above it do
  pub live_shows : (s : ℕ) (x : model.Scope K) (b : Bool) → at scopes s ≡ Some x → b ≡ shown_from scopes x.height s → b ≡ shown_in scopes s
  live_shows s x b stood is =
      is ∙ ap (λ (o : Option (model.Scope K)). is_some o && shown_from scopes (elim o as (λ _. ℕ) [ None ↦ 0 | Some y ↦ y.height ]) s) (sym stood)

  -- a scope that is gone doesn't
  pub gone_shows : (s : ℕ) → at scopes s ≡ None → false ≡ shown_in scopes s
  gone_shows s gone =
      ap (λ (o : Option (model.Scope K)). is_some o && shown_from scopes (elim o as (λ _. ℕ) [ None ↦ 0 | Some y ↦ y.height ]) s) (sym gone)

-- above a scope that shows its parent shows, one lower
pub parent_shows : {K : Types} (scopes : List (ℕ × model.Scope K)) (s p : ℕ) (x y : model.Scope K) → at scopes s ≡ Some x → at scopes p ≡ Some y → x.parent ≡ Some p
    → nat_eq x.height 0 ≡ false → y.height ≡ x.height - 1 → shown_in scopes s ≡ true → shown_in scopes p ≡ true
parent_shows scopes s p x y stood above up some height shows =
    let here : shown_from scopes x.height s ≡ true = live_shows scopes s x (shown_from scopes x.height s) stood refl ∙ shows in
    let way : shown_at scopes (λ q. shown_from scopes (x.height - 1) q) x.below (Some p) ≡ true = shown_up scopes x.height s some x (Some p) stood up ∙ here in
    let both : (is_side y.shows x.below && shown_from scopes (x.height - 1) p) ≡ true =
    ap (λ o. elim o as (λ _. Bool) [ None ↦ false | Some z ↦ is_side z.shows x.below && shown_from scopes (x.height - 1) p ]) (sym above) ∙ way in
    let rest : shown_from scopes (x.height - 1) p ≡ true = and_right (is_side y.shows x.below) (shown_from scopes (x.height - 1) p) both in
    sym (live_shows scopes p y true above (sym (ap (λ n. shown_from scopes n p) height ∙ rest)))

module _ {K : Types} (scopes : List (ℕ × model.Scope K)) (n : ℕ) (x : model.Scope K) where
  -- nothing is above a scope
  pub over_top : x.parent ≡ None → true ≡ shown_over scopes n x
  over_top top = ap (λ o. shown_at scopes (λ q. shown_from scopes n q) x.below o) (sym top)

  module _ (p : ℕ) (up : x.parent ≡ Some p) where
    over_at : (o : Option (model.Scope K)) → at scopes p ≡ o
        → elim o as (λ _. Bool) [ None ↦ false | Some y ↦ is_side y.shows x.below && shown_from scopes n p ] ≡ shown_over scopes n x
    over_at o stood =
        ap (λ (r : Option (model.Scope K)). elim r as (λ _. Bool) [ None ↦ false | Some y ↦ is_side y.shows x.below && shown_from scopes n p ]) (sym stood)
        ∙ ap (λ r. shown_at scopes (λ q. shown_from scopes n q) x.below r) (sym up)

    -- the parent is gone
    pub over_gone : at scopes p ≡ None → false ≡ shown_over scopes n x
    over_gone gone = over_at None gone

    module _ (y : model.Scope K) (stood : at scopes p ≡ Some y) where
      -- the parent shows another side
      pub over_other : is_side y.shows x.below ≡ false → false ≡ shown_over scopes n x
      over_other other = ap (λ b. b && shown_from scopes n p) (sym other) ∙ over_at (Some y) stood

      -- no step is left
      pub over_last : is_side y.shows x.below ≡ true → nat_eq n 0 ≡ true → true ≡ shown_over scopes n x
      over_last own none = shown_end scopes n p none ∙ ap (λ b. b && shown_from scopes n p) (sym own) ∙ over_at (Some y) stood

      -- the climb goes on
      pub over_on : is_side y.shows x.below ≡ true → nat_eq n 0 ≡ false → shown_over scopes (n - 1) y ≡ shown_over scopes n x
      over_on own some =
          shown_up scopes n p some y y.parent stood refl ∙ ap (λ b. b && shown_from scopes n p) (sym own) ∙ over_at (Some y) stood
