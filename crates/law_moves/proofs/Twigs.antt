-- The tree of scopes as the open work meets it: parents, heights, and of each side its children and the spots of its output.
use Rattle.std.proofs.Common.{ℕ, ◌+◌, true, List, [], ◌≡◌, refl, sym, ap, ◌∙◌, subst}
use Rattle.std.specs.Prelude.{Option, Some, None, is_some}
use Rattle.rt_model.specs.Lists.{at}
use Rattle.rt_model.specs.Tree.{Types, Place, Spot, component_at, VComponent}
use Rattle.rt_model.specs.State.{SideName, MainSide, ChildrenSide, FallbackSide, Side, Scope, State, side_of, empty_side, is_live, height_of}
use Rattle.rt_model.specs.Run.{child_at, spots_of}
use Rattle.rt_model.specs.Framed.{Frame, framed}
use Rattle.rt_model.specs.Lasting.{IsRooted}
use Rattle.rt_model.specs.State.{Item}
use Rattle.rt_model.proofs.Among.{Among}
use Rattle.rt_model.proofs.Stands.{Stands}
use Rattle.rt_model.proofs.NumbersStand.{child_among}

-- a scope's parent, height, the side that it is below, and its sides
abbrev pub Twig : Types → Type 0
Twig K = Option ℕ × ℕ × SideName × Side K × Side K × Side K

module _ {K : Types} where
  -- by whether a scope is found
  pub by_scope : {P : Type 0} (o : Option (Scope K)) → (o ≡ None → P) → ((x : Scope K) → o ≡ Some x → P) → P
  by_scope None f g = f refl
  by_scope (Some x) f g = g x refl

  -- a side without its numbers
  abbrev pub bare : Side K → Side K
  bare side = record side { numbers = [] }

  abbrev pub twig : Option (Scope K) → Option (Twig K)
  twig None = None
  twig (Some x) = Some (x.parent, x.height, x.below, bare x.main_side, bare x.children_side, bare x.fallback_side)

  abbrev pub twig_up : Option (Twig K) → Option ℕ
  twig_up None = None
  twig_up (Some f) = f.0

  abbrev twig_height : Option (Twig K) → ℕ
  twig_height None = 0
  twig_height (Some f) = f.1

  abbrev pub twig_below : Option (Twig K) → Option SideName
  twig_below None = None
  twig_below (Some f) = Some f.2

  abbrev pub twig_side : SideName → Option (Twig K) → Side K
  twig_side a None = empty_side
  twig_side MainSide (Some f) = f.3
  twig_side ChildrenSide (Some f) = f.4
  twig_side FallbackSide (Some f) = f.5

  -- the parent of a live scope
  abbrev pub up : State K → ℕ → Option ℕ
  up w s = twig_up (twig (at w.scopes s))

  -- the side that a live scope is below
  abbrev pub below : State K → ℕ → Option SideName
  below w s = twig_below (twig (at w.scopes s))

  -- a side of a scope, empty where the scope is gone
  abbrev pub side_at : State K → ℕ → SideName → Side K
  side_at w s a = twig_side a (twig (at w.scopes s))

  -- the children of a side by place
  abbrev pub kids : State K → ℕ → SideName → List (Place × ℕ)
  kids w s a = (side_at w s a).children

  -- the spots of a side's output
  abbrev pub slots : State K → ℕ → SideName → List (Spot K)
  slots w s a = spots_of (side_at w s a).output

  -- a component stands at a place of a side's output
  abbrev pub HasSlot : State K → ℕ → SideName → Place → Type 0
  HasSlot w s a p = (c : VComponent K) × Among (slots w s a) (component_at p c)

  -- the tree of scopes is the same
  abbrev pub SameTwigs : State K → State K → Type 0
  SameTwigs w v = (s : ℕ) → twig (at v.scopes s) ≡ twig (at w.scopes s)

  live_twig : (o : Option (Scope K)) → is_some o ≡ is_some (twig o)
  live_twig None = refl
  live_twig (Some x) = refl

  height_twig : (o : Option (Scope K)) → elim o as (λ z. ℕ) [ None ↦ 0 | Some x ↦ x.height ] ≡ twig_height (twig o)
  height_twig None = refl
  height_twig (Some x) = refl

  pub twig_side_is : (x : Scope K) (a : SideName) → twig_side a (twig (Some x)) ≡ bare (side_of x a)
  twig_side_is x MainSide = refl
  twig_side_is x ChildrenSide = refl
  twig_side_is x FallbackSide = refl

  -- what one equal twig says
  pub live_by : (w v : State K) (s : ℕ) → twig (at v.scopes s) ≡ twig (at w.scopes s) → is_live v s ≡ is_live w s
  live_by w v s h = live_twig (at v.scopes s) ∙ ap (λ (f : Option (Twig K)). is_some f) h ∙ sym (live_twig (at w.scopes s))

  pub height_by : (w v : State K) (s : ℕ) → twig (at v.scopes s) ≡ twig (at w.scopes s) → height_of v.scopes s ≡ height_of w.scopes s
  height_by w v s h = height_twig (at v.scopes s) ∙ ap (λ (f : Option (Twig K)). twig_height f) h ∙ sym (height_twig (at w.scopes s))

  pub up_by : (w v : State K) (s : ℕ) → twig (at v.scopes s) ≡ twig (at w.scopes s) → up v s ≡ up w s
  up_by w v s h = ap (λ (f : Option (Twig K)). twig_up f) h

  pub below_by : (w v : State K) (s : ℕ) → twig (at v.scopes s) ≡ twig (at w.scopes s) → below v s ≡ below w s
  below_by w v s h = ap (λ (f : Option (Twig K)). twig_below f) h

  pub side_by : (w v : State K) (s : ℕ) (a : SideName) → twig (at v.scopes s) ≡ twig (at w.scopes s) → side_at v s a ≡ side_at w s a
  side_by w v s a h = ap (λ (f : Option (Twig K)). twig_side a f) h

  -- what is framed alike is a twig alike
  abbrev frame_twig : Option (Frame K) → Option (Twig K)
  frame_twig None = None
  frame_twig (Some f) = Some (f.1, f.2, f.3, bare f.4, bare f.5, bare f.6)

  twig_framed : (o : Option (Scope K)) → twig o ≡ frame_twig (framed o)
  twig_framed None = refl
  twig_framed (Some x) = refl

  pub same_framed : (o p : Option (Scope K)) → framed o ≡ framed p → twig o ≡ twig p
  same_framed o p h = twig_framed o ∙ ap (λ (f : Option (Frame K)). frame_twig f) h ∙ sym (twig_framed p)

  -- what is found of a live scope
  pub up_found : (w : State K) (s : ℕ) (x : Scope K) → at w.scopes s ≡ Some x → up w s ≡ x.parent
  up_found w s x e = ap (λ (o : Option (Scope K)). twig_up (twig o)) e

  pub below_found : (w : State K) (s : ℕ) (x : Scope K) → at w.scopes s ≡ Some x → below w s ≡ Some x.below
  below_found w s x e = ap (λ (o : Option (Scope K)). twig_below (twig o)) e

  pub height_found : (w : State K) (s : ℕ) (x : Scope K) → at w.scopes s ≡ Some x → height_of w.scopes s ≡ x.height
  height_found w s x e = ap (λ (o : Option (Scope K)). elim o as (λ z. ℕ) [ None ↦ 0 | Some y ↦ y.height ]) e

  pub side_found : (w : State K) (s : ℕ) (a : SideName) (x : Scope K) → at w.scopes s ≡ Some x → side_at w s a ≡ bare (side_of x a)
  side_found w s a x e = ap (λ (o : Option (Scope K)). twig_side a (twig o)) e ∙ twig_side_is x a

  pub live_found : (w : State K) (s : ℕ) (x : Scope K) → at w.scopes s ≡ Some x → is_live w s ≡ true
  live_found w s x e = ap (λ (o : Option (Scope K)). is_some o) e

  pub found_live : (o : Option (Scope K)) → is_some o ≡ true → (x : Scope K) × (o ≡ Some x)
  found_live None h = cc
  found_live (Some x) h = (x, refl)

  no_kid : {P : Type 0} (w : State K) (s t : ℕ) (a : SideName) (p : Place) → at w.scopes s ≡ None → child_at (kids w s a) p ≡ Some t → P
  no_kid w s t a p e h =
      let none : child_at (kids w s a) p ≡ None = ap (λ (o : Option (Scope K)). child_at (twig_side a (twig o)).children p) e in
      let absurdity : None ≡ Some t = sym none ∙ h in
      cc

  module _ (w : State K) (work : List (Item K)) (h : Stands w work) where
    -- a live child knows its parent and its side
    pub child_knows : (s t : ℕ) (a : SideName) (p : Place) → child_at (kids w s a) p ≡ Some t → is_live w t ≡ true → (up w t ≡ Some s) × (below w t ≡ Some a)
    child_knows s t a p e live =
        let there = found_live (at w.scopes t) live in
        by_scope (at w.scopes s)
        (λ none. no_kid w s t a p none e)
        (
        λ x found.
        let here : child_at (side_of x a).children p ≡ Some t = ap (λ (z : Side K). child_at z.children p) (sym (side_found w s a x found)) ∙ e in
        let told = h.child s t x there.0 a p found (child_among (side_of x a).children p t here) there.1 in
        (up_found w t there.0 there.1 ∙ told.0, below_found w t there.0 there.1 ∙ ap Some told.1)
        )

    -- a child stands at one place of a side
    pub child_place : (s t : ℕ) (a : SideName) (p q : Place) → Among (kids w s a) (p, t) → Among (kids w s a) (q, t) → p ≡ q
    child_place s t a p q e f =
        by_scope (at w.scopes s)
        (λ none. absurd (subst (λ (xs : List (Place × ℕ)). Among xs (p, t)) (ap (λ (o : Option (Scope K)). (twig_side a (twig o)).children) none) e))
        (
        λ x found.
        let there : kids w s a ≡ (side_of x a).children = ap (λ (z : Side K). z.children) (side_found w s a x found) in
        h.slot s t x a p q found (subst (λ (xs : List (Place × ℕ)). Among xs (p, t)) there e) (subst (λ (xs : List (Place × ℕ)). Among xs (q, t)) there f)
        )

  module _ (w : State K) (work : List (Item K)) (r : IsRooted w) (h : Stands w work) where
    pub kid_up : (s t : ℕ) (a : SideName) (p : Place) → child_at (kids w s a) p ≡ Some t → is_live w t ≡ true → (up w t ≡ Some s) × (below w t ≡ Some a)
    kid_up s t a p e live = child_knows w work h s t a p e live

    -- a scope is one level higher than its live parent
    pub up_height : (t p : ℕ) → up w t ≡ Some p → is_live w p ≡ true → height_of w.scopes t ≡ height_of w.scopes p + 1
    up_height t p e live =
        let there = found_live (at w.scopes p) live in
        by_scope (at w.scopes t)
        (λ none. let absurdity : None ≡ Some p = sym (ap (λ (o : Option (Scope K)). twig_up (twig o)) none) ∙ e in cc)
        (
        λ y found.
        height_found w t y found ∙ r.heights t p y there.0 found (sym (up_found w t y found) ∙ e) there.1 ∙ ap (λ (n : ℕ). n + 1) (sym (height_found w p there.0 there.1))
        )
