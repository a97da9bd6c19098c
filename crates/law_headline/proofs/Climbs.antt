-- The ways up in a tree of scopes, before and after a change that moves no scope.
use Rattle.std.proofs.Common.{ℕ, ◌+◌, true, List, [], ◌∷◌, ◌++◌, ◌≡◌, inl, inr, refl, sym, ap, ◌∙◌, subst, arith, length}
use Rattle.std.specs.Prelude.{Option, Some, None, is_some}
pub use Rattle.rt_lemmas.proofs.Bools.{contrary as off_itself}
use Rattle.rt_model.specs.Lists.{at}
use Rattle.rt_model.specs.Tree.{Types, Place, VComponent}
use Rattle.rt_model.specs.State.{SideName, MainSide, ChildrenSide, FallbackSide, Side, Scope, State, Item, Feed, is_live, height_of}
use Rattle.rt_model.specs.Run.{child_at}
use Rattle.rt_model.proofs.Among.{Among}
use Rattle.law_moves.proofs.Twigs.{twig, twig_up, twig_below, twig_side, up, below, kids, bare, up_height}
use Rattle.law_moves.proofs.Woven.{Fits, Stack, Climb}
use Rattle.law_moves.proofs.Lists.{some_number}
use Rattle.law_moves.proofs.Weaves.{knows_of}
use Rattle.law_moves.specs.Frames.{Stand, Shown, stand, shown}
use Rattle.law_headline.proofs.Steps.{Ready}

abbrev stand_up : Option Stand → Option ℕ
stand_up None = None
stand_up (Some f) = f.0

abbrev stand_below : Option Stand → Option SideName
stand_below None = None
stand_below (Some f) = Some f.2

abbrev stand_height : Option Stand → ℕ
stand_height None = 0
stand_height (Some f) = f.1

module _ {K : Types} where
  up_stand : (o : Option (Scope K)) → twig_up (twig o) ≡ stand_up (stand o)
  up_stand None = refl
  up_stand (Some x) = refl

  below_stand : (o : Option (Scope K)) → twig_below (twig o) ≡ stand_below (stand o)
  below_stand None = refl
  below_stand (Some x) = refl

  live_stand : (o : Option (Scope K)) → is_some o ≡ is_some (stand o)
  live_stand None = refl
  live_stand (Some x) = refl

  abbrev shown_side : SideName → Option (Shown K) → Side K
  shown_side a None = twig_side a None
  shown_side MainSide (Some f) = bare f.5
  shown_side ChildrenSide (Some f) = bare f.6
  shown_side FallbackSide (Some f) = bare f.7

  side_shown : (a : SideName) (o : Option (Scope K)) → twig_side a (twig o) ≡ shown_side a (shown o)
  side_shown a None = refl
  side_shown MainSide (Some x) = refl
  side_shown ChildrenSide (Some x) = refl
  side_shown FallbackSide (Some x) = refl

  -- what one scope's stand says
  pub up_by : (w v : State K) (t : ℕ) → stand (at v.scopes t) ≡ stand (at w.scopes t) → up v t ≡ up w t
  up_by w v t h = up_stand (at v.scopes t) ∙ ap (λ (f : Option Stand). stand_up f) h ∙ sym (up_stand (at w.scopes t))

  pub below_by : (w v : State K) (t : ℕ) → stand (at v.scopes t) ≡ stand (at w.scopes t) → below v t ≡ below w t
  below_by w v t h = below_stand (at v.scopes t) ∙ ap (λ (f : Option Stand). stand_below f) h ∙ sym (below_stand (at w.scopes t))

  pub live_by : (w v : State K) (t : ℕ) → stand (at v.scopes t) ≡ stand (at w.scopes t) → is_live v t ≡ is_live w t
  live_by w v t h = live_stand (at v.scopes t) ∙ ap (λ (f : Option Stand). is_some f) h ∙ sym (live_stand (at w.scopes t))

  pub kids_by : (w v : State K) (t : ℕ) (a : SideName) → shown (at v.scopes t) ≡ shown (at w.scopes t) → kids v t a ≡ kids w t a
  kids_by w v t a h = ap (λ (i : Side K). i.children) (side_shown a (at v.scopes t) ∙ ap (λ (f : Option (Shown K)). shown_side a f) h ∙ sym (side_shown a (at w.scopes t)))

  -- no scope moves
  pub climb_by : (w v : State K) → ((t : ℕ) → stand (at v.scopes t) ≡ stand (at w.scopes t)) → (path : List ℕ) (s t : ℕ) → Climb v path s t → Climb w path s t
  climb_by w v same [] s t h = h
  climb_by w v same (p ∷ path) s t h = (sym (up_by w v s (same s)) ∙ h.0, climb_by w v same path p t h.1)

  -- one way after another
  pub climb_on : (w : State K) (path more : List ℕ) (s t u : ℕ) → Climb w path s t → Climb w more t u → Climb w (path ++ more) s u
  climb_on w [] more s t u h g = subst (λ (n : ℕ). Climb w more n u) (sym h) g
  climb_on w (p ∷ path) more s t u h g = (h.0, climb_on w path more p t u h.1 g)

  -- what has a parent is live
  pub lives_below : (w : State K) (t p : ℕ) → up w t ≡ Some p → is_live w t ≡ true
  lives_below w t p h = one (at w.scopes t) h
    where
      one : (o : Option (Scope K)) → twig_up (twig o) ≡ Some p → is_some o ≡ true
      one None e = cc
      one (Some x) e = refl

  module _ (w : State K) (work : List (Item K)) (r : Ready w work) where
    pub parent_lives : (t p : ℕ) → up w t ≡ Some p → is_live w p ≡ true
    parent_lives t p h = ((r.woven).attached t p h).0

    pub rises : (t p : ℕ) → up w t ≡ Some p → height_of w.scopes t ≡ height_of w.scopes p + 1
    rises t p h = up_height w work r.rooted r.stands t p h (parent_lives t p h)

    -- a way up leads down in heights
    pub climb_height : (path : List ℕ) (s t : ℕ) → Climb w path s t → height_of w.scopes s ≡ height_of w.scopes t + length path
    climb_height [] s t h = let same : height_of w.scopes s ≡ height_of w.scopes t = ap (λ (n : ℕ). height_of w.scopes n) h in omega (arith, same)
    climb_height (p ∷ path) s t h = let a = rises s p h.0 in let b = climb_height path p t h.1 in omega (arith, a, b)

    -- no scope is below its own child
    pub no_cycle : {P : Type 0} (path : List ℕ) (s t : ℕ) → Climb w path s t → up w t ≡ Some s → P
    no_cycle path s t h e = let a = climb_height path s t h in let b = rises t s e in absurd (omega (arith, a, b))

    pub feed_fits : (items : List (Item K)) (s : ℕ) (a : SideName) (p : Place) (c : VComponent K) → Stack w items → Among items (Feed s a p c) → Fits w (Feed s a p c)
    feed_fits [] s a p c h e = absurd e
    feed_fits (i ∷ items) s a p c h (inl e) = subst (λ (j : Item K). Fits w j) e h.1
    feed_fits (i ∷ items) s a p c h (inr e) = feed_fits items s a p c h.3 e

    -- the child that is fed is below the owner of the feed
    pub fed_stands : (s t : ℕ) (a : SideName) (p : Place) (c : VComponent K) → Among work (Feed s a p c) → child_at (kids w s a) p ≡ Some t → (up w t ≡ Some s) × (below w t ≡ Some a)
    fed_stands s t a p c e kid =
        let fits = feed_fits work s a p c r.woven.stack e in
        let same : fits.0 ≡ t = some_number fits.0 t (sym fits.1 ∙ kid) in
        (knows_of w work r.stands).parents s t a p kid (ap (λ (n : ℕ). is_live w n) (sym same) ∙ fits.2)
