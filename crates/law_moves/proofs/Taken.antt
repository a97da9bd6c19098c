-- A removal takes its first leaf: the open work still fits the tree.
use Rattle.std.proofs.Common.{ℕ, zero, suc, ◌+◌, ◌≤◌, ◌<◌, true, false, List, [], ◌∷◌, ◌++◌, ◌≡◌, ◌⊎◌, inl, inr, refl, sym, ap, ◌∙◌, subst, arith, nat_eq, length}
use Rattle.std.specs.Prelude.{Option, Some, None, is_some}
use Rattle.std.specs.List.{AllByRecursion}
use Rattle.std.proofs.lemmas.Bool.{eqb-true}
use Rattle.rt_lemmas.proofs.Options.{some_same as some_side}
use Rattle.rt_model.specs.Lists.{at}
use Rattle.rt_model.specs.Tree.{Types, Place, VComponent, Spot, node_at, component_at}
use Rattle.rt_model.specs.State.{SideName, MainSide, ChildrenSide, FallbackSide, Side, Scope, State, Item, Draw, Row, Feed, Make, Drop, side_of, is_live, parent_of, height_of}
use Rattle.rt_model.specs.Run.{child_at, spots_of}
use Rattle.rt_model.specs.Boundary.{live_child, children_among, side_scopes}
use Rattle.rt_model.specs.Removal.{children_below, first_leaf, next_removed}
use Rattle.rt_model.specs.Framed.{TookOne}
use Rattle.rt_model.specs.Lasting.{IsRooted}
use Rattle.rt_model.proofs.Maps.{by_test, eq_same, pick_true}
use Rattle.rt_model.proofs.Among.{Among, among_left, among_right}
use Rattle.rt_model.proofs.Places.{place_of}
use Rattle.rt_model.proofs.Stands.{Stands}
use Rattle.law_moves.specs.Removals.{children_at, Wooded}
use Rattle.law_moves.proofs.Leaves.{above_all, above_scope, child_falls, first_height}
use Rattle.law_moves.proofs.Woods.{stands_wooded, children_know}
use Rattle.law_moves.proofs.Twigs.{bare, twig, twig_up, twig_side, up, below, side_at, kids, slots, HasSlot, live_by, height_by, up_by, below_by, side_by, same_framed, side_found, by_scope, kid_up, up_height}
use Rattle.law_moves.proofs.Woven.{owner, Fits, After, Stack, InSlot, Attached, HasKid, ToMake, Climb, Falls, Filled, Woven}
use Rattle.law_moves.proofs.Lists.{some_number, every_among}

module _ {K : Types} where
  pub empty_spots : (b : SideName) → spots_of (twig_side {K = K} b None).output ≡ []
  empty_spots b = refl

  abbrev dropped_by : Item K → ℕ
  dropped_by (Drop t s a) = t
  dropped_by (Draw s a p k) = 0
  dropped_by (Row b step) = 0
  dropped_by (Feed s a p c) = 0
  dropped_by (Make s a p c) = 0

  pub live_up : (w : State K) (k p : ℕ) → up w k ≡ Some p → is_live w k ≡ true
  live_up w k p e = up_lives (at w.scopes k) e
    where
      up_lives : (o : Option (Scope K)) → twig_up (twig o) ≡ Some p → is_some o ≡ true
      up_lives None h = cc
      up_lives (Some x) h = refl

  up_or : (o : Option (Scope K)) → twig_up (twig o) ≡ elim o as (λ z. Option ℕ) [ None ↦ None | Some x ↦ x.parent ]
  up_or None = refl
  up_or (Some x) = refl

  up_parent : (w : State K) (t : ℕ) → up w t ≡ parent_of w.scopes t
  up_parent w t = up_or (at w.scopes t)

  climb_more : (w : State K) (path : List ℕ) (s t p : ℕ) → Climb w path s t → up w t ≡ Some p → Climb w (path ++ p ∷ []) s p
  climb_more w [] s t p h e = (ap (λ (n : ℕ). up w n) h ∙ e, refl)
  climb_more w (q ∷ path) s t p h e = (h.0, climb_more w path q t p h.1 e)

  -- the leaf that a walk down from a scope finds
  pub record LeafOf (w : State K) (s l : ℕ) : Type 0 where
    pub none_below : children_at w l ≡ []
    pub path : List ℕ
    pub climb : Climb w path l s
    pub deep : (l ≡ s) ⊎ (height_of w.scopes s < height_of w.scopes l)

  -- a live child in a slot is among the children
  pub among_slots : (w : State K) (children : List (Place × ℕ)) (ss : List (Spot K)) (p : Place) (c : VComponent K) (t : ℕ) → Among ss (component_at p c) → child_at children p ≡ Some t → is_live w t ≡ true
      → Among (children_among w children ss) t
  among_slots w children [] p c t h e live = absurd h
  among_slots w children (node_at q k ∷ ss) p c t (inl h) e live = cc
  among_slots w children (node_at q k ∷ ss) p c t (inr h) e live = among_slots w children ss p c t h e live
  among_slots w children (component_at q d ∷ ss) p c t (inl h) e live =
      let place : q ≡ p = ap (λ (s : Spot K). place_of s) h in
      let found : child_at children q ≡ Some t = ap (λ (z : Place). child_at children z) place ∙ e in
      let here : live_child w (child_at children q) ≡ t ∷ [] = ap (λ (o : Option ℕ). live_child w o) found ∙ pick_true (t ∷ []) [] live in
      among_left (live_child w (child_at children q)) (children_among w children ss) t (subst (λ (xs : List ℕ). Among xs t) (sym here) (inl refl))
  among_slots w children (component_at q d ∷ ss) p c t (inr h) e live =
      among_right (live_child w (child_at children q)) (children_among w children ss) t (among_slots w children ss p c t h e live)

  among_sides : (w : State K) (x : Scope K) (a : SideName) (t : ℕ) → Among (side_scopes w (side_of x a)) t → Among (children_below w (Some x)) t
  among_sides w x FallbackSide t h =
      among_left (side_scopes w x.fallback_side ++ side_scopes w x.children_side) (side_scopes w x.main_side) t
      (among_left (side_scopes w x.fallback_side) (side_scopes w x.children_side) t h)
  among_sides w x ChildrenSide t h =
      among_left (side_scopes w x.fallback_side ++ side_scopes w x.children_side) (side_scopes w x.main_side) t
      (among_right (side_scopes w x.fallback_side) (side_scopes w x.children_side) t h)
  among_sides w x MainSide t h = among_right (side_scopes w x.fallback_side ++ side_scopes w x.children_side) (side_scopes w x.main_side) t h

  slot_child : (w : State K) (s t : ℕ) (a : SideName) (p : Place) → HasSlot w s a p → child_at (kids w s a) p ≡ Some t → is_live w t ≡ true → Among (children_at w s) t
  slot_child w s t a p slot e live =
      by_scope (at w.scopes s)
      (
      λ none.
      absurd (subst (λ (o : Option (Scope K)). Among (spots_of (twig_side a (twig o)).output) (component_at p slot.0)) none slot.1)
      )
      (
      λ x found.
      let side : side_at w s a ≡ bare (side_of x a) = side_found w s a x found in
      let here : Among (side_scopes w (side_of x a)) t =
      among_slots w (side_of x a).children (spots_of (side_of x a).output) p slot.0 t
      (subst (λ (z : Side K). Among (spots_of z.output) (component_at p slot.0)) side slot.1)
      (ap (λ (z : Side K). child_at z.children p) (sym side) ∙ e) live in
      subst (λ (o : Option (Scope K)). Among (children_below w o) t) (sym found) (among_sides w x a t here)
      )

  module _ (w : State K) (work : List (Item K)) (r : IsRooted w) (st : Stands w work) where
    wood : Wooded w
    wood = stands_wooded w work r st

    child_up : (s child : ℕ) (others : List ℕ) → children_at w s ≡ child ∷ others → up w child ≡ Some s
    child_up s child others e =
        up_parent w child ∙ (subst (λ (cs : List ℕ). AllByRecursion (λ (t : ℕ). parent_of w.scopes t ≡ Some s) cs) e (children_know w work r st s)).0

    none_by : (s : ℕ) (cs : List ℕ) → above_scope w wood s ≤ 0 → children_at w s ≡ cs → children_at w s ≡ []
    none_by s [] few e = e
    none_by s (c ∷ cs) few e = let less = child_falls w wood s c cs e in absurd (omega (arith, few, less))

    deeper : (s c l : ℕ) → height_of w.scopes c ≡ height_of w.scopes s + 1 → (l ≡ c) ⊎ (height_of w.scopes c < height_of w.scopes l) → height_of w.scopes s < height_of w.scopes l
    deeper s c l step (inl same) = let level : height_of w.scopes l ≡ height_of w.scopes c = ap (λ (i : ℕ). height_of w.scopes i) same in omega (arith, level, step)
    deeper s c l step (inr low) = omega (arith, low, step)

    leaf_down : (n s : ℕ) (cs : List ℕ) → children_at w s ≡ cs → ((c : ℕ) (others : List ℕ) → children_at w s ≡ c ∷ others → LeafOf w c (first_leaf w n c))
        → LeafOf w s (elim cs as (λ z. ℕ) [ [] ↦ s | t ∷ ts ↦ first_leaf w n t ])
    leaf_down n s [] e h = record { none_below = e; path = []; climb = refl; deep = inl refl }
    leaf_down n s (c ∷ cs) e h =
        let l : LeafOf w c (first_leaf w n c) = h c cs e in
        record {
          none_below = l.none_below;
          path = l.path ++ s ∷ [];
          climb = climb_more w l.path (first_leaf w n c) c s l.climb (child_up s c cs e);
          deep = inr (deeper s c (first_leaf w n c) (first_height w wood s c cs e) l.deep);
        }

    leaf_by : (n s : ℕ) → above_scope w wood s ≤ n → LeafOf w s (first_leaf w n s)
    leaf_by zero s few = record { none_below = none_by s (children_at w s) few refl; path = []; climb = refl; deep = inl refl }
    leaf_by (suc n) s few =
        leaf_down n s (children_at w s) refl (λ c cs e. let less = child_falls w wood s c cs e in leaf_by n c (omega (arith, few, less)))

    -- what a removal takes first
    pub leaf_found : (s : ℕ) → LeafOf w s (next_removed w s)
    leaf_found s = leaf_by (length w.scopes) s (above_all (height_of w.scopes s) w.scopes)

    module _ (v : State K) (l t0 s0 : ℕ) (a0 : SideName) (rest : List (Item K)) (h : Woven w (Drop t0 s0 a0 ∷ rest)) (leaf : LeafOf w t0 l) (took : TookOne w l v) where
      -- every other scope is as it was
      same_twig : (t : ℕ) → nat_eq l t ≡ false → twig (at v.scopes t) ≡ twig (at w.scopes t)
      same_twig t other = same_framed (at v.scopes t) (at w.scopes t) (took.others t other)

      lives : (t : ℕ) → nat_eq l t ≡ false → is_live w t ≡ true → is_live v t ≡ true
      lives t other live = live_by w v t (same_twig t other) ∙ live

      kid_kept : (t k : ℕ) (b : SideName) (q : Place) (o : Option ℕ) → nat_eq l t ≡ false → child_at (kids w t b) q ≡ o → child_at (kids v t b) q ≡ o
      kid_kept t k b q o other e = ap (λ (z : Side K). child_at z.children q) (side_by w v t b (same_twig t other)) ∙ e

      slot_kept : (t : ℕ) (b : SideName) (q : Place) → nat_eq l t ≡ false → HasSlot w t b q → HasSlot v t b q
      slot_kept t b q other e =
          (e.0, subst (λ (z : Side K). Among (spots_of z.output) (component_at q e.0)) (sym (side_by w v t b (same_twig t other))) e.1)

      -- the scope that is dropped stands one level above the owner, and the leaf no less
      drop_height : height_of w.scopes t0 ≡ height_of w.scopes s0 + 1
      drop_height = up_height w work r st t0 s0 h.stack.1.1 h.stack.0

      leaf_height : height_of w.scopes s0 + 1 ≤ height_of w.scopes l
      leaf_height = leaf_above leaf.deep
        where
          leaf_above : (l ≡ t0) ⊎ (height_of w.scopes t0 < height_of w.scopes l) → height_of w.scopes s0 + 1 ≤ height_of w.scopes l
          leaf_above (inl same) =
              let level : height_of w.scopes l ≡ height_of w.scopes t0 = ap (λ (i : ℕ). height_of w.scopes i) same in
              let up0 = up_height w work r st t0 s0 h.stack.1.1 h.stack.0 in
              omega (arith, level, up0)
          leaf_above (inr low) = let up0 = up_height w work r st t0 s0 h.stack.1.1 h.stack.0 in omega (arith, low, up0)

      -- what is lower than the leaf is another scope
      lower_other : (t : ℕ) → height_of w.scopes t < height_of w.scopes l → nat_eq l t ≡ false
      lower_other t low =
          by_test (nat_eq l t)
          (λ q. let level : height_of w.scopes l ≡ height_of w.scopes t = ap (λ (i : ℕ). height_of w.scopes i) (eqb-true l t q) in absurd (omega (arith, low, level)))
          (λ q. q)

      -- the owner of a later item is no higher than that of the drop
      after_low : (j : Item K) → After w (Drop t0 s0 a0) j → height_of w.scopes (owner j) ≤ height_of w.scopes s0
      after_low j (inl low) = omega (arith, low)
      after_low j (inr same) = let level : height_of w.scopes (owner j) ≡ height_of w.scopes s0 = ap (λ (i : ℕ). height_of w.scopes i) same.0 in omega (arith, level)

      owner_other : (j : Item K) → After w (Drop t0 s0 a0) j → nat_eq l (owner j) ≡ false
      owner_other j after = let low = after_low j after in let high = leaf_height in lower_other (owner j) (omega (arith, low, high))

      feed_other : (t k : ℕ) (b : SideName) (q : Place) (d : VComponent K) → After w (Drop t0 s0 a0) (Feed t b q d) → is_live w t ≡ true → child_at (kids w t b) q ≡ Some k → is_live w k ≡ true → nat_eq l k ≡ false
      feed_other t k b q d (inl low) live e alive =
          let high = leaf_height in
          let step = up_height w work r st k t (kid_up w work r st t k b q e alive).0 live in
          lower_other k (omega (arith, low, high, step))
      feed_other t k b q d (inr same) live e alive = absurd same.1

      drop_other : (k t : ℕ) (b : SideName) → After w (Drop t0 s0 a0) (Drop k t b) → is_live w t ≡ true → up w k ≡ Some t → nat_eq l k ≡ false
      drop_other k t b (inl low) live e =
          let high = leaf_height in
          let step = up_height w work r st k t e live in
          lower_other k (omega (arith, low, high, step))
      drop_other k t b (inr same) live e = by_depth leaf.deep
        where
          by_depth : (l ≡ t0) ⊎ (height_of w.scopes t0 < height_of w.scopes l) → nat_eq l k ≡ false
          by_depth (inl here) = ap (λ (i : ℕ). nat_eq i k) here ∙ same.1
          by_depth (inr low) =
              let step = up_height w work r st k t e live in
              let own : height_of w.scopes t ≡ height_of w.scopes s0 = ap (λ (i : ℕ). height_of w.scopes i) same.0 in
              let up0 = up_height w work r st t0 s0 h.stack.1.1 h.stack.0 in
              lower_other k (omega (arith, step, own, up0, low))

      fits_taken : (j : Item K) → is_live w (owner j) ≡ true → After w (Drop t0 s0 a0) j → Fits w j → Fits v j
      fits_taken (Draw t b q k) live after f = tt
      fits_taken (Row t step) live after f = tt
      fits_taken (Feed t b q d) live after f =
          let other = owner_other (Feed t b q d) after in
          (f.0, kid_kept t f.0 b q (Some f.0) other f.1, lives f.0 (feed_other t f.0 b q d after live f.1 f.2) f.2)
      fits_taken (Make t b q d) live after f =
          let other = owner_other (Make t b q d) after in
          (kid_kept t t b q None other f.0, slot_kept t b q other f.1)
      fits_taken (Drop k t b) live after f =
          let other = owner_other (Drop k t b) after in
          let child = drop_other k t b after live f.1 in (
            lives k child f.0,
            up_by w v k (same_twig k child) ∙ f.1,
            below_by w v k (same_twig k child) ∙ f.2,
            λ q e. f.3 q (sym (ap (λ (z : Side K). child_at z.children q) (side_by w v t b (same_twig t other))) ∙ e),
          )

      after_taken : (i j : Item K) → nat_eq l (owner i) ≡ false → nat_eq l (owner j) ≡ false → After w i j → After v i j
      after_taken i j f g (inl low) =
          let x1 = height_by w v (owner j) (same_twig (owner j) g) in
          let x2 = height_by w v (owner i) (same_twig (owner i) f) in
          inl (omega (arith, low, x1, x2))
      after_taken i j f g (inr same) = inr same

      afters_taken : (i : Item K) (js : List (Item K)) → nat_eq l (owner i) ≡ false → AllByRecursion (λ (j : Item K). After w (Drop t0 s0 a0) j) js → AllByRecursion (λ (j : Item K). After w i j) js
          → AllByRecursion (λ (j : Item K). After v i j) js
      afters_taken i [] f g t = tt
      afters_taken i (j ∷ js) f g t = (after_taken i j f (owner_other j g.0) t.0, afters_taken i js f g.1 t.1)

      stack_taken : (js : List (Item K)) → AllByRecursion (λ (j : Item K). After w (Drop t0 s0 a0) j) js → Stack w js → Stack v js
      stack_taken [] g t = tt
      stack_taken (j ∷ js) g t =
          let other = owner_other j g.0 in
          (lives (owner j) other t.0, fits_taken j t.0 g.0 t.1, afters_taken j js other g.1 t.2, stack_taken js g.1 t.3)

      drop_low : (t p : ℕ) (b : SideName) → Among (Drop t0 s0 a0 ∷ rest) (Drop t p b) → height_of w.scopes p ≤ height_of w.scopes s0
      drop_low t p b (inl e) =
          let same : s0 ≡ p = ap (λ (i : Item K). owner i) e in
          let level : height_of w.scopes s0 ≡ height_of w.scopes p = ap (λ (i : ℕ). height_of w.scopes i) same in
          omega (arith, level)
      drop_low t p b (inr g) = after_low (Drop t p b) (every_among (λ (j : Item K). After w (Drop t0 s0 a0) j) rest (Drop t p b) h.stack.2 g)

      child_of_leaf : {P : Type 0} (k : ℕ) → is_live w k ≡ true → InSlot w k l ⊎ ((b : SideName) × Among (Drop t0 s0 a0 ∷ rest) (Drop k l b)) → P
      child_of_leaf k live (inl i) = absurd (subst (λ (cs : List ℕ). Among cs k) leaf.none_below (slot_child w l k i.side i.place i.slot i.kid live))
      child_of_leaf k live (inr d) = let low = drop_low k l d.0 d.1 in let high = leaf_height in absurd (omega (arith, low, high))

      -- no live scope is a child of the leaf
      no_child : {P : Type 0} (k : ℕ) → up w k ≡ Some l → P
      no_child k e = child_of_leaf k (live_up w k l e) (h.attached k l e).1

      -- the leaf itself has no parent any more
      leaf_gone : {P : Type 0} (k p : ℕ) → nat_eq l k ≡ true → up v k ≡ Some p → P
      leaf_gone k p q e =
          let none : up v k ≡ None =
          ap (λ (i : ℕ). up v i) (sym (eqb-true l k q)) ∙ ap (λ (o : Option (Scope K)). twig_up (twig o)) took.gone in
          let absurdity : None ≡ Some p = sym none ∙ e in
          cc

      in_slot_taken : (k p : ℕ) → nat_eq l k ≡ false → nat_eq l p ≡ false → InSlot w k p → InSlot v k p
      in_slot_taken k p f g i =
          record {
            side = i.side;
            place = i.place;
            below_is = below_by w v k (same_twig k f) ∙ i.below_is;
            slot = slot_kept p i.side i.place g i.slot;
            kid = kid_kept p k i.side i.place (Some k) g i.kid;
          }

      attached_taken : (after : List (Item K)) → ((k p : ℕ) (b : SideName) → nat_eq l k ≡ false → Among (Drop t0 s0 a0 ∷ rest) (Drop k p b) → Among after (Drop k p b)) → Attached v after
      attached_taken after kept k p e =
          by_test (nat_eq l k)
          (λ q. leaf_gone k p q e)
          (
          λ other.
          let up_old : up w k ≡ Some p = sym (up_by w v k (same_twig k other)) ∙ e in
          let was = h.attached k p up_old in
          let parent : nat_eq l p ≡ false =
          by_test (nat_eq l p) (λ q. no_child k (up_old ∙ ap (λ (i : ℕ). Some i) (sym (eqb-true l p q)))) (λ q. q) in
          (lives p parent was.0, elim was.1 [ inl i ↦ inl (in_slot_taken k p other parent i) | inr d ↦ inr (d.0, kept k p d.0 other d.1) ])
          )

      -- the way up from a scope that stays
      climb_kept : (path : List ℕ) (s t : ℕ) → Climb w path s t → nat_eq l s ≡ false → Climb v path s t
      climb_kept [] s t c other = c
      climb_kept (p ∷ path) s t c other =
          let parent : nat_eq l p ≡ false =
          by_test (nat_eq l p) (λ q. no_child s (c.0 ∙ ap (λ (i : ℕ). Some i) (sym (eqb-true l p q)))) (λ q. q) in
          (up_by w v s (same_twig s other) ∙ c.0, climb_kept path p t c.1 parent)

      -- who stands below the leaf is the leaf itself
      climb_leaf : {P : Type 0} (path : List ℕ) (s : ℕ) → Climb w path s l → nat_eq l s ≡ false → P
      climb_leaf [] s c other = let absurdity : true ≡ false = sym (eq_same l) ∙ ap (λ (i : ℕ). nat_eq l i) (sym c) ∙ other in cc
      climb_leaf (p ∷ path) s c other =
          by_test (nat_eq l p)
          (λ q. no_child s (c.0 ∙ ap (λ (i : ℕ). Some i) (sym (eqb-true l p q))))
          (λ q. climb_leaf path p c.1 q)

      slots_gone : {P : Type 0} (s : ℕ) (b : SideName) (p : Place) (c : VComponent K) → nat_eq l s ≡ true → Among (slots v s b) (component_at p c) → P
      slots_gone s b p c q e =
          let none : slots v s b ≡ [] =
          ap (λ (i : ℕ). slots v i b) (sym (eqb-true l s q)) ∙ ap (λ (o : Option (Scope K)). spots_of (twig_side b (twig o)).output) took.gone ∙ empty_spots b in
          absurd (subst (λ xs. Among xs (component_at p c)) none e)

      has_kid_kept : (s k : ℕ) (b : SideName) (p : Place) → nat_eq l s ≡ false → nat_eq l k ≡ false → child_at (kids w s b) p ≡ Some k → is_live w k ≡ true → HasKid v s b p
      has_kid_kept s k b p other child e live = (k, kid_kept s k b p (Some k) other e, lives k child live)

      -- by what the parent of the leaf is told
      filled_taken : (after : List (Item K))
          → ((s : ℕ) (b : SideName) (p : Place) → ToMake (Drop t0 s0 a0 ∷ rest) s b p → ToMake after s b p)
          → ((s : ℕ) (b : SideName) (p : Place) → child_at (kids w s b) p ≡ Some l → is_live w l ≡ true → nat_eq l s ≡ false → Falls v after s)
          → ((s : ℕ) → Falls w (Drop t0 s0 a0 ∷ rest) s → nat_eq l s ≡ false → Falls v after s)
          → Filled v after
      filled_taken after makes parent falls s b p c e =
          by_test (nat_eq l s)
          (λ q. slots_gone s b p c q e)
          (
          λ other.
          elim (h.filled s b p c (subst (λ (z : Side K). Among (spots_of z.output) (component_at p c)) (side_by w v s b (same_twig s other)) e)) [
            | inl f ↦ kid_or_make s b p other f
            | inr f ↦ inr (falls s f other)
          ]
          )
        where
          kid_or_make : (s : ℕ) (b : SideName) (p : Place) → nat_eq l s ≡ false → HasKid w s b p ⊎ ToMake (Drop t0 s0 a0 ∷ rest) s b p → (HasKid v s b p ⊎ ToMake after s b p) ⊎ Falls v after s
          kid_or_make s b p other (inr m) = inl (inr (makes s b p m))
          kid_or_make s b p other (inl k) =
              by_test (nat_eq l k.0)
              (
              λ q.
              let same : l ≡ k.0 = eqb-true l k.0 q in
              inr (parent s b p (k.1 ∙ ap (λ (i : ℕ). Some i) (sym same)) (ap (λ (i : ℕ). is_live w i) same ∙ k.2) other)
              )
              (λ child. inl (inl (has_kid_kept s k.0 b p other child k.1 k.2)))

      not_make : (s : ℕ) (b : SideName) (p : Place) → ToMake (Drop t0 s0 a0 ∷ rest) s b p → ToMake rest s b p
      not_make s b p (d, inl e) = cc
      not_make s b p (d, inr g) = (d, g)

      -- a scope below the one that is dropped went
      pub below_went : nat_eq l t0 ≡ false → Woven v (Drop t0 s0 a0 ∷ rest)
      below_went deeper =
          let high = leaf_height in
          let owner_stays : nat_eq l s0 ≡ false = lower_other s0 (omega (arith, high)) in
          let item : Fits v (Drop t0 s0 a0) = (
            lives t0 deeper h.stack.1.0,
            up_by w v t0 (same_twig t0 deeper) ∙ h.stack.1.1,
            below_by w v t0 (same_twig t0 deeper) ∙ h.stack.1.2,
            λ q e. h.stack.1.3 q (sym (ap (λ (z : Side K). child_at z.children q) (side_by w v s0 a0 (same_twig s0 owner_stays))) ∙ e),
          ) in
          record {
            stack = (lives s0 owner_stays h.stack.0, item, afters_taken (Drop t0 s0 a0) rest owner_stays h.stack.2 h.stack.2, stack_taken rest h.stack.2 h.stack.3);
            attached = attached_taken (Drop t0 s0 a0 ∷ rest) (λ k p b other g. g);
            filled =
                filled_taken (Drop t0 s0 a0 ∷ rest) (λ s b p m. m)
                (λ s b p e live other. parent_falls leaf.path leaf.climb s b p e live other)
                (λ s f other. (f.0, climb_kept f.0 s t0 f.1 other));
          }
        where
          parent_falls : (path : List ℕ) → Climb w path l t0 → (s : ℕ) (b : SideName) (p : Place) → child_at (kids w s b) p ≡ Some l → is_live w l ≡ true → nat_eq l s ≡ false
              → (way : List ℕ) × Climb v way s t0
          parent_falls [] c s b p e live other = let absurdity : true ≡ false = sym (eq_same l) ∙ ap (λ (i : ℕ). nat_eq l i) c ∙ deeper in cc
          parent_falls (q ∷ path) c s b p e live other =
              let same : q ≡ s = some_number q s (sym c.0 ∙ (kid_up w work r st s l b p e live).0) in
              (path, subst (λ (i : ℕ). Climb v path i t0) same (climb_kept path q t0 c.1 (ap (λ (i : ℕ). nat_eq l i) same ∙ other)))

      -- the scope that is dropped went itself
      pub itself_went : l ≡ t0 → Woven v rest
      itself_went same =
          record {
            stack = stack_taken rest h.stack.2 h.stack.3;
            attached = attached_taken rest (λ k p b other g. other_drop k p b other g);
            filled =
                filled_taken rest (λ s b p m. not_make s b p m)
                (λ s b p e live other. absurd (no_parent s b p e live))
                (λ s f other. climb_leaf f.0 s (subst (λ (i : ℕ). Climb w f.0 s i) (sym same) f.1) other);
          }
        where
          other_drop : (k p : ℕ) (b : SideName) → nat_eq l k ≡ false → Among (Drop t0 s0 a0 ∷ rest) (Drop k p b) → Among rest (Drop k p b)
          other_drop k p b other (inr g) = g
          other_drop k p b other (inl e) =
              let child : t0 ≡ k = ap (λ (i : Item K). dropped_by i) e in
              let absurdity : true ≡ false = sym (eq_same l) ∙ ap (λ (i : ℕ). nat_eq l i) (same ∙ child) ∙ other in
              cc

          no_parent : (s : ℕ) (b : SideName) (p : Place) → child_at (kids w s b) p ≡ Some l → is_live w l ≡ true → ⊥
          no_parent s b p e live =
              let knows = kid_up w work r st s l b p e live in
              let at_owner : s ≡ s0 = some_number s s0 (sym knows.0 ∙ ap (λ (i : ℕ). up w i) same ∙ h.stack.1.1) in
              let at_side : b ≡ a0 = some_side b a0 (sym knows.1 ∙ ap (λ (i : ℕ). below w i) same ∙ h.stack.1.2) in
              h.stack.1.3 p
              (
              sym (ap (λ (i : SideName). child_at (kids w s0 i) p) at_side)
              ∙ sym (ap (λ (i : ℕ). child_at (kids w i b) p) at_owner)
              ∙ e
              ∙ ap (λ (i : ℕ). Some i) same
              )
