-- A scope is made in a slot: the open work fits the tree as before, and the new scope stands apart from it.
use Rattle.std.proofs.Common.{ℕ, ◌+◌, ◌<◌, true, false, List, [], ◌∷◌, ◌++◌, ◌≡◌, ◌⊎◌, inl, inr, refl, sym, ap, ◌∙◌, subst, arith, nat_eq}
use Rattle.std.specs.Prelude.{Option, Some, None, is_some, if◌then◌else◌}
use Rattle.std.specs.List.{AllByRecursion}
use Rattle.std.proofs.lemmas.Bool.{eqb-true}
use Rattle.rt_model.specs.Lists.{at, put}
use Rattle.rt_model.specs.Tree.{Types, Place, same_place, VComponent, component_at}
use Rattle.rt_model.specs.State.{SideName, MainSide, ChildrenSide, FallbackSide, Side, Scope, State, Item, Draw, Row, Feed, Make, Drop, side_of, with_side, new_scope, empty_side, is_live, height_of}
use Rattle.rt_model.specs.Run.{child_at, spots_of}
use Rattle.rt_model.specs.Replay.{with_child, with_new_scope}
use Rattle.rt_model.proofs.Maps.{by_test, eq_same, pick_true, pick_false, at_put_other, at_put_here}
use Rattle.rt_model.proofs.Among.{Among, place_same}
use Rattle.rt_model.proofs.SamePlaces.{same_place-true}
use Rattle.law_moves.proofs.Twigs.{bare, twig, twig_up, twig_below, twig_side, up, below, side_at, kids, slots, HasSlot, side_found, height_found}
use Rattle.law_moves.proofs.Woven.{owner, Fits, After, Stack, InSlot, Attached, HasKid, ToMake, Full, Whole}
use Rattle.law_moves.proofs.Lists.{some_number}
use Rattle.law_moves.proofs.Patched.{by_side, Idle}

-- a child that joins the end is found where there was none, and the others stay
pub kid_stays : (xs : List (Place × ℕ)) (f : Place × ℕ) (p : Place) (t : ℕ) → child_at xs p ≡ Some t → child_at (xs ++ f ∷ []) p ≡ Some t
kid_stays [] f p t h = cc
kid_stays (e ∷ xs) f p t h =
    by_test (same_place e.0 p)
    (λ q. pick_true (Some e.1) (child_at (xs ++ f ∷ []) p) q ∙ sym (pick_true (Some e.1) (child_at xs p) q) ∙ h)
    (λ q. pick_false (Some e.1) (child_at (xs ++ f ∷ []) p) q ∙ kid_stays xs f p t (sym (pick_false (Some e.1) (child_at xs p) q) ∙ h))

pub kid_joins : (xs : List (Place × ℕ)) (p : Place) (t : ℕ) → child_at xs p ≡ None → child_at (xs ++ (p, t) ∷ []) p ≡ Some t
kid_joins [] p t h = pick_true (Some t) None (place_same p)
kid_joins (e ∷ xs) p t h =
    by_test (same_place e.0 p)
    (λ q. let absurdity : Some e.1 ≡ None = sym (pick_true (Some e.1) (child_at xs p) q) ∙ h in cc)
    (λ q. pick_false (Some e.1) (child_at (xs ++ (p, t) ∷ []) p) q ∙ kid_joins xs p t (sym (pick_false (Some e.1) (child_at xs p) q) ∙ h))

pub none_stays : (xs : List (Place × ℕ)) (p q : Place) (t : ℕ) → (p ≡ q → ⊥) → child_at xs q ≡ None → child_at (xs ++ (p, t) ∷ []) q ≡ None
none_stays [] p q t n h =
    by_test (same_place p q) (λ s. absurd (n (same_place-true p q s))) (λ s. pick_false (Some t) None s)
none_stays (e ∷ xs) p q t n h =
    by_test (same_place e.0 q)
    (λ s. let absurdity : Some e.1 ≡ None = sym (pick_true (Some e.1) (child_at xs q) s) ∙ h in cc)
    (λ s. pick_false (Some e.1) (child_at (xs ++ (p, t) ∷ []) q) s ∙ none_stays xs p q t n (sym (pick_false (Some e.1) (child_at xs q) s) ∙ h))

pub kid_was : (xs : List (Place × ℕ)) (f : Place × ℕ) (p : Place) (t : ℕ) → child_at (xs ++ f ∷ []) p ≡ Some t → (child_at xs p ≡ Some t) ⊎ (f.1 ≡ t)
kid_was [] f p t h =
    by_test (same_place f.0 p)
    (λ q. inr (some_number f.1 t (sym (pick_true (Some f.1) None q) ∙ h)))
    (λ q. let absurdity : None ≡ Some t = sym (pick_false (Some f.1) None q) ∙ h in cc)
kid_was (e ∷ xs) f p t h =
    by_test (same_place e.0 p)
    (λ q. inl (pick_true (Some e.1) (child_at xs p) q ∙ sym (pick_true (Some e.1) (child_at (xs ++ f ∷ []) p) q) ∙ h))
    (
    λ q.
    elim (kid_was xs f p t (sym (pick_false (Some e.1) (child_at (xs ++ f ∷ []) p) q) ∙ h)) [
      | inl g ↦ inl (pick_false (Some e.1) (child_at xs p) q ∙ g)
      | inr g ↦ inr g
    ]
    )

module _ {K : Types} where
  abbrev side_named : Item K → SideName
  side_named (Draw s a p k) = a
  side_named (Row b step) = MainSide
  side_named (Feed s a p c) = a
  side_named (Make s a p c) = a
  side_named (Drop t s a) = a

  abbrev place_named : Item K → Place
  place_named (Draw s a p k) = p
  place_named (Row b step) = []
  place_named (Feed s a p c) = p
  place_named (Make s a p c) = p
  place_named (Drop t s a) = []

  at_joined : (xs : List (ℕ × Scope K)) (n : ℕ) (x : Scope K) (s : ℕ) → nat_eq n s ≡ false → at (xs ++ (n, x) ∷ []) s ≡ at xs s
  at_joined [] n x s q = pick_false (Some x) None q
  at_joined (e ∷ xs) n x s q = ap (λ (o : Option (Scope K)). if nat_eq e.0 s then Some e.1 else o) (at_joined xs n x s q)

  at_new : (xs : List (ℕ × Scope K)) (n : ℕ) (x : Scope K) → at xs n ≡ None → at (xs ++ (n, x) ∷ []) n ≡ Some x
  at_new [] n x e = pick_true (Some x) None (eq_same n)
  at_new (d ∷ xs) n x e =
      by_test (nat_eq d.0 n)
      (λ q. let absurdity : Some d.1 ≡ None = sym (pick_true (Some d.1) (at xs n) q) ∙ e in cc)
      (λ q. pick_false (Some d.1) (at (xs ++ (n, x) ∷ []) n) q ∙ at_new xs n x (sym (pick_false (Some d.1) (at xs n) q) ∙ e))

  pub other_side : (x : Scope K) (a b : SideName) (z : Side K) → (b ≡ a → ⊥) → side_of (with_side x a z) b ≡ side_of x b
  other_side x MainSide MainSide z n = absurd (n refl)
  other_side x ChildrenSide ChildrenSide z n = absurd (n refl)
  other_side x FallbackSide FallbackSide z n = absurd (n refl)
  other_side x MainSide ChildrenSide z n = refl
  other_side x MainSide FallbackSide z n = refl
  other_side x ChildrenSide MainSide z n = refl
  other_side x ChildrenSide FallbackSide z n = refl
  other_side x FallbackSide MainSide z n = refl
  other_side x FallbackSide ChildrenSide z n = refl

  pub that_side : (x : Scope K) (a : SideName) (z : Side K) → side_of (with_side x a z) a ≡ z
  that_side x MainSide z = refl
  that_side x ChildrenSide z = refl
  that_side x FallbackSide z = refl

  pub same_rest : (x : Scope K) (a : SideName) (z : Side K) → ((with_side x a z).parent ≡ x.parent) × ((with_side x a z).height ≡ x.height) × ((with_side x a z).below ≡ x.below)
  same_rest x MainSide z = (refl, refl, refl)
  same_rest x ChildrenSide z = (refl, refl, refl)
  same_rest x FallbackSide z = (refl, refl, refl)

  new_side : (c : VComponent K) (parent : Option ℕ) (height : ℕ) (under a : SideName) → side_of (new_scope c parent height under) a ≡ empty_side
  new_side c parent height under MainSide = refl
  new_side c parent height under ChildrenSide = refl
  new_side c parent height under FallbackSide = refl

  module _ (w : State K) (s : ℕ) (a : SideName) (p : Place) (c : VComponent K) (x : Scope K) (found : at w.scopes s ≡ Some x) (fresh : at w.scopes w.next_scope ≡ None) where
    abbrev n : ℕ
    n = w.next_scope

    abbrev pub v : State K
    v = with_new_scope w s a p c x

    abbrev y : Scope K
    y = with_child a p n x

    differs : nat_eq n s ≡ false
    differs =
        by_test (nat_eq n s)
        (λ q. let absurdity : None ≡ Some x = sym fresh ∙ ap (λ (i : ℕ). at w.scopes i) (eqb-true n s q) ∙ found in cc)
        (λ q. q)

    pub at_parent : at v.scopes s ≡ Some y
    at_parent = at_joined (put w.scopes s y) n (new_scope c (Some s) (x.height + 1) a) s differs ∙ at_put_here w.scopes s y s (eq_same s)

    at_other : (t : ℕ) → nat_eq n t ≡ false → nat_eq s t ≡ false → at v.scopes t ≡ at w.scopes t
    at_other t p1 q1 = at_joined (put w.scopes s y) n (new_scope c (Some s) (x.height + 1) a) t p1 ∙ at_put_other w.scopes s y t q1

    differs_back : nat_eq s n ≡ false
    differs_back =
        by_test (nat_eq s n)
        (λ q. let absurdity : true ≡ false = sym (eq_same n) ∙ ap (λ (i : ℕ). nat_eq n i) (sym (eqb-true s n q)) ∙ differs in cc)
        (λ q. q)

    pub at_child : at v.scopes n ≡ Some (new_scope c (Some s) (x.height + 1) a)
    at_child = at_new (put w.scopes s y) n (new_scope c (Some s) (x.height + 1) a) (at_put_other w.scopes s y n differs_back ∙ fresh)

    pub is_new : (t : ℕ) → is_live w t ≡ true → nat_eq n t ≡ false
    is_new t live =
        by_test (nat_eq n t)
        (
        λ q.
        let gone : is_live w t ≡ false = ap (λ (i : ℕ). is_some (at w.scopes i)) (sym (eqb-true n t q)) ∙ ap (λ (o : Option (Scope K)). is_some o) fresh in
        let absurdity : true ≡ false = sym live ∙ gone in
        cc
        )
        (λ q. q)

    -- any scope but the new one is as it was, but for the one slot

    pub part : {A : Type 0} (g : Option (Scope K) → A) (t : ℕ) → nat_eq n t ≡ false → g (Some y) ≡ g (Some x) → g (at v.scopes t) ≡ g (at w.scopes t)
    part g t old e =
        by_test (nat_eq s t)
        (
        λ q.
        ap (λ (i : ℕ). g (at v.scopes i)) (sym (eqb-true s t q)) ∙ ap g at_parent ∙ e ∙ sym (ap g found) ∙ ap (λ (i : ℕ). g (at w.scopes i)) (eqb-true s t q)
        )
        (λ q. ap g (at_other t old q))

    abbrev z : Side K
    z = record (side_of x a) { children = (side_of x a).children ++ (p, n) ∷ [] }

    pub lives : (t : ℕ) → nat_eq n t ≡ false → is_live v t ≡ is_live w t
    lives t old = part (λ (o : Option (Scope K)). is_some o) t old refl

    pub heights : (t : ℕ) → nat_eq n t ≡ false → height_of v.scopes t ≡ height_of w.scopes t
    heights t old = part (λ (o : Option (Scope K)). elim o as (λ i. ℕ) [ None ↦ 0 | Some i ↦ i.height ]) t old (same_rest x a z).1

    ups : (t : ℕ) → nat_eq n t ≡ false → up v t ≡ up w t
    ups t old = part (λ (o : Option (Scope K)). twig_up (twig o)) t old (same_rest x a z).0

    belows : (t : ℕ) → nat_eq n t ≡ false → below v t ≡ below w t
    belows t old = part (λ (o : Option (Scope K)). twig_below (twig o)) t old (ap Some (same_rest x a z).2)

    side_here : side_at v s a ≡ bare z
    side_here = side_found v s a y at_parent ∙ ap (λ (i : Side K). bare i) (that_side x a z)

    pub side_else : (t : ℕ) (b : SideName) → nat_eq n t ≡ false → (t ≡ s → b ≡ a → ⊥) → side_at v t b ≡ side_at w t b
    side_else t b old other =
        by_test (nat_eq s t)
        (
        λ q.
        let same : s ≡ t = eqb-true s t q in
        ap (λ (i : ℕ). side_at v i b) (sym same)
        ∙ side_found v s b y at_parent
        ∙ ap (λ (i : Side K). bare i) (other_side x a b z (λ e. other (sym same) e))
        ∙ sym (side_found w s b x found)
        ∙ ap (λ (i : ℕ). side_at w i b) same
        )
        (λ q. ap (λ (o : Option (Scope K)). twig_side b (twig o)) (at_other t old q))

    pub side_child : (b : SideName) → side_at v n b ≡ empty_side
    side_child b = side_found v n b (new_scope c (Some s) (x.height + 1) a) at_child ∙ ap (λ (i : Side K). bare i) (new_side c (Some s) (x.height + 1) a b)

    pub kids_here : kids v s a ≡ kids w s a ++ (p, n) ∷ []
    kids_here =
        ap (λ (i : Side K). i.children) side_here ∙ sym (ap (λ (i : Side K). i.children ++ (p, n) ∷ []) (side_found w s a x found))

    pub slots_else : (t : ℕ) (b : SideName) → nat_eq n t ≡ false → slots v t b ≡ slots w t b
    slots_else t b old =
        by_side t s b a
        (
        λ here.
        ap (λ (i : ℕ). slots v i b) here.0
        ∙ ap (λ (i : SideName). slots v s i) here.1
        ∙ ap (λ (i : Side K). spots_of i.output) side_here
        ∙ sym (ap (λ (i : Side K). spots_of i.output) (side_found w s a x found))
        ∙ sym (ap (λ (i : SideName). slots w s i) here.1)
        ∙ sym (ap (λ (i : ℕ). slots w i b) here.0)
        )
        (λ other. ap (λ (i : Side K). spots_of i.output) (side_else t b old other))

    kid_else : (t : ℕ) (b : SideName) (q : Place) (o : Option ℕ) → nat_eq n t ≡ false → (t ≡ s → b ≡ a → ⊥) → child_at (kids w t b) q ≡ o → child_at (kids v t b) q ≡ o
    kid_else t b q o old other e = ap (λ (i : Side K). child_at i.children q) (side_else t b old other) ∙ e

    -- what a scope had in a slot it has
    kid_kept : (t : ℕ) (b : SideName) (q : Place) (k : ℕ) → nat_eq n t ≡ false → child_at (kids w t b) q ≡ Some k → child_at (kids v t b) q ≡ Some k
    kid_kept t b q k old e =
        by_side t s b a
        (
        λ here.
        let there : child_at (kids w s a) q ≡ Some k = sym (ap (λ (i : SideName). child_at (kids w s i) q) here.1) ∙ sym (ap (λ (i : ℕ). child_at (kids w i b) q) here.0) ∙ e in
        ap (λ (i : ℕ). child_at (kids v i b) q) here.0
        ∙ ap (λ (i : SideName). child_at (kids v s i) q) here.1
        ∙ ap (λ (xs : List (Place × ℕ)). child_at xs q) kids_here
        ∙ kid_stays (kids w s a) (p, n) q k there
        )
        (λ other. kid_else t b q (Some k) old other e)

    has_kid_kept : (t : ℕ) (b : SideName) (q : Place) → nat_eq n t ≡ false → HasKid w t b q → HasKid v t b q
    has_kid_kept t b q old h = (h.0, kid_kept t b q h.0 old h.1, lives h.0 (is_new h.0 h.2) ∙ h.2)

    has_slot_kept : (t : ℕ) (b : SideName) (q : Place) → nat_eq n t ≡ false → HasSlot w t b q → HasSlot v t b q
    has_slot_kept t b q old h = (h.0, subst (λ xs. Among xs (component_at q h.0)) (sym (slots_else t b old)) h.1)

    child_height : height_of v.scopes n ≡ x.height + 1
    child_height = height_found v n (new_scope c (Some s) (x.height + 1) a) at_child

    module _ (rest : List (Item K)) (h : Whole w (Make s a p c ∷ rest)) where
      not_this_place : (t : ℕ) (b : SideName) (q : Place) (d : VComponent K) → After w (Make s a p c) (Make t b q d) → (t ≡ s) × (b ≡ a) → p ≡ q → ⊥
      not_this_place t b q d (inl low) here place = let level : height_of w.scopes t ≡ height_of w.scopes s = ap (λ (i : ℕ). height_of w.scopes i) here.0 in absurd (omega (arith, low, level))
      not_this_place t b q d (inr behind) here place = behind.1 (sym here.1) place

      fits_made : (j : Item K) → is_live w (owner j) ≡ true → After w (Make s a p c) j → Fits w j → Fits v j
      fits_made (Draw t b q k) live after f = tt
      fits_made (Row t step) live after f = tt
      fits_made (Feed t b q d) live after f = has_kid_kept t b q (is_new t live) f
      fits_made (Make t b q d) live after f =
          let old = is_new t live in
          let none : child_at (kids v t b) q ≡ None =
          by_side t s b a
          (
          λ here.
          let there : child_at (kids w s a) q ≡ None = sym (ap (λ (i : SideName). child_at (kids w s i) q) here.1) ∙ sym (ap (λ (i : ℕ). child_at (kids w i b) q) here.0) ∙ f.0 in
          ap (λ (i : ℕ). child_at (kids v i b) q) here.0
          ∙ ap (λ (i : SideName). child_at (kids v s i) q) here.1
          ∙ ap (λ (xs : List (Place × ℕ)). child_at xs q) kids_here
          ∙ none_stays (kids w s a) p q n (not_this_place t b q d after here) there
          )
          (λ other. kid_else t b q None old other f.0) in
          (none, has_slot_kept t b q old f.1)
      fits_made (Drop k t b) live after f =
          let old = is_new t live in
          let older = is_new k f.0 in
          let not_left : (q : Place) → child_at (kids v t b) q ≡ Some k → ⊥ =
          λ q e.
          by_side t s b a
          (
          λ here.
          let there : child_at (kids w s a ++ (p, n) ∷ []) q ≡ Some k =
          sym (ap (λ (xs : List (Place × ℕ)). child_at xs q) kids_here)
          ∙ sym (ap (λ (i : SideName). child_at (kids v s i) q) here.1)
          ∙ sym (ap (λ (i : ℕ). child_at (kids v i b) q) here.0)
          ∙ e in
          elim (kid_was (kids w s a) (p, n) q k there) [
            | inl g ↦ f.3 q (ap (λ (i : ℕ). child_at (kids w i b) q) here.0 ∙ ap (λ (i : SideName). child_at (kids w s i) q) here.1 ∙ g)
            | inr g ↦ same_number g older
          ]
          )
          (λ other. f.3 q (sym (ap (λ (i : Side K). child_at i.children q) (side_else t b old other)) ∙ e)) in
          (lives k older ∙ f.0, ups k older ∙ f.1, belows k older ∙ f.2, not_left)
        where
          same_number : {i k : ℕ} → i ≡ k → nat_eq i k ≡ false → ⊥
          same_number {i} g q = let absurdity : true ≡ false = sym (eq_same i) ∙ ap (λ (m : ℕ). nat_eq i m) g ∙ q in cc

      after_made : (i j : Item K) → is_live w (owner i) ≡ true → is_live w (owner j) ≡ true → After w i j → After v i j
      after_made i j f g (inl low) =
          let x1 = heights (owner j) (is_new (owner j) g) in
          let x2 = heights (owner i) (is_new (owner i) f) in
          inl (omega (arith, low, x1, x2))
      after_made i j f g (inr same) = inr same

      afters_made : (i : Item K) (js : List (Item K)) → is_live w (owner i) ≡ true → Stack w js → AllByRecursion (λ (j : Item K). After w i j) js → AllByRecursion (λ (j : Item K). After v i j) js
      afters_made i [] f g t = tt
      afters_made i (j ∷ js) f g t = (after_made i j f g.0 t.0, afters_made i js f g.3 t.1)

      stack_made : (js : List (Item K)) → Stack w js → AllByRecursion (λ (j : Item K). After w (Make s a p c) j) js → Stack v js
      stack_made [] g t = tt
      stack_made (j ∷ js) g t =
          (lives (owner j) (is_new (owner j) g.0) ∙ g.0, fits_made j g.0 t.0 g.1, afters_made j js g.0 g.3 g.2, stack_made js g.3 t.1)

      idle_made : (js : List (Item K)) → Stack w js → AllByRecursion (λ (j : Item K). After w (Make s a p c) j) js → Idle v n js
      idle_made [] g t = tt
      idle_made (j ∷ js) g t = (inl (lower t.0), idle_made js g.3 t.1)
        where
          lower : After w (Make s a p c) j → height_of v.scopes (owner j) < height_of v.scopes n
          lower (inl low) =
              let x1 = heights (owner j) (is_new (owner j) g.0) in
              let x2 = child_height in
              let x3 = height_found w s x found in
              omega (arith, low, x1, x2, x3)
          lower (inr same) =
              let x1 = heights (owner j) (is_new (owner j) g.0) in
              let x2 = child_height in
              let x3 = height_found w s x found in
              let x4 : height_of w.scopes (owner j) ≡ height_of w.scopes s = ap (λ (i : ℕ). height_of w.scopes i) same.0 in
              omega (arith, x1, x2, x3, x4)

      -- the new scope stands in its slot
      child_kid : child_at (kids v s a) p ≡ Some n
      child_kid = ap (λ (xs : List (Place × ℕ)). child_at xs p) kids_here ∙ kid_joins (kids w s a) p n h.stack.1.0

      child_in_slot : HasKid v s a p
      child_in_slot = (n, child_kid, ap (λ (o : Option (Scope K)). is_some o) at_child)

      other_drop : (k t : ℕ) (b : SideName) → Among (Make s a p c ∷ rest) (Drop k t b) → Among rest (Drop k t b)
      other_drop k t b (inl e) = cc
      other_drop k t b (inr g) = g

      attached_made : Attached v rest
      attached_made k t e =
          by_test (nat_eq n k)
          (
          λ q.
          let up_new : up v n ≡ Some s = ap (λ (o : Option (Scope K)). twig_up (twig o)) at_child in
          let parent : s ≡ t = some_number s t (sym up_new ∙ ap (λ (i : ℕ). up v i) (eqb-true n k q) ∙ e) in
          let live_parent : is_live v s ≡ true = ap (λ (o : Option (Scope K)). is_some o) at_parent in
          let slot : InSlot v n s =
          record {
            side = a;
            place = p;
            below_is = ap (λ (o : Option (Scope K)). twig_below (twig o)) at_child;
            slot = has_slot_kept s a p differs h.stack.1.1;
            kid = child_kid;
          } in
          (ap (λ (i : ℕ). is_live v i) (sym parent) ∙ live_parent, inl (subst (λ (i : ℕ). InSlot v k i) parent (subst (λ (i : ℕ). InSlot v i s) (eqb-true n k q) slot)))
          )
          (
          λ old.
          let was = h.attached k t (sym (ups k old) ∙ e) in
          let old_parent = is_new t was.0 in (
            lives t old_parent ∙ was.0,
            elim was.1 [
              | inl i ↦ inl
                  (record {
                    side = i.side;
                    place = i.place;
                    below_is = belows k old ∙ i.below_is;
                    slot = has_slot_kept t i.side i.place old_parent i.slot;
                    kid = kid_kept t i.side i.place k old_parent i.kid;
                  })
              | inr d ↦ inr (d.0, other_drop k t d.0 d.1)
            ],
          )
          )

      make_parts : (t : ℕ) (b : SideName) (q : Place) (d : VComponent K) → Make s a p c ≡ Make t b q d → HasKid v t b q
      make_parts t b q d e =
          let e1 : s ≡ t = ap (λ (i : Item K). owner i) e in
          let e2 : a ≡ b = ap (λ (i : Item K). side_named i) e in
          let e3 : p ≡ q = ap (λ (i : Item K). place_named i) e in
          subst (λ (i : ℕ). HasKid v i b q) e1 (subst (λ (i : SideName). HasKid v s i q) e2 (subst (λ (i : Place). HasKid v s a i) e3 child_in_slot))

      full_made : Full v rest
      full_made t b q d e =
          by_test (nat_eq n t)
          (
          λ same.
          absurd (subst (λ (i : Side K). Among (spots_of i.output) (component_at q d)) (side_child b) (subst (λ (i : ℕ). Among (slots v i b) (component_at q d)) (sym (eqb-true n t same)) e))
          )
          (
          λ old.
          elim (h.full t b q d (subst (λ xs. Among xs (component_at q d)) (slots_else t b old) e)) [
            | inl k ↦ inl (has_kid_kept t b q old k)
            | inr m ↦ made_or_later t b q m
          ]
          )
        where
          made_or_later : (t : ℕ) (b : SideName) (q : Place) → ToMake (Make s a p c ∷ rest) t b q → HasKid v t b q ⊎ ToMake rest t b q
          made_or_later t b q (d, inl g) = inl (make_parts t b q d g)
          made_or_later t b q (d, inr g) = inr (d, g)

      pub made_whole : Whole v rest
      made_whole = record { stack = stack_made rest h.stack.3 h.stack.2; attached = attached_made; full = full_made }

      pub made_idle : Idle v n rest
      made_idle = idle_made rest h.stack.3 h.stack.2
