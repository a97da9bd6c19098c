-- How the open work stands to the tree of scopes.
use Rattle.std.proofs.Common.{ℕ, ◌<◌, true, false, List, [], ◌∷◌, ◌≡◌, ◌⊎◌, inl, inr, sym, ap, ◌∙◌, subst, arith, nat_eq}
use Rattle.std.specs.Prelude.{Option, Some, None}
use Rattle.std.specs.List.{AllByRecursion}
use Rattle.rt_model.specs.Tree.{Types, Place, VComponent, component_at}
use Rattle.rt_model.specs.State.{SideName, State, Item, Draw, Row, Feed, Make, Drop, is_live, height_of}
use Rattle.rt_model.specs.Run.{child_at}
use Rattle.rt_model.proofs.Among.{Among}
use Rattle.law_moves.proofs.Twigs.{up, below, kids, slots, HasSlot, SameTwigs, live_by, height_by, up_by, below_by, side_by}

module _ {K : Types} where
  -- the scope whose side or run an item is of
  abbrev pub owner : Item K → ℕ
  owner (Draw s side p k) = s
  owner (Row b step) = b
  owner (Feed s side p c) = s
  owner (Make s side p c) = s
  owner (Drop t s side) = s

  -- what an item names is there, as it has to be
  abbrev pub Fits : State K → Item K → Type 0
  Fits w (Draw s a p k) = Unit {0}
  Fits w (Row b step) = Unit {0}
  Fits w (Feed s a p c) = (t : ℕ) × (child_at (kids w s a) p ≡ Some t) × (is_live w t ≡ true)
  Fits w (Make s a p c) = (child_at (kids w s a) p ≡ None) × HasSlot w s a p
  Fits w (Drop t s a) = (is_live w t ≡ true) × (up w t ≡ Some s) × (below w t ≡ Some a) × ((q : Place) → child_at (kids w s a) q ≡ Some t → ⊥)

  -- of one owner: makes are of other places, drops of other scopes; after a drop come drops and steps, after a step steps alone
  abbrev pub Behind : Item K → Item K → Type 0
  Behind (Draw s a p k) j = Unit {0}
  Behind (Feed s a p c) j = Unit {0}
  Behind (Make s a p c) (Make t b q d) = a ≡ b → p ≡ q → ⊥
  Behind (Make s a p c) j = Unit {0}
  Behind (Drop t s a) (Drop u s2 b) = nat_eq t u ≡ false
  Behind (Drop t s a) (Row b step) = Unit {0}
  Behind (Drop t s a) j = ⊥
  Behind (Row b step) (Row c other) = Unit {0}
  Behind (Row b step) j = ⊥

  -- a later item is of a scope that is less high, or of the same one and may come behind
  abbrev pub After : State K → Item K → Item K → Type 0
  After w i j = (height_of w.scopes (owner j) < height_of w.scopes (owner i)) ⊎ ((owner j ≡ owner i) × Behind i j)

  -- the open work in order
  abbrev pub Stack : State K → List (Item K) → Type 0
  Stack w [] = Unit {0}
  Stack w (i ∷ rest) = (is_live w (owner i) ≡ true) × Fits w i × AllByRecursion (λ (j : Item K). After w i j) rest × Stack w rest

  -- a scope stands in a slot of its parent's side, or is to be dropped
  pub record InSlot (w : State K) (v p : ℕ) : Type 0 where
    pub side : SideName
    pub place : Place
    pub below_is : below w v ≡ Some side
    pub slot : HasSlot w p side place
    pub kid : child_at (kids w p side) place ≡ Some v

  abbrev pub Attached : State K → List (Item K) → Type 0
  Attached w work = (v p : ℕ) → up w v ≡ Some p → (is_live w p ≡ true) × (InSlot w v p ⊎ ((a : SideName) × Among work (Drop v p a)))

  -- a slot has a live child
  abbrev pub HasKid : State K → ℕ → SideName → Place → Type 0
  HasKid w s a p = (t : ℕ) × (child_at (kids w s a) p ≡ Some t) × (is_live w t ≡ true)

  -- a slot's child is to be made
  abbrev pub ToMake : List (Item K) → ℕ → SideName → Place → Type 0
  ToMake work s a p = (d : VComponent K) × Among work (Make s a p d)

  -- the way up from a scope to another one
  abbrev pub Climb : State K → List ℕ → ℕ → ℕ → Type 0
  Climb w [] s t = s ≡ t
  Climb w (p ∷ path) s t = (up w s ≡ Some p) × Climb w path p t

  -- a scope is below the one that is being dropped, or is it
  abbrev pub Falls : State K → List (Item K) → ℕ → Type 0
  Falls w [] s = ⊥
  Falls w (Drop t p a ∷ rest) s = (path : List ℕ) × Climb w path s t
  Falls w (Draw t a p k ∷ rest) s = ⊥
  Falls w (Row b step ∷ rest) s = ⊥
  Falls w (Feed t a p c ∷ rest) s = ⊥
  Falls w (Make t a p c ∷ rest) s = ⊥

  -- each slot has a live child, or it is to be made
  abbrev pub Full : State K → List (Item K) → Type 0
  Full w work = (s : ℕ) (a : SideName) (p : Place) (c : VComponent K) → Among (slots w s a) (component_at p c) → HasKid w s a p ⊎ ToMake work s a p

  -- but for the scopes of which a removal is under way
  abbrev pub Filled : State K → List (Item K) → Type 0
  Filled w work = (s : ℕ) (a : SideName) (p : Place) (c : VComponent K) → Among (slots w s a) (component_at p c) → (HasKid w s a p ⊎ ToMake work s a p) ⊎ Falls w work s

  -- the open work fits the tree
  pub record Woven (w : State K) (work : List (Item K)) : Type 0 where
    pub stack : Stack w work
    pub attached : Attached w work
    pub filled : Filled w work

  -- and no removal is under way
  pub record Whole (w : State K) (work : List (Item K)) : Type 0 where
    pub stack : Stack w work
    pub attached : Attached w work
    pub full : Full w work

  pub whole_woven : (w : State K) (work : List (Item K)) → Whole w work → Woven w work
  whole_woven w work h = record { stack = h.stack; attached = h.attached; filled = λ s a p c e. inl (h.full s a p c e) }

  -- where no drop comes first no removal is under way
  abbrev pub NoDrop : Item K → Type 0
  NoDrop (Draw s a p k) = Unit {0}
  NoDrop (Row b step) = Unit {0}
  NoDrop (Feed s a p c) = Unit {0}
  NoDrop (Make s a p c) = Unit {0}
  NoDrop (Drop t s a) = ⊥

  no_falls : {P : Type 0} (w : State K) (item : Item K) (rest : List (Item K)) (s : ℕ) → NoDrop item → Falls w (item ∷ rest) s → P
  no_falls w (Draw t a p k) rest s n f = absurd f
  no_falls w (Row b step) rest s n f = absurd f
  no_falls w (Feed t a p c) rest s n f = absurd f
  no_falls w (Make t a p c) rest s n f = absurd f
  no_falls w (Drop t p a) rest s n f = absurd n

  pub woven_whole : (w : State K) (item : Item K) (rest : List (Item K)) → NoDrop item → Woven w (item ∷ rest) → Whole w (item ∷ rest)
  woven_whole w item rest n h =
      record {
        stack = h.stack;
        attached = h.attached;
        full = λ s a p c e. elim (h.filled s a p c e) [ inl f ↦ f | inr f ↦ no_falls w item rest s n f ];
      }

  pub idle_whole : (w : State K) → Woven w [] → Whole w []
  idle_whole w h = record { stack = tt; attached = h.attached; full = λ s a p c e. elim (h.filled s a p c e) [ inl f ↦ f | inr f ↦ absurd f ] }

  -- an item that neither makes nor drops goes from the work
  abbrev pub Goes : Item K → Type 0
  Goes (Draw s a p k) = Unit {0}
  Goes (Row b step) = Unit {0}
  Goes (Feed s a p c) = Unit {0}
  Goes (Make s a p c) = ⊥
  Goes (Drop t s a) = ⊥

  goes_no_drop : (item : Item K) → Goes item → NoDrop item
  goes_no_drop (Draw s a p k) g = tt
  goes_no_drop (Row b step) g = tt
  goes_no_drop (Feed s a p c) g = tt
  goes_no_drop (Make s a p c) g = absurd g
  goes_no_drop (Drop t s a) g = absurd g

  not_that_drop : (item : Item K) (rest : List (Item K)) (v p : ℕ) (a : SideName) → Goes item → Among (item ∷ rest) (Drop v p a) → Among rest (Drop v p a)
  not_that_drop item rest v p a g (inr h) = h
  not_that_drop (Draw s b q k) rest v p a g (inl h) = cc
  not_that_drop (Row b step) rest v p a g (inl h) = cc
  not_that_drop (Feed s b q c) rest v p a g (inl h) = cc
  not_that_drop (Make s b q c) rest v p a g (inl h) = absurd g
  not_that_drop (Drop t s b) rest v p a g (inl h) = absurd g

  not_that_make : (item : Item K) (rest : List (Item K)) (s : ℕ) (a : SideName) (p : Place) (d : VComponent K) → Goes item → Among (item ∷ rest) (Make s a p d) → Among rest (Make s a p d)
  not_that_make item rest s a p d g (inr h) = h
  not_that_make (Draw t b q k) rest s a p d g (inl h) = cc
  not_that_make (Row b step) rest s a p d g (inl h) = cc
  not_that_make (Feed t b q c) rest s a p d g (inl h) = cc
  not_that_make (Make t b q c) rest s a p d g (inl h) = absurd g
  not_that_make (Drop t u b) rest s a p d g (inl h) = absurd g

  pub goes_whole : (w : State K) (item : Item K) (rest : List (Item K)) → Goes item → Woven w (item ∷ rest) → Whole w rest
  goes_whole w item rest g h =
      let all : Whole w (item ∷ rest) = woven_whole w item rest (goes_no_drop item g) h in
      record {
        stack = all.stack.3;
        attached =
            λ v p e.
            let here = all.attached v p e in
            (here.0, elim here.1 [ inl f ↦ inl f | inr f ↦ inr (f.0, not_that_drop item rest v p f.0 g f.1) ]);
        full = λ s a p c e. elim (all.full s a p c e) [ inl f ↦ inl f | inr f ↦ inr (f.0, not_that_make item rest s a p f.0 g f.1) ];
      }

  -- the same tree, the same order of work

  module _ (w v : State K) (same : SameTwigs w v) where
    pub kids_same : (s : ℕ) (a : SideName) → kids v s a ≡ kids w s a
    kids_same s a = ap (λ z. z.children) (side_by w v s a (same s))

    pub slots_same : (s : ℕ) (a : SideName) → slots v s a ≡ slots w s a
    slots_same s a = ap (λ z. Rattle.rt_model.specs.Run.spots_of z.output) (side_by w v s a (same s))

    kid_same : (s t : ℕ) (a : SideName) (p : Place) (o : Option ℕ) → child_at (kids w s a) p ≡ o → child_at (kids v s a) p ≡ o
    kid_same s t a p o e = ap (λ (xs : List (Place × ℕ)). child_at xs p) (kids_same s a) ∙ e

    has_slot_same : (s : ℕ) (a : SideName) (p : Place) → HasSlot w s a p → HasSlot v s a p
    has_slot_same s a p h = (h.0, subst (λ xs. Among xs (component_at p h.0)) (sym (slots_same s a)) h.1)

    fits_same : (i : Item K) → Fits w i → Fits v i
    fits_same (Draw s a p k) h = tt
    fits_same (Row b step) h = tt
    fits_same (Feed s a p c) h = (h.0, kid_same s h.0 a p (Some h.0) h.1, live_by w v h.0 (same h.0) ∙ h.2)
    fits_same (Make s a p c) h = (kid_same s s a p None h.0, has_slot_same s a p h.1)
    fits_same (Drop t s a) h =
        (live_by w v t (same t) ∙ h.0, up_by w v t (same t) ∙ h.1, below_by w v t (same t) ∙ h.2, λ q e. h.3 q (sym (ap (λ (xs : List (Place × ℕ)). child_at xs q) (kids_same s a)) ∙ e))

    after_same : (i j : Item K) → After w i j → After v i j
    after_same i j (inl h) =
        let a = height_by w v (owner j) (same (owner j)) in
        let b = height_by w v (owner i) (same (owner i)) in
        inl (omega (arith, h, a, b))
    after_same i j (inr h) = inr h

    afters_same : (i : Item K) (rest : List (Item K)) → AllByRecursion (λ (j : Item K). After w i j) rest → AllByRecursion (λ (j : Item K). After v i j) rest
    afters_same i [] h = tt
    afters_same i (j ∷ rest) h = (after_same i j h.0, afters_same i rest h.1)

    stack_same : (work : List (Item K)) → Stack w work → Stack v work
    stack_same [] h = tt
    stack_same (i ∷ rest) h = (live_by w v (owner i) (same (owner i)) ∙ h.0, fits_same i h.1, afters_same i rest h.2, stack_same rest h.3)

    in_slot_same : (x p : ℕ) → InSlot w x p → InSlot v x p
    in_slot_same x p h =
        record {
          side = h.side;
          place = h.place;
          below_is = below_by w v x (same x) ∙ h.below_is;
          slot = has_slot_same p h.side h.place h.slot;
          kid = kid_same p x h.side h.place (Some x) h.kid;
        }

    climb_same : (path : List ℕ) (s t : ℕ) → Climb w path s t → Climb v path s t
    climb_same [] s t h = h
    climb_same (p ∷ path) s t h = (up_by w v s (same s) ∙ h.0, climb_same path p t h.1)

    falls_same : (work : List (Item K)) (s : ℕ) → Falls w work s → Falls v work s
    falls_same [] s h = absurd h
    falls_same (Drop t p a ∷ rest) s h = (h.0, climb_same h.0 s t h.1)
    falls_same (Draw t a p k ∷ rest) s h = absurd h
    falls_same (Row b step ∷ rest) s h = absurd h
    falls_same (Feed t a p c ∷ rest) s h = absurd h
    falls_same (Make t a p c ∷ rest) s h = absurd h

    has_kid_same : (s : ℕ) (a : SideName) (p : Place) → HasKid w s a p → HasKid v s a p
    has_kid_same s a p h = (h.0, kid_same s h.0 a p (Some h.0) h.1, live_by w v h.0 (same h.0) ∙ h.2)

    attached_same : (work : List (Item K)) → Attached w work → Attached v work
    attached_same work h =
        λ x p e.
        let here = h x p (sym (up_by w v x (same x)) ∙ e) in
        (live_by w v p (same p) ∙ here.0, elim here.1 [ inl f ↦ inl (in_slot_same x p f) | inr f ↦ inr f ])

    -- so what is woven stays so
    pub woven_same : (work : List (Item K)) → Woven w work → Woven v work
    woven_same work h =
        record {
          stack = stack_same work h.stack;
          attached = attached_same work h.attached;
          filled =
              λ s a p c e.
              elim (h.filled s a p c (subst (λ xs. Among xs (component_at p c)) (slots_same s a) e)) [
                | inl f ↦ inl (elim f [ inl g ↦ inl (has_kid_same s a p g) | inr g ↦ inr g ])
                | inr f ↦ inr (falls_same work s f)
              ];
        }

    pub whole_same : (work : List (Item K)) → Whole w work → Whole v work
    whole_same work h =
        record {
          stack = stack_same work h.stack;
          attached = attached_same work h.attached;
          full =
              λ s a p c e.
              elim (h.full s a p c (subst (λ xs. Among xs (component_at p c)) (slots_same s a) e)) [ inl g ↦ inl (has_kid_same s a p g) | inr g ↦ inr g ];
        }
