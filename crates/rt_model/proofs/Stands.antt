-- What stands while a log is replayed: numbers stand once, nodes have a number or wait for one, children know their parents.
use Rattle.std.proofs.Common.{ℕ, List, [], ◌≡◌, ◌≤◌, ◌<◌, ◌⊎◌, sym, ap, ◌∙◌, subst, arith, inl, inr}
use Rattle.std.specs.Prelude.{Some, None}
use Rattle.rt_model.specs.Lists.{at}
use Rattle.rt_model.specs.Tree.{Types, Tree, Place, Kind, node_at, spots}
use Rattle.rt_model.specs.State.{SideName, Side, Scope, State, Item, Draw, side_of, empty_side}
use Rattle.rt_model.specs.Heard.{number_at}
use Rattle.rt_model.proofs.Maps.{none_some}
use Rattle.rt_model.proofs.Among.{Among}
use Rattle.rt_model.proofs.Parts.{PartFits, ItemsFit}
use Rattle.rt_model.proofs.WellNumbered.{FitsBelow}

module _ {K : Types} where
  some_same : (x y : Scope K) → Some x ≡ Some y → x ≡ y
  some_same x y h = cc

  -- what stands beside this open work
  pub record Stands (w : State K) (work : List (Item K)) : Type 0 where
    pub first : 0 < w.next.elements
    -- numbers are drawn from 1 on
    pub range : (s n : ℕ) (x : Scope K) (a : SideName) (p : Place) (k : Kind) → at w.scopes s ≡ Some x → Among (side_of x a).numbers (p, k, n) → (0 < n) × (n < w.next.elements)
    -- a number stands at one place of one side of one scope
    pub once : (s t n : ℕ) (x y : Scope K) (a b : SideName) (p q : Place) (k l : Kind) → at w.scopes s ≡ Some x → at w.scopes t ≡ Some y → Among (side_of x a).numbers (p, k, n) → Among (side_of y b).numbers (q, l, n) → (s ≡ t) × (a ≡ b) × (p ≡ q) × (k ≡ l)
    -- each node of an output has a number, or will draw one
    pub whole : (s : ℕ) (x : Scope K) (a : SideName) (tree : Tree K) (p : Place) (k : Kind) → at w.scopes s ≡ Some x → (side_of x a).output ≡ Some tree → Among (spots [] tree) (node_at p k) → (0 < number_at (side_of x a).numbers p k) ⊎ Among work (Draw s a p k)
    -- outputs fit, and the children of components
    pub fit : (s : ℕ) (x : Scope K) (a : SideName) (tree : Tree K) → at w.scopes s ≡ Some x → (side_of x a).output ≡ Some tree → FitsBelow tree
    pub parts : (s : ℕ) (x : Scope K) → at w.scopes s ≡ Some x → PartFits x.component
    pub items : ItemsFit work
    -- children have numbers that were drawn, know their parent and side, and stand in one slot
    pub drawn : (s t : ℕ) (x : Scope K) (a : SideName) (p : Place) → at w.scopes s ≡ Some x → Among (side_of x a).children (p, t) → t < w.next_scope
    pub child : (s t : ℕ) (x y : Scope K) (a : SideName) (p : Place) → at w.scopes s ≡ Some x → Among (side_of x a).children (p, t) → at w.scopes t ≡ Some y → (y.parent ≡ Some s) × (y.below ≡ a)
    pub slot : (s t : ℕ) (x : Scope K) (a : SideName) (p q : Place) → at w.scopes s ≡ Some x → Among (side_of x a).children (p, t) → Among (side_of x a).children (q, t) → p ≡ q

  -- a number that a change from w to v draws for one place of one side of scope s
  abbrev pub NewNumber : State K → State K → ℕ → SideName → Place → Kind → ℕ → SideName → Place × Kind × ℕ → Type 0
  NewNumber w v s side p k t a e = (t ≡ s) × (a ≡ side) × (e.0 ≡ p) × (e.1 ≡ k) × (e.2 ≡ w.next.elements) × (w.next.elements < v.next.elements)

  -- the number of a new child
  abbrev pub NewChild : State K → State K → ℕ → SideName → Place → ℕ → SideName → Place × ℕ → Type 0
  NewChild w v s side p t a e = (t ≡ s) × (a ≡ side) × (e.0 ≡ p) × (e.1 ≡ w.next_scope) × (w.next_scope < v.next_scope) × (at w.scopes w.next_scope ≡ None)

  -- a scope that lived before
  pub record Since (w v : State K) (work : List (Item K)) (s : ℕ) (side : SideName) (p : Place) (k : Kind) (t : ℕ) (z : Scope K) : Type 0 where
    pub old : Scope K
    pub found : at w.scopes t ≡ Some old
    pub parent : z.parent ≡ old.parent
    pub below : z.below ≡ old.below
    pub part : PartFits z.component
    pub numbers : (a : SideName) (e : Place × Kind × ℕ) → Among (side_of z a).numbers e → Among (side_of old a).numbers e ⊎ NewNumber w v s side p k t a e
    pub children : (a : SideName) (e : Place × ℕ) → Among (side_of z a).children e → Among (side_of old a).children e ⊎ NewChild w v s side p t a e
    pub fit : (a : SideName) (tree : Tree K) → (side_of z a).output ≡ Some tree → FitsBelow tree
    pub whole : (a : SideName) (tree : Tree K) (q : Place) (l : Kind) → (side_of z a).output ≡ Some tree → Among (spots [] tree) (node_at q l) → (0 < number_at (side_of z a).numbers q l) ⊎ Among work (Draw t a q l)

  -- a scope that is made
  pub record IsNew (w : State K) (s : ℕ) (side : SideName) (t : ℕ) (z : Scope K) : Type 0 where
    pub number : t ≡ w.next_scope
    pub parent : z.parent ≡ Some s
    pub below : z.below ≡ side
    pub part : PartFits z.component
    pub empty : (a : SideName) → side_of z a ≡ empty_side

  -- a change and the work that is open after it
  pub record Turn (w v : State K) (work : List (Item K)) (s : ℕ) (side : SideName) (p : Place) (k : Kind) : Type 0 where
    pub elements : w.next.elements ≤ v.next.elements
    pub next_scope : w.next_scope ≤ v.next_scope
    pub items : ItemsFit work
    pub since : (t : ℕ) (z : Scope K) → at v.scopes t ≡ Some z → Since w v work s side p k t z ⊎ IsNew w s side t z

  no_number : (z : Scope K) (a : SideName) (e : Place × Kind × ℕ) → side_of z a ≡ empty_side → Among (side_of z a).numbers e → ⊥
  no_number z a e h g = subst (λ (x : Side K). Among x.numbers e) h g

  no_child : (z : Scope K) (a : SideName) (e : Place × ℕ) → side_of z a ≡ empty_side → Among (side_of z a).children e → ⊥
  no_child z a e h g = subst (λ (x : Side K). Among x.children e) h g

  no_output : {P : Type 0} (z : Scope K) (a : SideName) (tree : Tree K) → side_of z a ≡ empty_side → (side_of z a).output ≡ Some tree → P
  no_output z a tree h g = none_some (sym (ap (λ (x : Side K). x.output) (sym h))) g

  module _ (w v : State K) (work after : List (Item K)) (s : ℕ) (side : SideName) (p : Place) (k : Kind) (h : Stands w work) (f : Turn w v after s side p k) where
    -- a number of a side after the change
    record Numbered (t n : ℕ) (a : SideName) (q : Place) (l : Kind) : Type 0 where
      old : Scope K
      found : at w.scopes t ≡ Some old
      stood : Among (side_of old a).numbers (q, l, n) ⊎ NewNumber w v s side p k t a (q, l, n)

    numbered_in : (t n : ℕ) (z : Scope K) (a : SideName) (q : Place) (l : Kind) → Among (side_of z a).numbers (q, l, n) → Since w v after s side p k t z ⊎ IsNew w s side t z → Numbered t n a q l
    numbered_in t n z a q l g (inl c) = record { old = c.old; found = c.found; stood = c.numbers a (q, l, n) g }
    numbered_in t n z a q l g (inr c) = absurd (no_number z a (q, l, n) (c.empty a) g)

    in_range : (t n : ℕ) (a : SideName) (q : Place) (l : Kind) (x : Scope K) → at w.scopes t ≡ Some x → Among (side_of x a).numbers (q, l, n) ⊎ NewNumber w v s side p k t a (q, l, n) → (0 < n) × (n < v.next.elements)
    in_range t n a q l x e (inl g) =
        let r = h.range t n x a q l e g in
        let low : n < v.next.elements = omega (arith, r.1, f.elements) in
        (r.0, low)
    in_range t n a q l x e (inr g) =
        let c : 0 < n = omega (arith, h.first, g.4) in
        let d : n < v.next.elements = omega (arith, g.4, g.5) in
        (c, d)

    not_both : {P : Type 0} (t u n : ℕ) (a b : SideName) (q : Place) (l : Kind) (x : Scope K) → at w.scopes t ≡ Some x → Among (side_of x a).numbers (q, l, n) → n ≡ w.next.elements → P
    not_both t u n a b q l x e g i = let r = h.range t n x a q l e g in absurd (omega (arith, r.1, i))

    at_once : (t u n : ℕ) (a b : SideName) (q r : Place) (l m : Kind) (x y : Scope K) → at w.scopes t ≡ Some x → at w.scopes u ≡ Some y
        → Among (side_of x a).numbers (q, l, n) ⊎ NewNumber w v s side p k t a (q, l, n)
        → Among (side_of y b).numbers (r, m, n) ⊎ NewNumber w v s side p k u b (r, m, n)
        → (t ≡ u) × (a ≡ b) × (q ≡ r) × (l ≡ m)
    at_once t u n a b q r l m x y e i (inl c) (inl d) = h.once t u n x y a b q r l m e i c d
    at_once t u n a b q r l m x y e i (inl c) (inr d) = not_both t u n a b q l x e c d.4
    at_once t u n a b q r l m x y e i (inr c) (inl d) = not_both u t n b a r m y i d c.4
    at_once t u n a b q r l m x y e i (inr c) (inr d) = (c.0 ∙ sym d.0, c.1 ∙ sym d.1, c.2 ∙ sym d.2, c.3 ∙ sym d.3)

    whole_in : (t : ℕ) (z : Scope K) (a : SideName) (tree : Tree K) (q : Place) (l : Kind) → (side_of z a).output ≡ Some tree → Among (spots [] tree) (node_at q l) → Since w v after s side p k t z ⊎ IsNew w s side t z
        → (0 < number_at (side_of z a).numbers q l) ⊎ Among after (Draw t a q l)
    whole_in t z a tree q l o g (inl c) = c.whole a tree q l o g
    whole_in t z a tree q l o g (inr c) = no_output z a tree (c.empty a) o

    fit_in : (t : ℕ) (z : Scope K) (a : SideName) (tree : Tree K) → (side_of z a).output ≡ Some tree → Since w v after s side p k t z ⊎ IsNew w s side t z → FitsBelow tree
    fit_in t z a tree o (inl c) = c.fit a tree o
    fit_in t z a tree o (inr c) = no_output z a tree (c.empty a) o

    part_in : (t : ℕ) (z : Scope K) → Since w v after s side p k t z ⊎ IsNew w s side t z → PartFits z.component
    part_in t z (inl c) = c.part
    part_in t z (inr c) = c.part

    record Childed (t u : ℕ) (a : SideName) (q : Place) : Type 0 where
      old : Scope K
      found : at w.scopes t ≡ Some old
      stood : Among (side_of old a).children (q, u) ⊎ NewChild w v s side p t a (q, u)

    child_in : (t u : ℕ) (z : Scope K) (a : SideName) (q : Place) → Among (side_of z a).children (q, u) → Since w v after s side p k t z ⊎ IsNew w s side t z → Childed t u a q
    child_in t u z a q g (inl c) = record { old = c.old; found = c.found; stood = c.children a (q, u) g }
    child_in t u z a q g (inr c) = absurd (no_child z a (q, u) (c.empty a) g)

    drawn_in : (t u : ℕ) (a : SideName) (q : Place) (x : Scope K) → at w.scopes t ≡ Some x → Among (side_of x a).children (q, u) ⊎ NewChild w v s side p t a (q, u) → u < v.next_scope
    drawn_in t u a q x e (inl g) = let r = h.drawn t u x a q e g in omega (arith, r, f.next_scope)
    drawn_in t u a q x e (inr g) = omega (arith, g.3, g.4)

    knows : (t u : ℕ) (a : SideName) (q : Place) (x y : Scope K) → at w.scopes t ≡ Some x → Among (side_of x a).children (q, u) ⊎ NewChild w v s side p t a (q, u)
        → Since w v after s side p k u y ⊎ IsNew w s side u y → (y.parent ≡ Some t) × (y.below ≡ a)
    knows t u a q x y e (inl g) (inl c) = let r = h.child t u x c.old a q e g c.found in (c.parent ∙ r.0, c.below ∙ r.1)
    knows t u a q x y e (inl g) (inr c) = let r = h.drawn t u x a q e g in absurd (omega (arith, r, c.number))
    knows t u a q x y e (inr g) (inl c) = none_some (ap (λ (i : ℕ). at w.scopes i) g.3 ∙ g.5) c.found
    knows t u a q x y e (inr g) (inr c) = (c.parent ∙ ap Some (sym g.0), c.below ∙ sym g.1)

    one_slot : (t u : ℕ) (a : SideName) (q r : Place) (x y : Scope K) → at w.scopes t ≡ Some x → at w.scopes t ≡ Some y
        → Among (side_of x a).children (q, u) ⊎ NewChild w v s side p t a (q, u)
        → Among (side_of y a).children (r, u) ⊎ NewChild w v s side p t a (r, u)
        → q ≡ r
    one_slot t u a q r x y e i (inl c) (inl d) = h.slot t u x a q r e c (subst (λ (o : Scope K). Among (side_of o a).children (r, u)) (some_same y x (sym i ∙ e)) d)
    one_slot t u a q r x y e i (inl c) (inr d) = let l = h.drawn t u x a q e c in absurd (omega (arith, l, d.3))
    one_slot t u a q r x y e i (inr c) (inl d) = let l = h.drawn t u y a r i d in absurd (omega (arith, l, c.3))
    one_slot t u a q r x y e i (inr c) (inr d) = c.2 ∙ sym d.2

    -- what stood stands after a turn
    pub turned : Stands v after
    turned =
        let above : 0 < v.next.elements = omega (arith, h.first, f.elements) in
        record {
          first = above;
          range = λ t n z a q l e g. let c = numbered_in t n z a q l g (f.since t z e) in in_range t n a q l c.old c.found c.stood;
          once =
              λ t u n x y a b q r l m e i g j.
              let c = numbered_in t n x a q l g (f.since t x e) in
              let d = numbered_in u n y b r m j (f.since u y i) in
              at_once t u n a b q r l m c.old d.old c.found d.found c.stood d.stood;
          whole = λ t z a tree q l e o g. whole_in t z a tree q l o g (f.since t z e);
          fit = λ t z a tree e o. fit_in t z a tree o (f.since t z e);
          parts = λ t z e. part_in t z (f.since t z e);
          items = f.items;
          drawn = λ t u z a q e g. let c = child_in t u z a q g (f.since t z e) in drawn_in t u a q c.old c.found c.stood;
          child = λ t u z y a q e g i. let c = child_in t u z a q g (f.since t z e) in knows t u a q c.old y c.found c.stood (f.since u y i);
          slot =
              λ t u z a q r e g j.
              let c = child_in t u z a q g (f.since t z e) in
              let d = child_in t u z a r j (f.since t z e) in
              one_slot t u a q r c.old d.old c.found d.found c.stood d.stood;
        }
