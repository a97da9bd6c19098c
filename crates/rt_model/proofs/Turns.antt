-- The changes of sides: what stood stands after each of them.
use Rattle.std.proofs.Common.{ℕ, false, List, [], ◌≡◌, ◌≤◌, ◌<◌, ◌⊎◌, refl, sym, ap, ◌∙◌, subst, arith, nat_eq, inl, inr}
use Rattle.std.specs.Prelude.{Some}
use Rattle.std.proofs.lemmas.Bool.{eqb-true}
use Rattle.rt_model.specs.Lists.{at, put}
use Rattle.rt_model.specs.Tree.{Types, VComponent, Tree, Place, Kind, an_element, node_at, spots}
use Rattle.rt_model.specs.State.{SideName, MainSide, ChildrenSide, FallbackSide, Side, Scope, State, Item, Draw, side_of, with_side}
use Rattle.rt_model.specs.Heard.{number_at}
use Rattle.rt_model.proofs.Maps.{by_test, at_put_here, at_put_other}
use Rattle.rt_model.proofs.Among.{Among}
use Rattle.rt_model.proofs.Parts.{PartFits, ItemsFit}
use Rattle.rt_model.proofs.SideFrames.{Stay, Alike, alike}
use Rattle.rt_model.proofs.Stands.{Stands, NewNumber, NewChild, Since, turned}
use Rattle.rt_model.proofs.WellNumbered.{FitsBelow}

module _ {K : Types} where
  -- equal answers are equal scopes
  pub inj_scope : (x y : Scope K) → Some x ≡ Some y → x ≡ y
  inj_scope x y h = cc

  -- each number that is to be drawn for this scope is still to be drawn
  abbrev pub DrawsOf : ℕ → List (Item K) → List (Item K) → Type 0
  DrawsOf t work after = (a : SideName) (q : Place) (l : Kind) → Among work (Draw t a q l) → Among after (Draw t a q l)

  -- a scope that is framed as it was
  pub alike_since : (w v : State K) (work after : List (Item K)) (s : ℕ) (side : SideName) (p : Place) (k : Kind) (t : ℕ) (z : Scope K) → Stands w work → DrawsOf t work after → Alike (at w.scopes t) z → Since w v after s side p k t z
  alike_since w v work after s side p k t z h more a =
      record {
        old = a.old;
        found = a.found;
        parent = sym a.parent;
        below = sym a.below;
        part = subst (λ (c : VComponent K). PartFits c) a.component (h.parts t a.old a.found);
        numbers = λ b e g. inl (subst (λ (x : Side K). Among x.numbers e) (sym (a.sides b)) g);
        children = λ b e g. inl (subst (λ (x : Side K). Among x.children e) (sym (a.sides b)) g);
        fit = λ b tree o. h.fit t a.old b tree a.found (ap (λ (x : Side K). x.output) (a.sides b) ∙ o);
        whole = λ b tree q l o g. still b q l (subst (λ (x : Side K). (0 < number_at x.numbers q l) ⊎ Among work (Draw t b q l)) (a.sides b) (h.whole t a.old b tree q l a.found (ap (λ (x : Side K). x.output) (a.sides b) ∙ o) g));
      }
    where
      still : (b : SideName) (q : Place) (l : Kind) → (0 < number_at (side_of z b).numbers q l) ⊎ Among work (Draw t b q l) → (0 < number_at (side_of z b).numbers q l) ⊎ Among after (Draw t b q l)
      still b q l (inl g) = inl g
      still b q l (inr g) = inr (more b q l g)

  -- a scope that is as it was
  pub same_since : (w v : State K) (work after : List (Item K)) (s : ℕ) (side : SideName) (p : Place) (k : Kind) (t : ℕ) (z : Scope K) → Stands w work → DrawsOf t work after → at w.scopes t ≡ Some z → Since w v after s side p k t z
  same_since w v work after s side p k t z h more e =
      alike_since w v work after s side p k t z h more (record { old = z; found = e; component = refl; parent = refl; height = refl; below = refl; sides = λ a. refl })

  -- where the sides of the scopes that live on stay, what stood stands
  pub stay_stands : (w v : State K) (work : List (Item K)) → Stay w v → Stands w work → Stands v work
  stay_stands w v work f h =
      let a : w.next.elements ≤ v.next.elements = omega (arith, f.elements) in
      let b : w.next_scope ≤ v.next_scope = omega (arith, f.next_scope) in
      turned w v work work 0 MainSide [] an_element h
      (record {
        elements = a;
        next_scope = b;
        items = h.items;
        since = λ t z e. inl (alike_since w v work work 0 MainSide [] an_element t z h (λ c q l g. g) (alike (at w.scopes t) z (f.frames t z e)));
      })

  -- and beside more work
  pub more_stands : (w : State K) (work after : List (Item K)) → ItemsFit after → ((t : ℕ) → DrawsOf t work after) → Stands w work → Stands w after
  more_stands w work after items more h =
      let a : w.next.elements ≤ w.next.elements = omega arith in
      let b : w.next_scope ≤ w.next_scope = omega arith in
      turned w w work after 0 MainSide [] an_element h
      (record { elements = a; next_scope = b; items = items; since = λ t z e. inl (same_since w w work after 0 MainSide [] an_element t z h (more t) e) })

  -- one scope's record changes
  pub put_since : (w v : State K) (work after : List (Item K)) (s : ℕ) (side : SideName) (p : Place) (k : Kind) (y : Scope K) (t : ℕ) (z : Scope K) → Stands w work
      → (nat_eq s t ≡ false → DrawsOf t work after)
      → Since w v after s side p k s y
      → at (put w.scopes s y) t ≡ Some z
      → Since w v after s side p k t z
  put_since w v work after s side p k y t z h more f e =
      by_test (nat_eq s t)
      (
      λ q.
      let made : y ≡ z = inj_scope y z (sym (at_put_here w.scopes s y t q) ∙ e) in
      subst (λ (c : Scope K). Since w v after s side p k t c) made (subst (λ (i : ℕ). Since w v after s side p k i y) (eqb-true s t q) f)
      )
      (λ q. same_since w v work after s side p k t z h (more q) (sym (at_put_other w.scopes s y t q) ∙ e))

  -- what stood stands after one scope's record changed so
  pub put_stands : (w v : State K) (work after : List (Item K)) (s : ℕ) (side : SideName) (p : Place) (k : Kind) (y : Scope K) → Stands w work
      → v.scopes ≡ put w.scopes s y
      → w.next.elements ≤ v.next.elements
      → w.next_scope ≤ v.next_scope
      → ItemsFit after
      → ((t : ℕ) → nat_eq s t ≡ false → DrawsOf t work after)
      → Since w v after s side p k s y
      → Stands v after
  put_stands w v work after s side p k y h same a b items more f =
      turned w v work after s side p k h
      (record {
        elements = a;
        next_scope = b;
        items = items;
        since = λ t z e. inl (put_since w v work after s side p k y t z h (more t) f (ap (λ (xs : List (ℕ × Scope K)). at xs t) (sym same) ∙ e));
      })

  -- one side of a scope

  side_parent : (x : Scope K) (a : SideName) (r : Side K) → (with_side x a r).parent ≡ x.parent
  side_parent x MainSide r = refl
  side_parent x ChildrenSide r = refl
  side_parent x FallbackSide r = refl

  side_below : (x : Scope K) (a : SideName) (r : Side K) → (with_side x a r).below ≡ x.below
  side_below x MainSide r = refl
  side_below x ChildrenSide r = refl
  side_below x FallbackSide r = refl

  side_component : (x : Scope K) (a : SideName) (r : Side K) → (with_side x a r).component ≡ x.component
  side_component x MainSide r = refl
  side_component x ChildrenSide r = refl
  side_component x FallbackSide r = refl

  abbrev Which : Scope K → SideName → Side K → SideName → Type 0
  Which x a r b = ((b ≡ a) × (side_of (with_side x a r) b ≡ r)) ⊎ ((a ≡ b → ⊥) × (side_of (with_side x a r) b ≡ side_of x b))

  which : (x : Scope K) (a : SideName) (r : Side K) (b : SideName) → Which x a r b
  which x MainSide r MainSide = inl (refl, refl)
  which x ChildrenSide r ChildrenSide = inl (refl, refl)
  which x FallbackSide r FallbackSide = inl (refl, refl)
  which x MainSide r ChildrenSide = inr (λ e. cc, refl)
  which x MainSide r FallbackSide = inr (λ e. cc, refl)
  which x ChildrenSide r MainSide = inr (λ e. cc, refl)
  which x ChildrenSide r FallbackSide = inr (λ e. cc, refl)
  which x FallbackSide r MainSide = inr (λ e. cc, refl)
  which x FallbackSide r ChildrenSide = inr (λ e. cc, refl)

  -- a new record of a side, which may enter one number or one child
  pub record NewSide (w v : State K) (work after : List (Item K)) (s : ℕ) (side : SideName) (p : Place) (k : Kind) (x : Scope K) (r : Side K) : Type 0 where
    pub numbers : (e : Place × Kind × ℕ) → Among r.numbers e → Among (side_of x side).numbers e ⊎ NewNumber w v s side p k s side e
    pub children : (e : Place × ℕ) → Among r.children e → Among (side_of x side).children e ⊎ NewChild w v s side p s side e
    pub fit : (tree : Tree K) → r.output ≡ Some tree → FitsBelow tree
    pub whole : (tree : Tree K) (q : Place) (l : Kind) → r.output ≡ Some tree → Among (spots [] tree) (node_at q l) → (0 < number_at r.numbers q l) ⊎ Among after (Draw s side q l)
    pub others : (a : SideName) (q : Place) (l : Kind) → (side ≡ a → ⊥) → Among work (Draw s a q l) → Among after (Draw s a q l)

  module _ (w v : State K) (work after : List (Item K)) (s : ℕ) (side : SideName) (p : Place) (k : Kind) (x : Scope K) (r : Side K) (h : Stands w work) (here : at w.scopes s ≡ Some x) (f : NewSide w v work after s side p k x r) where
    numbers_which : (a : SideName) (e : Place × Kind × ℕ) → Which x side r a → Among (side_of (with_side x side r) a).numbers e → Among (side_of x a).numbers e ⊎ NewNumber w v s side p k s a e
    numbers_which a e (inl c) g =
        subst (λ (b : SideName). Among (side_of x b).numbers e ⊎ NewNumber w v s side p k s b e) (sym c.0) (f.numbers e (subst (λ (z : Side K). Among z.numbers e) c.1 g))
    numbers_which a e (inr c) g = inl (subst (λ (z : Side K). Among z.numbers e) c.1 g)

    children_which : (a : SideName) (e : Place × ℕ) → Which x side r a → Among (side_of (with_side x side r) a).children e → Among (side_of x a).children e ⊎ NewChild w v s side p s a e
    children_which a e (inl c) g =
        subst (λ (b : SideName). Among (side_of x b).children e ⊎ NewChild w v s side p s b e) (sym c.0) (f.children e (subst (λ (z : Side K). Among z.children e) c.1 g))
    children_which a e (inr c) g = inl (subst (λ (z : Side K). Among z.children e) c.1 g)

    fit_which : (a : SideName) (tree : Tree K) → Which x side r a → (side_of (with_side x side r) a).output ≡ Some tree → FitsBelow tree
    fit_which a tree (inl c) o = f.fit tree (ap (λ (z : Side K). z.output) (sym c.1) ∙ o)
    fit_which a tree (inr c) o = h.fit s x a tree here (ap (λ (z : Side K). z.output) (sym c.1) ∙ o)

    still : (a : SideName) (q : Place) (l : Kind) → (side ≡ a → ⊥) → (0 < number_at (side_of x a).numbers q l) ⊎ Among work (Draw s a q l) → (0 < number_at (side_of x a).numbers q l) ⊎ Among after (Draw s a q l)
    still a q l apart (inl g) = inl g
    still a q l apart (inr g) = inr (f.others a q l apart g)

    whole_which : (a : SideName) (tree : Tree K) (q : Place) (l : Kind) → Which x side r a → (side_of (with_side x side r) a).output ≡ Some tree → Among (spots [] tree) (node_at q l)
        → (0 < number_at (side_of (with_side x side r) a).numbers q l) ⊎ Among after (Draw s a q l)
    whole_which a tree q l (inl c) o g =
        subst (λ (z : Side K). (0 < number_at z.numbers q l) ⊎ Among after (Draw s a q l)) (sym c.1)
        (subst (λ (b : SideName). (0 < number_at r.numbers q l) ⊎ Among after (Draw s b q l)) (sym c.0) (f.whole tree q l (ap (λ (z : Side K). z.output) (sym c.1) ∙ o) g))
    whole_which a tree q l (inr c) o g =
        subst (λ (z : Side K). (0 < number_at z.numbers q l) ⊎ Among after (Draw s a q l)) (sym c.1)
        (still a q l c.0 (h.whole s x a tree q l here (ap (λ (z : Side K). z.output) (sym c.1) ∙ o) g))

    -- its scope lived before
    pub side_since : Since w v after s side p k s (with_side x side r)
    side_since =
        record {
          old = x;
          found = here;
          parent = side_parent x side r;
          below = side_below x side r;
          part = subst (λ (c : VComponent K). PartFits c) (sym (side_component x side r)) (h.parts s x here);
          numbers = λ a e g. numbers_which a e (which x side r a) g;
          children = λ a e g. children_which a e (which x side r a) g;
          fit = λ a tree o. fit_which a tree (which x side r a) o;
          whole = λ a tree q l o g. whole_which a tree q l (which x side r a) o g;
        }
