-- A new output, a number that is drawn, a side that is emptied, new props and a new child: what stood stands.
use Rattle.std.proofs.Common.{ℕ, true, false, List, [], ◌∷◌, ◌++◌, ◌≡◌, ◌≤◌, ◌<◌, ◌+◌, ◌⊎◌, refl, sym, ap, ◌∙◌, subst, arith, nat_eq, inl, inr}
use Rattle.std.specs.Prelude.{Option, Some, None}
use Rattle.std.proofs.lemmas.Bool.{eqb-true}
use Rattle.rt_model.specs.Lists.{at, put}
use Rattle.rt_model.specs.Tree.{Types, VComponent, Tree, Place, Kind, an_element, Spot, node_at, spots}
use Rattle.rt_model.specs.World.{Application}
use Rattle.rt_model.specs.State.{SideName, MainSide, ChildrenSide, FallbackSide, Side, Scope, State, Item, Draw, Make, Outcome, Done, Cut, side_of, with_side, new_scope, changed_scope, change, empty_side}
use Rattle.rt_model.specs.Run.{with_next, has_node, spots_of, kept_numbers, kept_children, serves, drops_of, patched, start_agenda}
use Rattle.rt_model.specs.Heard.{number_at}
use Rattle.rt_model.specs.Replay.{numbered, with_child, with_new_scope}
use Rattle.rt_model.proofs.Maps.{by_test, none_some, eq_same, at_append_here, at_append_none, at_put_none}
use Rattle.rt_model.proofs.Among.{Among, among_left, among_right, among_push}
use Rattle.rt_model.proofs.Parts.{PartFits, parts_fit, ItemsFit, items_both, serves_fit, drops_fit}
use Rattle.rt_model.proofs.Stands.{Stands, NewNumber, NewChild, Since, IsNew, turned}
use Rattle.rt_model.proofs.Turns.{inj_scope, DrawsOf, same_since, more_stands, put_since, put_stands, side_since}
use Rattle.rt_model.proofs.Agendas.{number_more, number_new, some_tree, draw_scope, draw_side, draw_place, draw_kind, node_found, found_node, kept_among, kept_number, kept_children_among, serves_draw}
use Rattle.rt_model.proofs.WellNumbered.{FitsBelow}

absurd_bool : {P : Type 0} → true ≡ false → P
absurd_bool h = cc

other_scope : {P : Type 0} (s t : ℕ) → nat_eq s t ≡ false → s ≡ t → P
other_scope s t q e = absurd_bool (sym (ap (λ (i : ℕ). nat_eq i t) e ∙ eq_same t) ∙ q)

module _ {K : Types} where
  -- where a change isn't cut, what stands before the rest of the work
  abbrev pub Leads : List (Item K) → Outcome K → Type 0
  Leads rest (Done v work) = Stands v (work ++ rest)
  Leads rest (Cut v fault) = Unit {0}

  -- a node of an output is one of a tree
  record OfTree (o : Option (Tree K)) (spot : Spot K) : Type 0 where
    tree : Tree K
    is : o ≡ Some tree
    there : Among (spots [] tree) spot

  of_tree : (o : Option (Tree K)) (spot : Spot K) → Among (spots_of o) spot → OfTree o spot
  of_tree None spot h = absurd h
  of_tree (Some tree) spot h = record { tree = tree; is = refl; there = h }

  -- an item that draws no number of this scope
  skipped : (t : ℕ) (work : List (Item K)) (i : Item K) → ((a : SideName) (q : Place) (l : Kind) → i ≡ Draw t a q l → ⊥) → DrawsOf t (i ∷ work) work
  skipped t work i f a q l (inl g) = absurd (f a q l g)
  skipped t work i f a q l (inr g) = g

  -- a number is drawn for a place
  module _ (w : State K) (rest : List (Item K)) (s : ℕ) (side : SideName) (p : Place) (k : Kind) (h : Stands w (Draw s side p k ∷ rest)) where
    abbrev entered : Scope K → Side K
    entered x = record (side_of x side) { numbers = (side_of x side).numbers ++ (p, k, w.next.elements) ∷ [] }

    abbrev risen : State K
    risen = with_next w (record (w.next) { elements = w.next.elements + 1 })

    drawn_number : (v : State K) (x : Scope K) → w.next.elements < v.next.elements → (e : Place × Kind × ℕ) → Among (side_of x side).numbers e ⊎ (e ≡ (p, k, w.next.elements)) → Among (side_of x side).numbers e ⊎ NewNumber w v s side p k s side e
    drawn_number v x l e (inl g) = inl g
    drawn_number v x l e (inr g) =
        inr (refl, refl, ap (λ (z : Place × Kind × ℕ). z.0) g, ap (λ (z : Place × Kind × ℕ). z.1) g, ap (λ (z : Place × Kind × ℕ). z.2) g, l)

    drawn_whole : (x : Scope K) (q : Place) (l : Kind) → at w.scopes s ≡ Some x → (0 < number_at (side_of x side).numbers q l) ⊎ Among (Draw s side p k ∷ rest) (Draw s side q l) → (0 < number_at (entered x).numbers q l) ⊎ Among rest (Draw s side q l)
    drawn_whole x q l here (inl g) = inl (number_more (side_of x side).numbers (p, k, w.next.elements) q l g)
    drawn_whole x q l here (inr (inl g)) =
        inl
        (subst (λ (z : Kind). 0 < number_at (entered x).numbers q z) (draw_kind s s side side p q k l g)
        (subst (λ (z : Place). 0 < number_at (entered x).numbers z k) (draw_place s s side side p q k l g)
        (number_new (side_of x side).numbers p k w.next.elements (λ r m i c. (h.range s i x side r m here c).0) h.first)))
    drawn_whole x q l here (inr (inr g)) = inr g

    other_side : (a : SideName) (q : Place) (l : Kind) → (side ≡ a → ⊥) → Among (Draw s side p k ∷ rest) (Draw s a q l) → Among rest (Draw s a q l)
    other_side a q l apart (inl g) = absurd (apart (draw_side s s side a p q k l g))
    other_side a q l apart (inr g) = g

    drawn_at : (o : Option (Scope K)) → at w.scopes s ≡ o → Stands (changed_scope risen s (λ x. with_side x side (entered x)) o) rest
    drawn_at None here =
        let up : w.next.elements ≤ w.next.elements + 1 = omega arith in
        let low : w.next_scope ≤ w.next_scope = omega arith in
        turned w risen (Draw s side p k ∷ rest) rest s side p k h
        (record {
          elements = up;
          next_scope = low;
          items = h.items;
          since =
              λ t z e.
              inl
              (same_since w risen (Draw s side p k ∷ rest) rest s side p k t z h
              (skipped t rest (Draw s side p k) (λ a q l g. none_some (ap (λ (i : ℕ). at w.scopes i) (sym (draw_scope s t side a p q k l g)) ∙ here) e))
              e);
        })
    drawn_at (Some x) here =
        let v : State K = changed_scope risen s (λ y. with_side y side (entered y)) (Some x) in
        let up : w.next.elements ≤ w.next.elements + 1 = omega arith in
        let more : w.next.elements < w.next.elements + 1 = omega arith in
        let low : w.next_scope ≤ w.next_scope = omega arith in
        put_stands w v (Draw s side p k ∷ rest) rest s side p k (with_side x side (entered x)) h refl up low h.items
        (λ t q. skipped t rest (Draw s side p k) (λ a r l g. other_scope s t q (draw_scope s t side a p r k l g)))
        (side_since w v (Draw s side p k ∷ rest) rest s side p k x (entered x) h here
        (record {
          numbers = λ e g. drawn_number v x more e (among_push (side_of x side).numbers (p, k, w.next.elements) e g);
          children = λ e g. inl g;
          fit = λ tree o. h.fit s x side tree here o;
          whole = λ tree q l o g. drawn_whole x q l here (h.whole s x side tree q l here o g);
          others = λ a q l apart g. other_side a q l apart g;
        }))

    -- what stood stands, and one item is done
    pub numbered_stands : Stands (numbered w s side p k) rest
    numbered_stands = drawn_at (at w.scopes s) refl

  -- a side is emptied
  module _ (w : State K) (work after : List (Item K)) (b : ℕ) (h : Stands w work) (items : ItemsFit after) (more : (t : ℕ) → DrawsOf t work after) where
    emptied_at : (o : Option (Scope K)) → at w.scopes b ≡ o → Stands (changed_scope w b (λ y. record y { fallback_side = empty_side }) o) after
    emptied_at None here = more_stands w work after items more h
    emptied_at (Some x) here =
        let v : State K = changed_scope w b (λ y. record y { fallback_side = empty_side }) (Some x) in
        let up : w.next.elements ≤ w.next.elements = omega arith in
        let low : w.next_scope ≤ w.next_scope = omega arith in
        put_stands w v work after b FallbackSide [] an_element (with_side x FallbackSide empty_side) h refl up low items (λ t q. more t)
        (side_since w v work after b FallbackSide [] an_element x empty_side h here
        (record {
          numbers = λ e g. absurd g;
          children = λ e g. absurd g;
          fit = λ tree o. none_some refl o;
          whole = λ tree q l o g. none_some refl o;
          others = λ a q l apart g. more b a q l g;
        }))

    -- what stood stands
    pub emptied_stands : Stands (change w b (λ y. record y { fallback_side = empty_side })) after
    emptied_stands = emptied_at (at w.scopes b) refl

  -- a component is fed
  module _ (w : State K) (work : List (Item K)) (t : ℕ) (c : VComponent K) (h : Stands w work) (part : PartFits c) where
    fed_side : (x : Scope K) (a : SideName) → side_of (record x { component = c }) a ≡ side_of x a
    fed_side x MainSide = refl
    fed_side x ChildrenSide = refl
    fed_side x FallbackSide = refl

    fed_at : (o : Option (Scope K)) → at w.scopes t ≡ o → Stands (changed_scope w t (λ x. record x { component = c }) o) work
    fed_at None here = h
    fed_at (Some x) here =
        let v : State K = changed_scope w t (λ y. record y { component = c }) (Some x) in
        let up : w.next.elements ≤ w.next.elements = omega arith in
        let low : w.next_scope ≤ w.next_scope = omega arith in
        let s : Since w v work t MainSide [] an_element t x = same_since w v work work t MainSide [] an_element t x h (λ a q l g. g) here in
        put_stands w v work work t MainSide [] an_element (record x { component = c }) h refl up low h.items (λ u q a r l g. g)
        (record {
          old = s.old;
          found = s.found;
          parent = s.parent;
          below = s.below;
          part = part;
          numbers = λ a e g. s.numbers a e (subst (λ (z : Side K). Among z.numbers e) (fed_side x a) g);
          children = λ a e g. s.children a e (subst (λ (z : Side K). Among z.children e) (fed_side x a) g);
          fit = λ a tree o. s.fit a tree (ap (λ (z : Side K). z.output) (sym (fed_side x a)) ∙ o);
          whole = λ a tree q l o g. subst (λ (z : Side K). (0 < number_at z.numbers q l) ⊎ Among work (Draw t a q l)) (sym (fed_side x a)) (s.whole a tree q l (ap (λ (z : Side K). z.output) (sym (fed_side x a)) ∙ o) g);
        })

    -- what stood stands
    pub fed_stands : Stands (change w t (λ x. record x { component = c })) work
    fed_stands = fed_at (at w.scopes t) refl

  -- a scope is made
  module _ (w : State K) (rest : List (Item K)) (s : ℕ) (side : SideName) (p : Place) (c : VComponent K) (x : Scope K) (h : Stands w (Make s side p c ∷ rest)) (here : at w.scopes s ≡ Some x) (none : at w.scopes w.next_scope ≡ None) where
    abbrev parented : Side K
    parented = record (side_of x side) { children = (side_of x side).children ++ (p, w.next_scope) ∷ [] }

    new_child : (v : State K) → w.next_scope < v.next_scope → (e : Place × ℕ) → Among (side_of x side).children e ⊎ (e ≡ (p, w.next_scope)) → Among (side_of x side).children e ⊎ NewChild w v s side p s side e
    new_child v l e (inl g) = inl g
    new_child v l e (inr g) = inr (refl, refl, ap (λ (z : Place × ℕ). z.0) g, ap (λ (z : Place × ℕ). z.1) g, l, none)

    made_new : (z : Scope K) → Some (new_scope c (Some s) (x.height + 1) side) ≡ Some z → (t : ℕ) → t ≡ w.next_scope → IsNew w s side t z
    made_new z e t q =
        let is : new_scope c (Some s) (x.height + 1) side ≡ z = inj_scope _ z e in
        record {
          number = q;
          parent = ap (λ (y : Scope K). y.parent) (sym is);
          below = ap (λ (y : Scope K). y.below) (sym is);
          part = subst (λ (y : Scope K). PartFits y.component) is h.items.0;
          empty = λ a. ap (λ (y : Scope K). side_of y a) (sym is) ∙ all_empty a;
        }
      where
        all_empty : (a : SideName) → side_of (new_scope c (Some s) (x.height + 1) side) a ≡ empty_side
        all_empty MainSide = refl
        all_empty ChildrenSide = refl
        all_empty FallbackSide = refl

    -- what stood stands where a scope is made
    pub made_stands : Stands (with_new_scope w s side p c x) rest
    made_stands =
        let v : State K = with_new_scope w s side p c x in
        let new : Scope K = new_scope c (Some s) (x.height + 1) side in
        let held : Scope K = with_child side p w.next_scope x in
        let up : w.next.elements ≤ w.next.elements = omega arith in
        let low : w.next_scope ≤ w.next_scope + 1 = omega arith in
        let more : w.next_scope < w.next_scope + 1 = omega arith in
        let absent : at (put w.scopes s held) w.next_scope ≡ None = at_put_none w.scopes s held x w.next_scope here none in
        let mine : Since w v rest s side p an_element s held =
        side_since w v (Make s side p c ∷ rest) rest s side p an_element x parented h here
        (record {
          numbers = λ e g. inl g;
          children = λ e g. new_child v more e (among_push (side_of x side).children (p, w.next_scope) e g);
          fit = λ tree o. h.fit s x side tree here o;
          whole = λ tree q l o g. still_whole q l (h.whole s x side tree q l here o g);
          others = λ a q l apart g. skipped s rest (Make s side p c) (λ b r m i. cc) a q l g;
        }) in
        turned w v (Make s side p c ∷ rest) rest s side p an_element h
        (record {
          elements = up;
          next_scope = low;
          items = h.items.1;
          since =
              λ t z e.
              by_test (nat_eq w.next_scope t)
              (
              λ q.
              let same : w.next_scope ≡ t = eqb-true w.next_scope t q in
              inr (made_new z (sym (at_append_here (put w.scopes s held) w.next_scope new t q (ap (λ (i : ℕ). at (put w.scopes s held) i) (sym same) ∙ absent)) ∙ e) t (sym same))
              )
              (
              λ q.
              inl
              (put_since w v (Make s side p c ∷ rest) rest s side p an_element held t z h (λ r. skipped t rest (Make s side p c) (λ b i m g. cc)) mine
              (sym (at_append_none (put w.scopes s held) w.next_scope new t q) ∙ e))
              );
        })
      where
        still_whole : (q : Place) (l : Kind) → (0 < number_at (side_of x side).numbers q l) ⊎ Among (Make s side p c ∷ rest) (Draw s side q l) → (0 < number_at (side_of x side).numbers q l) ⊎ Among rest (Draw s side q l)
        still_whole q l (inl g) = inl g
        still_whole q l (inr g) = inr (skipped s rest (Make s side p c) (λ b r m i. cc) side q l g)

module _ {K : Types} (app : Application K) where
  -- a tree that fits becomes the output of a side
  module _ (w : State K) (rest : List (Item K)) (s : ℕ) (side : SideName) (tree : Tree K) (x : Scope K) (h : Stands w rest) (here : at w.scopes s ≡ Some x) (fit : FitsBelow tree) where
    abbrev old : List (Spot K)
    old = spots_of (side_of x side).output

    abbrev new : List (Spot K)
    new = spots [] tree

    abbrev after : List (Item K)
    after = (serves app s side old new ++ drops_of app s side new (side_of x side).children old) ++ rest

    abbrev renewed : Side K
    renewed = record { output = Some tree; numbers = kept_numbers new (side_of x side).numbers; children = kept_children app old new (side_of x side).children }

    abbrev patch : State K
    patch = record w { scopes = put w.scopes s (with_side x side renewed) }

    kept_whole : (q : Place) (l : Kind) → Among new (node_at q l) → (0 < number_at (side_of x side).numbers q l) ⊎ Among rest (Draw s side q l) → (0 < number_at renewed.numbers q l) ⊎ Among after (Draw s side q l)
    kept_whole q l there (inl g) = inl (kept_number new (side_of x side).numbers q l (found_node new q l there) g)
    kept_whole q l there (inr g) = inr (among_right (serves app s side old new ++ drops_of app s side new (side_of x side).children old) rest (Draw s side q l) g)

    patch_whole : (q : Place) (l : Kind) → Among new (node_at q l) → (0 < number_at renewed.numbers q l) ⊎ Among after (Draw s side q l)
    patch_whole q l there =
        by_test (has_node old q l)
        (
        λ g.
        let o : OfTree (side_of x side).output (node_at q l) = of_tree (side_of x side).output (node_at q l) (node_found old q l g) in
        kept_whole q l there (h.whole s x side o.tree q l here o.is o.there)
        )
        (
        λ g.
        inr
        (among_left (serves app s side old new ++ drops_of app s side new (side_of x side).children old) rest (Draw s side q l)
        (among_left (serves app s side old new) (drops_of app s side new (side_of x side).children old) (Draw s side q l) (serves_draw app s side old new q l g there)))
        )

    patch_stands : Stands patch after
    patch_stands =
        let up : w.next.elements ≤ w.next.elements = omega arith in
        let low : w.next_scope ≤ w.next_scope = omega arith in
        let first : List (Item K) = serves app s side old new in
        let last : List (Item K) = drops_of app s side new (side_of x side).children old in
        let items : ItemsFit after =
        items_both (first ++ last) rest (items_both first last (serves_fit app s side old new (parts_fit tree fit)) (drops_fit app s side new (side_of x side).children old)) h.items in
        put_stands w patch rest after s side [] an_element (with_side x side renewed) h refl up low items
        (λ t q a r l g. among_right (first ++ last) rest (Draw t a r l) g)
        (side_since w patch rest after s side [] an_element x renewed h here
        (record {
          numbers = λ e g. inl (kept_among new (side_of x side).numbers e g);
          children = λ e g. inl (kept_children_among app old new (side_of x side).children e g);
          fit = λ other o. subst (λ (z : Tree K). FitsBelow z) (some_tree tree other o) fit;
          whole = λ other q l o g. patch_whole q l (subst (λ (z : Tree K). Among (spots [] z) (node_at q l)) (sym (some_tree tree other o)) g);
          others = λ a q l apart g. among_right (first ++ last) rest (Draw s a q l) g;
        }))

  agenda_at : (w : State K) (rest : List (Item K)) (s : ℕ) (side : SideName) (tree : Tree K) (o : Option (Scope K)) → at w.scopes s ≡ o → Stands w rest → FitsBelow tree
      → Leads rest (elim o [
        | None ↦ Done w []
        | Some x ↦ patched app w s side tree (spots_of (side_of x side).output) (spots [] tree) (side_of x side) x
      ])
  agenda_at w rest s side tree None here h fit = h
  agenda_at w rest s side tree (Some x) here h fit = patch_stands w rest s side tree x h here fit

  -- and its agenda comes before the rest
  pub agenda_leads : (w : State K) (rest : List (Item K)) (s : ℕ) (side : SideName) (tree : Tree K) → Stands w rest → FitsBelow tree → Leads rest (start_agenda app w s side tree)
  agenda_leads w rest s side tree h fit = agenda_at w rest s side tree (at w.scopes s) refl h fit
