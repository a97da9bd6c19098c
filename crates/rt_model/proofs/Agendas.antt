-- What a patch keeps of the numbers and children of a side, and which numbers it draws.
use Rattle.std.proofs.Common.{ℕ, Bool, true, false, List, [], ◌∷◌, ◌++◌, ◌≡◌, ◌<◌, ◌&&◌, ◌||◌, ◌⊎◌, refl, sym, ap, ◌∙◌, subst, arith, inl, inr}
use Rattle.std.specs.Prelude.{Some, if◌then◌else◌}
use Rattle.rt_lemmas.proofs.Bools.{or_all as or_true}
use Rattle.rt_model.specs.Tree.{Types, VComponent, Tree, Place, same_place, Kind, same_kind, Spot, node_at, component_at}
use Rattle.rt_model.specs.World.{Application}
use Rattle.rt_model.specs.State.{SideName, Item, Draw, Feed, Make}
use Rattle.rt_model.specs.Run.{has_node, component_in, kept_numbers, is_fed, kept_children, serves}
use Rattle.rt_model.specs.Heard.{number_at}
use Rattle.rt_model.proofs.Maps.{by_test, pick_true, pick_false}
use Rattle.rt_model.proofs.Among.{Among, or_else_true, place_same, kind_same}
use Rattle.rt_model.proofs.SamePlaces.{same_place-true, same_kind-true}
use Rattle.rt_model.proofs.Conjunctions.{and-left, and-right}

abbrev Numbers : Type 0
Numbers = List (Place × Kind × ℕ)

-- an entry of a place
abbrev is_here : Place × Kind × ℕ → Place → Kind → Bool
is_here e p k = same_kind e.1 k && same_place e.0 p

here_kind : (e : Place × Kind × ℕ) (p : Place) (k : Kind) → is_here e p k ≡ true → e.1 ≡ k
here_kind e p k h = same_kind-true e.1 k (and-left (same_kind e.1 k) (same_place e.0 p) h)

here_place : (e : Place × Kind × ℕ) (p : Place) (k : Kind) → is_here e p k ≡ true → e.0 ≡ p
here_place e p k h = same_place-true e.0 p (and-right (same_kind e.1 k) (same_place e.0 p) h)

here_itself : (p : Place) (k : Kind) → same_kind k k && same_place p p ≡ true
here_itself p k = ap (λ (b : Bool). b && same_place p p) (kind_same k) ∙ place_same p

no_number : {P : Type 0} → 0 < 0 → P
no_number h = absurd (omega (arith, h))

-- a place that has a number has it still after a further entry
pub number_more : (es : Numbers) (f : Place × Kind × ℕ) (p : Place) (k : Kind) → 0 < number_at es p k → 0 < number_at (es ++ f ∷ []) p k
number_more [] f p k h = no_number h
number_more (e ∷ es) f p k h =
    by_test (is_here e p k)
    (λ q. subst (λ (n : ℕ). 0 < n) (pick_true e.2 (number_at es p k) q ∙ sym (pick_true e.2 (number_at (es ++ f ∷ []) p k) q)) h)
    (
    λ q.
    let rest : 0 < number_at es p k = subst (λ (n : ℕ). 0 < n) (pick_false e.2 (number_at es p k) q) h in
    subst (λ (n : ℕ). 0 < n) (sym (pick_false e.2 (number_at (es ++ f ∷ []) p k) q)) (number_more es f p k rest)
    )

-- and the place of that entry has one
pub number_new : (es : Numbers) (p : Place) (k : Kind) (n : ℕ) → ((q : Place) (l : Kind) (i : ℕ) → Among es (q, l, i) → 0 < i) → 0 < n → 0 < number_at (es ++ (p, k, n) ∷ []) p k
number_new [] p k n all h = subst (λ (i : ℕ). 0 < i) (sym (pick_true n 0 (here_itself p k))) h
number_new (e ∷ es) p k n all h =
    by_test (is_here e p k)
    (λ q. subst (λ (i : ℕ). 0 < i) (sym (pick_true e.2 (number_at (es ++ (p, k, n) ∷ []) p k) q)) (all e.0 e.1 e.2 (inl refl)))
    (λ q. subst (λ (i : ℕ). 0 < i) (sym (pick_false e.2 (number_at (es ++ (p, k, n) ∷ []) p k) q)) (number_new es p k n (λ r l i g. all r l i (inr g)) h))

among_if : {A : Type 0} (b : Bool) (x : A) (xs : List A) (y : A) → Among (if b then x ∷ xs else xs) y → (x ≡ y) ⊎ Among xs y
among_if true x xs y (inl h) = inl h
among_if true x xs y (inr h) = inr h
among_if false x xs y h = inr h

module _ {K : Types} where
  -- equal outputs are equal trees
  pub some_tree : (a b : Tree K) → Some a ≡ Some b → a ≡ b
  some_tree a b h = cc

  -- equal items draw for one scope
  pub draw_scope : (s t : ℕ) (a b : SideName) (p q : Place) (k l : Kind) → ◌≡◌ {A = Item K} (Draw s a p k) (Draw t b q l) → s ≡ t
  draw_scope s t a b p q k l h = cc

  -- they draw for one side
  pub draw_side : (s t : ℕ) (a b : SideName) (p q : Place) (k l : Kind) → ◌≡◌ {A = Item K} (Draw s a p k) (Draw t b q l) → a ≡ b
  draw_side s t a b p q k l h = cc

  -- they draw for one place
  pub draw_place : (s t : ℕ) (a b : SideName) (p q : Place) (k l : Kind) → ◌≡◌ {A = Item K} (Draw s a p k) (Draw t b q l) → p ≡ q
  draw_place s t a b p q k l h = cc

  -- they draw for one kind
  pub draw_kind : (s t : ℕ) (a b : SideName) (p q : Place) (k l : Kind) → ◌≡◌ {A = Item K} (Draw s a p k) (Draw t b q l) → k ≡ l
  draw_kind s t a b p q k l h = cc

  -- a node that the test finds is there
  pub node_found : (ss : List (Spot K)) (p : Place) (k : Kind) → has_node ss p k ≡ true → Among ss (node_at p k)
  node_found [] p k h = cc
  node_found (component_at q c ∷ ss) p k h = inr (node_found ss p k h)
  node_found (node_at q l ∷ ss) p k h =
      elim (or_else_true (same_kind l k && same_place q p) (has_node ss p k) h) [
        | inl g ↦
            inl
            (ap (λ (z : Place). node_at z l) (same_place-true q p (and-right (same_kind l k) (same_place q p) g))
            ∙ ap (λ (z : Kind). node_at p z) (same_kind-true l k (and-left (same_kind l k) (same_place q p) g)))
        | inr g ↦ inr (node_found ss p k g)
      ]

  spot_place : (q p : Place) (l k : Kind) → ◌≡◌ {A = Spot K} (node_at q l) (node_at p k) → q ≡ p
  spot_place q p l k h = cc

  spot_kind : (q p : Place) (l k : Kind) → ◌≡◌ {A = Spot K} (node_at q l) (node_at p k) → l ≡ k
  spot_kind q p l k h = cc

  not_a_node : {P : Type 0} (q p : Place) (c : VComponent K) (k : Kind) → component_at q c ≡ node_at p k → P
  not_a_node q p c k h = cc

  -- and one that is there is found
  pub found_node : (ss : List (Spot K)) (p : Place) (k : Kind) → Among ss (node_at p k) → has_node ss p k ≡ true
  found_node [] p k h = absurd h
  found_node (component_at q c ∷ ss) p k (inl h) = not_a_node q p c k h
  found_node (component_at q c ∷ ss) p k (inr h) = found_node ss p k h
  found_node (node_at q l ∷ ss) p k (inl h) =
      ap (λ (z : Kind). (same_kind z k && same_place q p) || has_node ss p k) (spot_kind q p l k h)
      ∙ ap (λ (z : Place). (same_kind k k && same_place z p) || has_node ss p k) (spot_place q p l k h)
      ∙ ap (λ (b : Bool). b || has_node ss p k) (here_itself p k)
  found_node (node_at q l ∷ ss) p k (inr h) = ap (λ (b : Bool). (same_kind l k && same_place q p) || b) (found_node ss p k h) ∙ or_true (same_kind l k && same_place q p)

  -- the kept numbers are numbers that stood there
  pub kept_among : (new : List (Spot K)) (es : Numbers) (e : Place × Kind × ℕ) → Among (kept_numbers new es) e → Among es e
  kept_among new [] e h = h
  kept_among new (f ∷ es) e h =
      elim (among_if (has_node new f.0 f.1) f (kept_numbers new es) e h) [ inl g ↦ inl g | inr g ↦ inr (kept_among new es e g) ]

  -- a place that the new tree has keeps its number
  pub kept_number : (new : List (Spot K)) (es : Numbers) (p : Place) (k : Kind) → has_node new p k ≡ true → 0 < number_at es p k → 0 < number_at (kept_numbers new es) p k
  kept_number new [] p k h g = no_number g
  kept_number new (e ∷ es) p k h g =
      let kept : List (Place × Kind × ℕ) = kept_numbers new es in
      by_test (is_here e p k)
      (
      λ q.
      let stays : has_node new e.0 e.1 ≡ true =
      ap (λ (z : Place). has_node new z e.1) (here_place e p k q) ∙ ap (λ (z : Kind). has_node new p z) (here_kind e p k q) ∙ h in
      let same : number_at (e ∷ es) p k ≡ number_at (kept_numbers new (e ∷ es)) p k =
      pick_true e.2 (number_at es p k) q ∙ sym (pick_true e.2 (number_at kept p k) q) ∙ ap (λ (xs : Numbers). number_at xs p k) (sym (pick_true (e ∷ kept) kept stays)) in
      subst (λ (n : ℕ). 0 < n) same g
      )
      (
      λ q.
      let rest : 0 < number_at kept p k = kept_number new es p k h (subst (λ (n : ℕ). 0 < n) (pick_false e.2 (number_at es p k) q) g) in
      by_test (has_node new e.0 e.1)
      (λ r. subst (λ (n : ℕ). 0 < n) (sym (pick_false e.2 (number_at kept p k) q) ∙ ap (λ (xs : Numbers). number_at xs p k) (sym (pick_true (e ∷ kept) kept r))) rest)
      (λ r. subst (λ (n : ℕ). 0 < n) (ap (λ (xs : Numbers). number_at xs p k) (sym (pick_false (e ∷ kept) kept r))) rest)
      )

module _ {K : Types} (app : Application K) where
  -- the kept children are children that stood there
  pub kept_children_among : (old new : List (Spot K)) (es : List (Place × ℕ)) (e : Place × ℕ) → Among (kept_children app old new es) e → Among es e
  kept_children_among old new [] e h = h
  kept_children_among old new (f ∷ es) e h =
      elim (among_if (is_fed app (component_in old f.0) (component_in new f.0)) f (kept_children app old new es) e h) [ inl g ↦ inl g | inr g ↦ inr (kept_children_among old new es e g) ]

  among_either : {A : Type 0} (b : Bool) (xs ys : List A) (y : A) → Among xs y → Among ys y → Among (if b then xs else ys) y
  among_either true xs ys y h g = h
  among_either false xs ys y h g = g

  -- a node that the old tree hasn't draws a number
  pub serves_draw : (s : ℕ) (side : SideName) (old new : List (Spot K)) (p : Place) (k : Kind) → has_node old p k ≡ false → Among new (node_at p k) → Among (serves app s side old new) (Draw s side p k)
  serves_draw s side old [] p k h g = absurd g
  serves_draw s side old (component_at q c ∷ new) p k h (inl g) = not_a_node q p c k g
  serves_draw s side old (component_at q c ∷ new) p k h (inr g) =
      among_either (is_fed app (component_in old q) (Some c)) (Feed s side q c ∷ serves app s side old new) (Make s side q c ∷ serves app s side old new) (Draw s side p k)
      (inr (serves_draw s side old new p k h g))
      (inr (serves_draw s side old new p k h g))
  serves_draw s side old (node_at q l ∷ new) p k h (inl g) =
      let apart : has_node old q l ≡ false = ap (λ (z : Place). has_node old z l) (spot_place q p l k g) ∙ ap (λ (z : Kind). has_node old p z) (spot_kind q p l k g) ∙ h in
      let item : Draw s side q l ≡ Draw s side p k = ap (λ (z : Place). Draw s side z l) (spot_place q p l k g) ∙ ap (λ (z : Kind). Draw s side p z) (spot_kind q p l k g) in
      subst (λ (xs : List (Item K)). Among xs (Draw s side p k)) (sym (pick_false (serves app s side old new) (Draw s side q l ∷ serves app s side old new) apart)) (inl item)
  serves_draw s side old (node_at q l ∷ new) p k h (inr g) =
      among_either (has_node old q l) (serves app s side old new) (Draw s side q l ∷ serves app s side old new) (Draw s side p k)
      (serves_draw s side old new p k h g)
      (inr (serves_draw s side old new p k h g))
