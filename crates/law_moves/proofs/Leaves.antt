-- What a removal takes first is found by a walk down the first children.
use Rattle.std.proofs.Common.{ℕ, zero, suc, ◌+◌, ◌≤◌, ◌<◌, Bool, true, false, List, [], ◌∷◌, ◌++◌, ◌≡◌, refl, sym, ap, ◌∙◌, subst, arith, nat_eq, nat_lt, length}
use Rattle.std.specs.Prelude.{Option, Some, None, is_some, if◌then◌else◌}
use Rattle.std.specs.List.{AllByRecursion}
use Rattle.rt_model.specs.Lists.{at}
use Rattle.rt_model.specs.Tree.{Types, Place, Spot, node_at, component_at}
use Rattle.rt_model.specs.State.{Side, Scope, State, is_live, height_of}
use Rattle.rt_model.specs.Run.{child_at, spots_of}
use Rattle.rt_model.specs.Boundary.{live_child, children_among, side_scopes}
use Rattle.rt_model.specs.Removal.{children_below, first_leaf, next_removed}
use Rattle.rt_model.proofs.Maps.{by_test, pick_true, pick_false}
use Rattle.law_moves.specs.Removals.{children_at, Wooded, FirstChildsLeaf, LeafItself, WaysLeaf, RemovalWalks}

pub all_joined : (P : ℕ → Type 0) (xs ys : List ℕ) → AllByRecursion P xs → AllByRecursion P ys → AllByRecursion P (xs ++ ys)
all_joined P [] ys h g = g
all_joined P (x ∷ xs) ys h g = (h.0, all_joined P xs ys h.1 g)

-- one where the test holds
abbrev one_if : Bool → ℕ
one_if b = if b then 1 else 0

one_if_true : (b : Bool) → b ≡ true → one_if b ≡ 1
one_if_true b h = pick_true 1 0 h

one_if_false : (b : Bool) → b ≡ false → one_if b ≡ 0
one_if_false b h = pick_false 1 0 h

one_at_most : (b : Bool) → one_if b ≤ 1
one_at_most true = omega arith
one_at_most false = omega arith

-- what is higher than a greater height is higher than a lesser one
higher_falls : (h n : ℕ) → one_if (nat_lt (h + 1) n) ≤ one_if (nat_lt h n)
higher_falls h n =
    by_test (nat_lt h n)
    (λ q. let here = one_if_true (nat_lt h n) q in let most = one_at_most (nat_lt (h + 1) n) in omega (arith, here, most))
    (
    λ q.
    let low : n ≤ h = grind (arith, q) in
    let past : nat_lt (h + 1) n ≡ false = grind (arith, low) in
    let none = one_if_false (nat_lt (h + 1) n) past in
    omega (arith, none)
    )

-- what stands one above a height is counted there and not one further up
higher_ends : (h n : ℕ) → n ≡ h + 1 → one_if (nat_lt (h + 1) n) + 1 ≤ one_if (nat_lt h n)
higher_ends h n e =
    let low : h < n = omega (arith, e) in
    let end : n ≤ h + 1 = omega (arith, e) in
    let yes : nat_lt h n ≡ true = grind (arith, low) in
    let no : nat_lt (h + 1) n ≡ false = grind (arith, end) in
    let one = one_if_true (nat_lt h n) yes in
    let none = one_if_false (nat_lt (h + 1) n) no in
    omega (arith, one, none)

module _ {K : Types} where
  -- these scopes are live
  abbrev pub AllLive : State K → List ℕ → Type 0
  AllLive w scopes = AllByRecursion (λ (s : ℕ). is_live w s ≡ true) scopes

  live_if : (w : State K) (t : ℕ) (b : Bool) → is_live w t ≡ b → AllLive w (if b then t ∷ [] else [])
  live_if w t true e = (e, tt)
  live_if w t false e = tt

  live_child_lives : (w : State K) (o : Option ℕ) → AllLive w (live_child w o)
  live_child_lives w None = tt
  live_child_lives w (Some t) = live_if w t (is_live w t) refl

  among_live : (w : State K) (children : List (Place × ℕ)) (ss : List (Spot K)) → AllLive w (children_among w children ss)
  among_live w children [] = tt
  among_live w children (node_at p k ∷ ss) = among_live w children ss
  among_live w children (component_at p c ∷ ss) =
      all_joined (λ (s : ℕ). is_live w s ≡ true) (live_child w (child_at children p)) (children_among w children ss)
      (live_child_lives w (child_at children p))
      (among_live w children ss)

  side_live : (w : State K) (side : Side K) → AllLive w (side_scopes w side)
  side_live w side = among_live w side.children (spots_of side.output)

  below_live : (w : State K) (o : Option (Scope K)) → AllLive w (children_below w o)
  below_live w None = tt
  below_live w (Some x) =
      let live : ℕ → Type 0 = λ (s : ℕ). is_live w s ≡ true in
      let upper : List ℕ = side_scopes w x.fallback_side ++ side_scopes w x.children_side in
      all_joined live upper (side_scopes w x.main_side)
      (all_joined live (side_scopes w x.fallback_side) (side_scopes w x.children_side) (side_live w x.fallback_side) (side_live w x.children_side))
      (side_live w x.main_side)

  -- the children of a scope are live
  pub children_live : (w : State K) (s : ℕ) → AllLive w (children_at w s)
  children_live w s = below_live w (at w.scopes s)

  -- how many scopes of a list stand higher than this
  abbrev pub above : ℕ → List (ℕ × Scope K) → ℕ
  above h [] = 0
  above h (e ∷ es) = one_if (nat_lt h (e.1).height) + above h es

  above_less : (h : ℕ) (es : List (ℕ × Scope K)) → above (h + 1) es ≤ above h es
  above_less h [] = omega arith
  above_less h (e ∷ es) = let here = higher_falls h (e.1).height in let tail = above_less h es in omega (arith, here, tail)

  pub above_all : (h : ℕ) (es : List (ℕ × Scope K)) → above h es ≤ length es
  above_all h [] = omega arith
  above_all h (e ∷ es) = let here = one_at_most (nat_lt h (e.1).height) in let tail = above_all h es in omega (arith, here, tail)

  -- the height of what is found
  abbrev height_in : Option (Scope K) → ℕ
  height_in o = elim o as (λ z. ℕ) [ None ↦ 0 | Some x ↦ x.height ]

  -- one level further up a live scope less is counted
  above_falls : (h s : ℕ) (es : List (ℕ × Scope K)) → is_some (at es s) ≡ true → height_in (at es s) ≡ h + 1 → above (h + 1) es + 1 ≤ above h es
  above_falls h s [] live e = cc
  above_falls h s (d ∷ es) live e =
      by_test (nat_eq d.0 s)
      (
      λ q.
      let same : at (d ∷ es) s ≡ Some d.1 = pick_true (Some d.1) (at es s) q in
      let height : (d.1).height ≡ h + 1 = sym (ap (λ (o : Option (Scope K)). height_in o) same) ∙ e in
      let here = higher_ends h (d.1).height height in
      let tail = above_less h es in
      omega (arith, here, tail)
      )
      (
      λ q.
      let same : at (d ∷ es) s ≡ at es s = pick_false (Some d.1) (at es s) q in
      let here = higher_falls h (d.1).height in
      let tail =
      above_falls h s es (sym (ap (λ (o : Option (Scope K)). is_some o) same) ∙ live) (sym (ap (λ (o : Option (Scope K)). height_in o) same) ∙ e) in
      omega (arith, here, tail)
      )

  -- the first child stands one level below
  pub first_height : (w : State K) → Wooded w → (s child : ℕ) (others : List ℕ) → children_at w s ≡ child ∷ others → height_of w.scopes child ≡ height_of w.scopes s + 1
  first_height w wood s child others e =
      (subst (λ (cs : List ℕ). AllByRecursion (λ (c : ℕ). height_of w.scopes c ≡ height_of w.scopes s + 1) cs) e (wood.rises s)).0

  -- the first child is live
  pub first_live : (w : State K) (s child : ℕ) (others : List ℕ) → children_at w s ≡ child ∷ others → is_live w child ≡ true
  first_live w s child others e = (subst (λ (cs : List ℕ). AllLive w cs) e (children_live w s)).0

  module _ (w : State K) (wood : Wooded w) where
    -- how many scopes are higher than this one
    abbrev pub above_scope : ℕ → ℕ
    above_scope s = above (height_of w.scopes s) w.scopes

    pub child_falls : (s child : ℕ) (others : List ℕ) → children_at w s ≡ child ∷ others → above_scope child + 1 ≤ above_scope s
    child_falls s child others e =
        let up : height_of w.scopes child ≡ height_of w.scopes s + 1 = first_height w wood s child others e in
        subst (λ (n : ℕ). above n w.scopes + 1 ≤ above_scope s) (sym up)
        (above_falls (height_of w.scopes s) child w.scopes (first_live w s child others e) up)

    -- what one more step down finds
    abbrev down : (ℕ → ℕ) → ℕ → List ℕ → ℕ
    down go s children = elim children as (λ z. ℕ) [ [] ↦ s | child ∷ others ↦ go child ]

    down_alike : (go hop : ℕ → ℕ) (s : ℕ) (children : List ℕ) → children_at w s ≡ children
        → ((child : ℕ) (others : List ℕ) → children_at w s ≡ child ∷ others → go child ≡ hop child)
        → down go s children ≡ down hop s children
    down_alike go hop s [] e h = refl
    down_alike go hop s (child ∷ others) e h = h child others e

    down_ends : (go : ℕ → ℕ) (s : ℕ) (children : List ℕ) → children_at w s ≡ children → above_scope s ≤ 0 → down go s children ≡ s
    down_ends go s [] e none = refl
    down_ends go s (child ∷ others) e none = let less = child_falls s child others e in absurd (omega (arith, none, less))

    -- as many steps down as scopes are higher find it, and more find the same
    same_leaf : (n k s : ℕ) → above_scope s ≤ n → above_scope s ≤ k → first_leaf w n s ≡ first_leaf w k s
    same_leaf zero zero s a b = refl
    same_leaf zero (suc k) s a b = sym (down_ends (λ child. first_leaf w k child) s (children_at w s) refl a)
    same_leaf (suc n) zero s a b = down_ends (λ child. first_leaf w n child) s (children_at w s) refl b
    same_leaf (suc n) (suc k) s a b =
        down_alike (λ child. first_leaf w n child) (λ child. first_leaf w k child) s (children_at w s) refl
        (λ child others e. let less = child_falls s child others e in same_leaf n k child (omega (arith, a, less)) (omega (arith, b, less)))

    -- the walk may begin with one step down
    one_down : (s : ℕ) (children : List ℕ) → children_at w s ≡ children → next_removed w s ≡ down (λ child. next_removed w child) s children
    one_down s children e =
        let n : ℕ = length w.scopes in
        let all = above_all (height_of w.scopes s) w.scopes in
        same_leaf n (suc n) s all (omega (arith, all)) ∙ ap (λ (cs : List ℕ). down (λ child. first_leaf w n child) s cs) e

    first_childs_leaf : FirstChildsLeaf w
    first_childs_leaf s child others e = one_down s (child ∷ others) e

    leaf_itself : LeafItself w
    leaf_itself s e = one_down s [] e

    ways_leaf : WaysLeaf w
    ways_leaf [] top s way = ap (λ (n : ℕ). next_removed w n) way
    ways_leaf (child ∷ path) top s way = first_childs_leaf top child way.0.0 way.0.1 ∙ ways_leaf path child s way.1

-- what a removal takes first is found by a walk down the first children
pub removal_walks : (K : Types) → RemovalWalks K
removal_walks K w wood = (first_childs_leaf w wood, leaf_itself w wood, ways_leaf w wood)
