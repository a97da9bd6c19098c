-- The home of a number in a state: the scope, the side and the place at which it stands, and the scopes above that one.
use Rattle.std.proofs.Common.{ℕ, zero, suc, ◌+◌, ◌≤◌, ◌<◌, true, List, [], ◌∷◌, ◌++◌, ◌≡◌, inl, inr, refl, sym, ap, ◌∙◌, subst, arith, nat_eq, length}
use Rattle.std.specs.Prelude.{Option, Some, None}
use Rattle.std.proofs.lemmas.Bool.{eqb-true}
use Rattle.rt_model.specs.Lists.{at}
use Rattle.rt_model.specs.Tree.{Types, Tree, Place, Kind, Spot, node_at, component_at, spots}
use Rattle.rt_model.specs.State.{SideName, Scope, State, side_of, is_live, height_of}
use Rattle.rt_model.specs.Document.{Forest, count_of}
use Rattle.rt_model.specs.Heard.{number_at}
use Rattle.rt_model.specs.View.{child_view, tree_view, nodes_of}
use Rattle.rt_model.proofs.Among.{Among, among_contained}
use Rattle.rt_model.proofs.SamePlaces.{number_stands}
use Rattle.rt_model.proofs.ViewCounts.{one_if, passes}
use Rattle.law_moves.proofs.Twigs.{up, below, live_found}
use Rattle.law_moves.proofs.Woven.{Climb}
use Rattle.law_headline.proofs.Heights.{height_low}
use Rattle.law_headline.proofs.Did.{same_scope}
use Rattle.law_moves.specs.Trees.{HasChild}
use Rattle.law_headline.proofs.Nodes.{Shown, Settled, shown_of, view_of, kid_of}
use Rattle.law_headline.proofs.Climbs.{climb_on, climb_height, rises, no_cycle, parent_lives}
use Rattle.law_headline.proofs.Above.{climb_one}
use Rattle.law_headline.proofs.ClaimedOnce.{Tag, Here, here_more, Known, tree_counted}

module _ {K : Types} (base : State K) (settled : Settled base) (i : ℕ) where
  -- the number stands at a place of a side of a scope
  pub record Entry (t : ℕ) (a : SideName) (p : Place) (k : Kind) : Type 0 where
    pub row : Scope K
    pub found : at base.scopes t ≡ Some row
    pub number : Among (side_of row a).numbers (p, k, i)

  -- it stands in a scope, or in one that is below it
  pub record Under (s : ℕ) : Type 0 where
    pub scope : ℕ
    pub side : SideName
    pub place : Place
    pub kind : Kind
    pub entry : Entry scope side place kind
    pub path : List ℕ
    pub climb : Climb base path scope s

  -- a child scope stands at a place of a side
  pub record KidAt (t : ℕ) (a : SideName) (p : Place) (u : ℕ) : Type 0 where
    pub row : Scope K
    pub found : at base.scopes t ≡ Some row
    pub child : Among (side_of row a).children (p, u)
    pub above : up base u ≡ Some t
    pub below_is : below base u ≡ Some a

  -- the number's home as a scope's side meets it
  abbrev pub HomeAt : ℕ → SideName → Place → Tag → Type 0
  HomeAt t a p (Some k) = Entry t a p k
  HomeAt t a p None = (u : ℕ) × KidAt t a p u × Under u

  entry_once : (s t : ℕ) (a b : SideName) (p q : Place) (k l : Kind) → Entry s a p k → Entry t b q l → (s ≡ t) × (a ≡ b) × (p ≡ q) × (k ≡ l)
  entry_once s t a b p q k l e d = (settled.ready.stands).once s t i e.row d.row a b p q k l e.found d.found e.number d.number

  -- one child scope of a scope has the number at or below it
  pub kid_once : (t u w : ℕ) (a b : SideName) (p q : Place) → KidAt t a p u → Under u → KidAt t b q w → Under w → u ≡ w
  kid_once t u w a b p q m x n y =
      let scope : x.scope ≡ y.scope = (entry_once x.scope y.scope x.side y.side x.place y.place x.kind y.kind x.entry y.entry).0 in
      let one = climb_height base [] settled.ready x.path x.scope u x.climb in
      let two = climb_height base [] settled.ready y.path y.scope w y.climb in
      let three = rises base [] settled.ready u t m.above in
      let four = rises base [] settled.ready w t n.above in
      let same : height_of base.scopes x.scope ≡ height_of base.scopes y.scope = ap (λ (j : ℕ). height_of base.scopes j) scope in
      let lengths : length x.path ≡ length y.path = omega (arith, one, two, three, four, same) in
      climb_one base x.path y.path x.scope u w x.climb (subst (λ (j : ℕ). Climb base y.path j w) (sym scope) y.climb) lengths

  -- a scope that has the number itself has it below no child
  own_not_below : {P : Type 0} (t u : ℕ) (a b : SideName) (p q : Place) (k : Kind) → Entry t a p k → KidAt t b q u → Under u → P
  own_not_below t u a b p q k e m x =
      let scope : x.scope ≡ t = (entry_once x.scope t x.side a x.place p x.kind k x.entry e).0 in
      no_cycle base [] settled.ready x.path t u (subst (λ (j : ℕ). Climb base x.path j u) scope x.climb) m.above

  some_side : (a b : SideName) → Some a ≡ Some b → a ≡ b
  some_side a b e = cc

  -- the home is at one place, of one kind
  pub home_once : (t : ℕ) (a : SideName) (p q : Place) (k l : Tag) → HomeAt t a p k → HomeAt t a q l → (p ≡ q) × (k ≡ l)
  home_once t a p q (Some k) (Some l) e d = let one = entry_once t t a a p q k l e d in (one.2, ap (λ (z : Kind). Some z) one.3)
  home_once t a p q (Some k) None e d = own_not_below t d.0 a a p q k e d.1 d.2
  home_once t a p q None (Some l) e d = own_not_below t e.0 a a q p l d e.1 e.2
  home_once t a p q None None e d =
      let same : e.0 ≡ d.0 = kid_once t e.0 d.0 a a p q e.1 e.2 d.1 d.2 in
      let m : KidAt t a p e.0 = e.1 in
      let n : KidAt t a q d.0 = d.1 in
      let one : m.row ≡ n.row = same_scope m.row n.row (sym m.found ∙ n.found) in
      let there : Among (side_of m.row a).children (q, e.0) =
      subst (λ (z : Scope K). Among (side_of z a).children (q, e.0)) (sym one) (subst (λ (u : ℕ). Among (side_of n.row a).children (q, u)) (sym same) n.child) in
      ((settled.ready.stands).slot t e.0 m.row a p q m.found m.child there, refl)

  -- and on one side
  pub home_side : (t : ℕ) (a b : SideName) (p q : Place) (k l : Tag) → HomeAt t a p k → HomeAt t b q l → a ≡ b
  home_side t a b p q (Some k) (Some l) e d = (entry_once t t a b p q k l e d).1
  home_side t a b p q (Some k) None e d = own_not_below t d.0 a b p q k e d.1 d.2
  home_side t a b p q None (Some l) e d = own_not_below t e.0 b a q p l d e.1 e.2
  home_side t a b p q None None e d =
      let same : e.0 ≡ d.0 = kid_once t e.0 d.0 a b p q e.1 e.2 d.1 d.2 in
      let m : KidAt t a p e.0 = e.1 in
      let n : KidAt t b q d.0 = d.1 in
      some_side a b (sym m.below_is ∙ ap (λ (u : ℕ). below base u) same ∙ n.below_is)

  pub home_under : (t : ℕ) (a : SideName) (p : Place) (k : Tag) → HomeAt t a p k → Under t
  home_under t a p (Some k) e = record { scope = t; side = a; place = p; kind = k; entry = e; path = []; climb = refl }
  home_under t a p None e =
      let x : Under e.0 = e.2 in
      let m : KidAt t a p e.0 = e.1 in
      record { scope = x.scope; side = x.side; place = x.place; kind = x.kind; entry = x.entry; path = x.path ++ t ∷ []; climb = climb_on base x.path (t ∷ []) x.scope e.0 t x.climb (m.above, refl) }

  -- what is under a live scope's way up is live
  pub under_lives : (s : ℕ) → Under s → is_live base s ≡ true
  under_lives s x = down x.path x.scope (live_found base x.scope x.entry.row x.entry.found) x.climb
    where
      down : (path : List ℕ) (t : ℕ) → is_live base t ≡ true → Climb base path t s → is_live base s ≡ true
      down [] t live c = subst (λ (j : ℕ). is_live base j ≡ true) c live
      down (p ∷ path) t live c = down path p (parent_lives base [] settled.ready t p c.0) c.1

  -- another state whose numbers and children have their homes here
  module _ (w : State K) (h : Settled w)
      (entry_of : (t : ℕ) (x : Scope K) (a : SideName) (p : Place) (k : Kind) → at w.scopes t ≡ Some x → Among (side_of x a).numbers (p, k, i) → Entry t a p k)
      (kid_at : (t : ℕ) (x : Scope K) (a : SideName) (p : Place) (kid : HasChild w t x a p) → at w.scopes t ≡ Some x → 0 < count_of i (nodes_of w kid.child) → Under kid.child → KidAt t a p kid.child) where
    -- what is known of the spots of its outputs
    pub spot_known : (t : ℕ) (x : Scope K) (a : SideName) (tree : Tree K) → at w.scopes t ≡ Some x → (side_of x a).output ≡ Some tree
        → ((u : ℕ) (y : Scope K) → at w.scopes u ≡ Some y → y.height ≡ x.height + 1 → Here (count_of i (nodes_of w u)) (Under u))
        → (e : Spot K) → Among (spots [] tree) e → Known (λ p k. HomeAt t a p k) (λ p q k l c d. home_once t a p q k l c d) (side_of x a) (λ u. nodes_of w u) i e
    spot_known t x a tree found output go (node_at p k) g = (
      one_if (nat_eq (number_at (side_of x a).numbers p k) i),
      λ more.
          let is : number_at (side_of x a).numbers p k ≡ i = eqb-true (number_at (side_of x a).numbers p k) i (passes (nat_eq (number_at (side_of x a).numbers p k) i) more) in
          let had : 0 < number_at (side_of x a).numbers p k = elim ((h.ready.stands).whole t x a tree p k found output g) [ inl d ↦ d | inr d ↦ absurd d ] in
          let positive : 0 < i = subst (λ (n : ℕ). 0 < n) is had in
          entry_of t x a p k found (among_contained (side_of x a).numbers (p, k, i) (number_stands (side_of x a).numbers p k i positive is)),
    )
    spot_known t x a tree found output go (component_at p c) g =
        let kid : HasChild w t x a p = kid_of w h t x a tree p c found output g in
        let inner = go kid.child kid.record_of kid.live kid.height in
        subst (λ (o : Option ℕ). Here (count_of i (child_view (λ u. nodes_of w u) o)) (HomeAt t a p None)) (sym kid.kid)
        (inner.0, λ more. (kid.child, kid_at t x a p kid found more (inner.1 more), inner.1 more))

    -- how often a scope shows the number, and where its home is then, by what its children show
    nodes_step : (t : ℕ) (x : Scope K) (found : at w.scopes t ≡ Some x)
        → ((u : ℕ) (y : Scope K) → at w.scopes u ≡ Some y → y.height ≡ x.height + 1 → Here (count_of i (nodes_of w u)) (Under u))
        → Here (count_of i (nodes_of w t)) ((p : Place) × (k : Tag) × HomeAt t (shown_of w h t x found).side p k)
    nodes_step t x found go =
        let d : Shown x = shown_of w h t x found in
        here_more (count_of i (nodes_of w t)) (count_of i (tree_view (side_of x d.side) (λ u. nodes_of w u) [] d.tree)) (ap (λ (z : Forest). count_of i z) (view_of w h t x found d))
        (λ c. (c.0, c.1, c.2))
        (tree_counted (λ p k. HomeAt t d.side p k) (λ p q k l c e. home_once t d.side p q k l c e) (side_of x d.side) (λ u. nodes_of w u) i [] d.tree (spot_known t x d.side d.tree found d.output go))

    nodes_under : (n t : ℕ) (x : Scope K) → at w.scopes t ≡ Some x → length w.scopes ≤ x.height + n → Here (count_of i (nodes_of w t)) (Under t)
    nodes_under zero t x found bound = let low = height_low w h.tree t x found in absurd (omega (arith, low, bound))
    nodes_under (suc n) t x found bound =
        here_more (count_of i (nodes_of w t)) (count_of i (nodes_of w t)) refl (λ c. home_under t (shown_of w h t x found).side c.0 c.1 c.2)
        (nodes_step t x found (λ u y there level. nodes_under n u y there (omega (arith, bound, level))))

    pub scope_under : (t : ℕ) (x : Scope K) → at w.scopes t ≡ Some x → Here (count_of i (nodes_of w t)) (Under t)
    scope_under t x found = nodes_under (length w.scopes) t x found (omega arith)

    pub scope_home : (t : ℕ) (x : Scope K) (found : at w.scopes t ≡ Some x) → Here (count_of i (nodes_of w t)) ((p : Place) × (k : Tag) × HomeAt t (shown_of w h t x found).side p k)
    scope_home t x found = nodes_step t x found (λ u y there level. scope_under u y there)
