-- The view of a well-numbered state has no number twice, and none is 0.
use Rattle.std.proofs.Common.{ℕ, zero, suc, ◌+◌, ◌≤◌, ◌<◌, [], ◌≡◌, refl, sym, ap, ◌∙◌, nat_eq, length, arith}
use Rattle.std.specs.Prelude.{Option, Some, None, Contains}
use Rattle.std.proofs.lemmas.Bool.{eqb-true}
use Rattle.rt_lemmas.proofs.Options.{some_is as same_some}
use Rattle.rt_model.specs.Lists.{at}
use Rattle.rt_model.specs.Tree.{Types, Tree, Place, Kind, Spot, node_at, component_at, spots}
use Rattle.rt_model.specs.State.{SideName, Side, Scope, State, side_of, parent_of}
use Rattle.rt_model.specs.Run.{child_at}
use Rattle.rt_model.specs.Document.{Forest, Empty, count_of}
use Rattle.rt_model.specs.Heard.{number_at}
use Rattle.rt_model.specs.View.{child_view, tree_view, side_view, scope_view, view_within, view}
use Rattle.rt_model.proofs.SamePlaces.{number_stands}
use Rattle.rt_model.proofs.Places.{place_of, spots_distinct}
use Rattle.rt_model.proofs.ViewCounts.{one_if, passes, shown, total, tree_count, Shows, some, few}
use Rattle.rt_model.proofs.WellNumbered.{WellNumbered}

module _ {K : Types} (w : State K) (good : WellNumbered w) (i : ℕ) where
  -- the scope that so many steps up lead to
  abbrev climbed : ℕ → ℕ → Option ℕ
  climbed zero s = Some s
  climbed (suc d) s = elim (climbed d s) [ None ↦ None | Some v ↦ parent_of w.scopes v ]

  -- the number stands in a live scope, so many steps below s
  record Below (s : ℕ) : Type 0 where
    scope : ℕ
    it : Scope K
    live : at w.scopes scope ≡ Some it
    side : SideName
    place : Place
    kind : Kind
    number : Contains (side_of it side).numbers (place, kind, i)
    top : Scope K
    top_live : at w.scopes s ≡ Some top
    far : ℕ
    way : climbed far scope ≡ Some s
    low : it.height ≡ top.height + far

  -- what a spot that shows the number tells
  abbrev Told : Side K → Spot K → Type 0
  Told side (node_at p k) = Contains side.numbers (p, k, i)
  Told side (component_at p c) = (t : ℕ) × (child_at side.children p ≡ Some t) × Below t

  module _ (inner : ℕ → Forest) (under : (t : ℕ) → 0 < count_of i (inner t) → Below t) where
    child_told : (side : Side K) (p : Place) (o : Option ℕ) → child_at side.children p ≡ o → 0 < count_of i (child_view inner o) → (t : ℕ) × (child_at side.children p ≡ Some t) × Below t
    child_told side p None q h = absurd (omega arith)
    child_told side p (Some t) q h = (t, q, under t h)

    module _ (s : ℕ) (x : Scope K) (x_live : at w.scopes s ≡ Some x) (a : SideName) (tree : Tree K) (out : (side_of x a).output ≡ Some tree) where
      told : (e : Spot K) → Contains (spots [] tree) e → 0 < shown (side_of x a) inner i e → Told (side_of x a) e
      told (node_at p k) c h =
          let number : number_at (side_of x a).numbers p k ≡ i = eqb-true _ i (passes (nat_eq (number_at (side_of x a).numbers p k) i) h) in
          let has : 0 < number_at (side_of x a).numbers p k = good.whole s x a tree p k x_live out c in
          number_stands (side_of x a).numbers p k i (omega arith) number
      told (component_at p c) _ h = child_told (side_of x a) p (child_at (side_of x a).children p) refl h

      from_spot : (e : Spot K) → Told (side_of x a) e → Below s
      from_spot (node_at p k) c =
          let low : x.height ≡ x.height + 0 = omega arith in
          record { scope = s; it = x; live = x_live; side = a; place = p; kind = k; number = c; top = x; top_live = x_live; far = 0; way = refl; low = low }
      from_spot (component_at p c) h =
          let b : Below h.0 = h.2 in
          let up : (b.top.parent ≡ Some s) × (b.top.below ≡ a) × (b.top.height ≡ x.height + 1) = good.child s h.0 x b.top a p x_live h.1 b.top_live in
          let to_s : parent_of w.scopes h.0 ≡ Some s = ap (λ (o : Option (Scope K)). elim o [ None ↦ None | Some y ↦ y.parent ]) b.top_live ∙ up.0 in
          let way : climbed (suc b.far) b.scope ≡ Some s = ap (λ (o : Option ℕ). elim o [ None ↦ None | Some v ↦ parent_of w.scopes v ]) b.way ∙ to_s in
          let rise : b.top.height ≡ x.height + 1 = up.2 in
          let far : b.it.height ≡ b.top.height + b.far = b.low in
          let low : b.it.height ≡ x.height + suc b.far = omega arith in
          record { scope = b.scope; it = b.it; live = b.live; side = b.side; place = b.place; kind = b.kind; number = b.number; top = x; top_live = x_live; far = suc b.far; way = way; low = low }

      -- a number of a scope's own node doesn't stand below a child
      own_not_below : (p q : Place) (k : Kind) (t : ℕ) → Contains (side_of x a).numbers (p, k, i) → child_at (side_of x a).children q ≡ Some t → Below t → ⊥
      own_not_below p q k t c h b =
          let same : s ≡ b.scope = (good.once s b.scope i x b.it a b.side p b.place k b.kind x_live b.live c b.number).0 in
          let its : x ≡ b.it = same_some (sym x_live ∙ ap (λ (n : ℕ). at w.scopes n) same ∙ b.live) in
          let heights : x.height ≡ b.it.height = ap (λ (y : Scope K). y.height) its in
          let rise : b.top.height ≡ x.height + 1 = (good.child s t x b.top a q x_live h b.top_live).2 in
          let far : b.it.height ≡ b.top.height + b.far = b.low in
          omega arith

      -- a number stands below one child at most
      one_child : (p q : Place) (t u : ℕ) → child_at (side_of x a).children p ≡ Some t → child_at (side_of x a).children q ≡ Some u → Below t → Below u → p ≡ q
      one_child p q t u h g b c =
          let same : b.scope ≡ c.scope = (good.once b.scope c.scope i b.it c.it b.side c.side b.place c.place b.kind c.kind b.live c.live b.number c.number).0 in
          let its : b.it ≡ c.it = same_some (sym b.live ∙ ap (λ (n : ℕ). at w.scopes n) same ∙ c.live) in
          let heights : b.it.height ≡ c.it.height = ap (λ (y : Scope K). y.height) its in
          let rise_b : b.top.height ≡ x.height + 1 = (good.child s t x b.top a p x_live h b.top_live).2 in
          let rise_c : c.top.height ≡ x.height + 1 = (good.child s u x c.top a q x_live g c.top_live).2 in
          let low_b : b.it.height ≡ b.top.height + b.far = b.low in
          let low_c : c.it.height ≡ c.top.height + c.far = c.low in
          let fars : b.far ≡ c.far = omega arith in
          let ways : climbed b.far b.scope ≡ climbed c.far c.scope = λ n. climbed (fars n) (same n) in
          let children : t ≡ u = same_some (sym b.way ∙ ways ∙ c.way) in
          good.slot s t x a p q x_live h (g ∙ ap Some (sym children))

      one_place : (e f : Spot K) → Told (side_of x a) e → Told (side_of x a) f → place_of e ≡ place_of f
      one_place (node_at p k) (node_at q l) c d = (good.once s s i x x a a p q k l x_live x_live c d).2
      one_place (node_at p k) (component_at q d) c h = absurd (own_not_below p q k h.0 c h.1 h.2)
      one_place (component_at p c) (node_at q l) h d = absurd (own_not_below q p l h.0 d h.1 h.2)
      one_place (component_at p c) (component_at q d) h g = one_child p q h.0 g.0 h.1 g.1 h.2 g.2

      below_tree : 0 < count_of i (tree_view (side_of x a) inner [] tree) → Below s
      below_tree h =
          let counts : count_of i (tree_view (side_of x a) inner [] tree) ≡ total (side_of x a) inner i (spots [] tree) = tree_count (side_of x a) inner i [] tree in
          let it : Shows (side_of x a) inner i (spots [] tree) = some (side_of x a) inner i (spots [] tree) (omega arith) in
          from_spot it.spot (told it.spot it.stands it.more)

      tree_once : ((t : ℕ) → count_of i (inner t) ≤ 1) → count_of i (tree_view (side_of x a) inner [] tree) ≤ 1
      tree_once one =
          let counts : count_of i (tree_view (side_of x a) inner [] tree) ≡ total (side_of x a) inner i (spots [] tree) = tree_count (side_of x a) inner i [] tree in
          let once : total (side_of x a) inner i (spots [] tree) ≤ 1 =
          few (side_of x a) inner i (spots [] tree) (spots_distinct [] tree) (λ e. spot_once e) (λ e f c d m n. one_place e f (told e c m) (told f d n)) in
          omega arith
        where
          child_once : (o : Option ℕ) → count_of i (child_view inner o) ≤ 1
          child_once None = omega arith
          child_once (Some t) = one t

          spot_once : (e : Spot K) → shown (side_of x a) inner i e ≤ 1
          spot_once (node_at p k) = one_if (nat_eq (number_at (side_of x a).numbers p k) i)
          spot_once (component_at p c) = child_once (child_at (side_of x a).children p)

    below_side : (s : ℕ) (x : Scope K) → at w.scopes s ≡ Some x → (a : SideName) (o : Option (Tree K)) → (side_of x a).output ≡ o
        → 0 < count_of i (elim o [ None ↦ Empty | Some tree ↦ tree_view (side_of x a) inner [] tree ])
        → Below s
    below_side s x live a None q h = absurd (omega arith)
    below_side s x live a (Some tree) q h = below_tree s x live a tree q h

    below_shown : (s : ℕ) (x : Scope K) → at w.scopes s ≡ Some x → (o : Option SideName) → 0 < count_of i (elim o [ None ↦ Empty | Some name ↦ side_view inner (side_of x name) ]) → Below s
    below_shown s x live None h = absurd (omega arith)
    below_shown s x live (Some a) h = below_side s x live a (side_of x a).output refl h

    below_scope : (s : ℕ) (o : Option (Scope K)) → at w.scopes s ≡ o → 0 < count_of i (scope_view inner o) → Below s
    below_scope s None q h = absurd (omega arith)
    below_scope s (Some x) q h = below_shown s x q x.shows h

    module _ (one : (t : ℕ) → count_of i (inner t) ≤ 1) where
      side_once : (s : ℕ) (x : Scope K) → at w.scopes s ≡ Some x → (a : SideName) (o : Option (Tree K)) → (side_of x a).output ≡ o
          → count_of i (elim o [ None ↦ Empty | Some tree ↦ tree_view (side_of x a) inner [] tree ]) ≤ 1
      side_once s x live a None q = omega arith
      side_once s x live a (Some tree) q = tree_once s x live a tree q one

      shown_once : (s : ℕ) (x : Scope K) → at w.scopes s ≡ Some x → (o : Option SideName) → count_of i (elim o [ None ↦ Empty | Some name ↦ side_view inner (side_of x name) ]) ≤ 1
      shown_once s x live None = omega arith
      shown_once s x live (Some a) = side_once s x live a (side_of x a).output refl

      scope_once : (s : ℕ) (o : Option (Scope K)) → at w.scopes s ≡ o → count_of i (scope_view inner o) ≤ 1
      scope_once s None q = omega arith
      scope_once s (Some x) q = shown_once s x q x.shows

  below_within : (n s : ℕ) → 0 < count_of i (view_within w n s) → Below s
  below_within zero s h = absurd (omega arith)
  below_within (suc n) s h = below_scope (λ t. view_within w n t) (λ t l. below_within n t l) s (at w.scopes s) refl h

  within_once : (n s : ℕ) → count_of i (view_within w n s) ≤ 1
  within_once zero s = omega arith
  within_once (suc n) s =
      scope_once (λ t. view_within w n t) (λ t h. below_within n t h) (λ t. within_once n t) s (at w.scopes s) refl

-- the view of a well-numbered state has each number once at most
pub well_numbered_once : {K : Types} (w : State K) → WellNumbered w → (i : ℕ) → count_of i (view w) ≤ 1
well_numbered_once w good i = within_once w good i (length w.scopes) 0

-- the view of a well-numbered state doesn't have the number 0
pub well_numbered_positive : {K : Types} (w : State K) → WellNumbered w → count_of 0 (view w) ≡ 0
well_numbered_positive w good = none (count_of 0 (view w)) refl
  where
    none : (n : ℕ) → count_of 0 (view w) ≡ n → count_of 0 (view w) ≡ 0
    none zero q = q
    none (suc n) q =
        let b : Below w good 0 0 = below_within w good 0 (length w.scopes) 0 (omega arith) in
        let low : 0 < 0 = good.positive b.scope 0 b.it b.side b.place b.kind b.live b.number in
        absurd (omega arith)
