-- The child scopes at spots, one spot at a time; the way down to the scope that a removal takes first.
use Rattle.std.proofs.Common.{ℕ, suc, Bool, true, false, get_or, drop, append_assoc, List, [], ◌∷◌, ◌++◌, ◌≡◌, ◌+◌, ◌-◌, ◌<◌, ◌≤◌, length, refl, sym, ap, ◌∙◌, map, append-nil, arith}
use Rattle.std.specs.Prelude.{◌==◌, Option, Some, None, if◌then◌else◌}
use Rattle.std.proofs.lemmas.Bool.{eqb-true}
use Rattle.std.proofs.lemmas.List.{nil_from_length}
use Rattle.std.specs.List.{slice_get}
use Rattle.rt_lemmas.proofs.Numbers.{fewer, none_left, all_left}
use Rattle.rt_lemmas.proofs.Lists.{next_suc}
pub use Rattle.rt_lemmas.proofs.Lists.{all_done}
use Rattle.tree_nodes.specs.declared.vnode.VComponent.{VComponent}
use Rattle.tree_nodes.specs.declared.vnode.VNode.{VNode}
use Rattle.rt_model.specs.OneLog.{types}
use Rattle.rt_model.specs.Lists.{at}
use Rattle.rt_model.specs.Tree as model
use Rattle.rt_model.specs.Tree.{Place}
use Rattle.rt_model.specs.State as state
use Rattle.rt_model.specs.State.{is_live}
use Rattle.rt_model.specs.Run.{child_at, spots_of}
use Rattle.rt_model.specs.Boundary.{live_child, children_among, side_scopes}
use Rattle.rt_model.specs.Removal.{children_below, first_leaf}
use Rattle.rt_model.specs.Replay.{fed_child}
use Rattle.run_places.specs.declared.spot.Spot.{Spot}
use Rattle.run_places.specs.declared.spot.Spot.TheVariants as spots
use Rattle.run_places.specs.declared.place.Kind as kinds
use Rattle.run_places.specs.declared.place.Step as steps
use Rattle.run_places.specs.declared.side.Side.{Side}
use Rattle.run_places.specs.Places.{output_of, place_of, seated, spot_of, side_of}
use Rattle.run_places.specs.Sides.{child_in}
use Rattle.run_places.specs.Spots.{tree_spots}
use Rattle.run_records.specs.Kept.{each}
use Rattle.rt_scopes.specs.Sides.{child_here, children_at, fallback_scopes_in}

-- one more item
pub one_more : {A B : Type 0} (given : List A → List B) (xs : List A) (i : ℕ) (x : A) (before after this whole : List B)
    → i < length xs → x ≡ get_or xs i x
    → given (x ∷ drop (i + 1) xs) ≡ this ++ given (drop (i + 1) xs)
    → before ++ given (drop i xs) ≡ whole → after ≡ before ++ this → after ++ given (drop (i + 1) xs) ≡ whole
one_more given xs i x before after this whole low is gives so_far one =
    let next : drop i xs ≡ x ∷ drop (i + 1) xs = next_suc xs i x low is ∙ ap (λ n. x ∷ drop n xs) (let e : suc i ≡ i + 1 = omega arith in e) in
    ap (λ ys. ys ++ given (drop (i + 1) xs)) one ∙ append_assoc before this (given (drop (i + 1) xs))
    ∙ ap (λ ys. before ++ ys) (sym gives ∙ ap given (sym next)) ∙ so_far

-- a list that answers that it is empty
pub none_kept : (es : List (ℕ × ℕ)) (b : Bool) → b ≡ (length es == 0) → b ≡ true → es ≡ []
none_kept es b is none = nil_from_length es (eqb-true (length es) 0 (sym is ∙ none))

-- as many values as before
pub length-each : {A B : Type 0} (f : A → B) (es : List (ℕ × A)) → length (each f es) ≡ length es
length-each f [] = refl
length-each f (e ∷ es) = ap suc (length-each f es)

module _ {K : model.Types} where
  -- a scope that is live joins the others
  pub live_joins : (w : state.State K) (s : ℕ) (o : Option ℕ) (before after : List ℕ)
      → o ≡ Some s → is_live w s ≡ true → after ≡ before ++ s ∷ [] → after ≡ before ++ live_child w o
  live_joins w s o before after there live is =
      is ∙ ap (λ b. before ++ (if b then s ∷ [] else [])) (sym live) ∙ ap (λ p. before ++ live_child w p) (sym there)

  -- one that isn't is passed over
  pub gone_passes : (w : state.State K) (s : ℕ) (o : Option ℕ) (before : List ℕ)
      → o ≡ Some s → is_live w s ≡ false → before ≡ before ++ live_child w o
  gone_passes w s o before there gone =
      sym (append-nil before) ∙ ap (λ b. before ++ (if b then s ∷ [] else [])) (sym gone) ∙ ap (λ p. before ++ live_child w p) (sym there)

  -- where there is none, none joins
  pub none_joins : (w : state.State K) (o : Option ℕ) (before : List ℕ) → o ≡ None → before ≡ before ++ live_child w o
  none_joins w o before none = sym (append-nil before) ∙ ap (λ p. before ++ live_child w p) (sym none)

  -- the children of all sides
  pub none_below : (w : state.State K) (s : ℕ) (found : List ℕ) → at w.scopes s ≡ None → found ≡ [] → found ≡ children_below w (at w.scopes s)
  none_below w s found gone empty = empty ∙ ap (children_below w) (sym gone)

  pub all_below : (w : state.State K) (s : ℕ) (x : state.Scope K) (fallback children main two all : List ℕ) → at w.scopes s ≡ Some x
      → fallback ≡ side_scopes w x.fallback_side → children ≡ side_scopes w x.children_side → main ≡ side_scopes w x.main_side
      → two ≡ fallback ++ children → all ≡ two ++ main → all ≡ children_below w (at w.scopes s)
  all_below w s x fallback children main two all found fallback_is children_is main_is first last =
      last ∙ ap (λ ys. ys ++ main) first ∙ (λ i. fallback_is i ++ children_is i ++ main_is i) ∙ ap (children_below w) (sym found)

  -- the scopes on the fallback's side
  pub fallback_found : (w : state.State K) (b : ℕ) (x : state.Scope K) → at w.scopes b ≡ Some x → side_scopes w x.fallback_side ≡ fallback_scopes_in w b
  fallback_found w b x found = ap (λ (o : Option (state.Scope K)). elim o as (λ _. List ℕ) [ None ↦ [] | Some y ↦ side_scopes w y.fallback_side ]) (sym found)

  pub no_fallback : (w : state.State K) (b : ℕ) → at w.scopes b ≡ None → [] ≡ fallback_scopes_in w b
  no_fallback w b gone = ap (λ (o : Option (state.Scope K)). elim o as (λ _. List ℕ) [ None ↦ [] | Some y ↦ side_scopes w y.fallback_side ]) (sym gone)

  abbrev below : state.State K → ℕ → List ℕ
  below w s = children_below w (at w.scopes s)

  go_on : (w : state.State K) (n s t : ℕ) (ts : List ℕ) → slice_get ts 0 ≡ Some t → elim ts as (λ _. ℕ) [ [] ↦ s | u ∷ us ↦ first_leaf w n u ] ≡ first_leaf w n t
  go_on w n s t [] first = absurd (cc first)
  go_on w n s t (u ∷ us) first = ap (λ (o : Option ℕ). elim o as (λ _. ℕ) [ None ↦ first_leaf w n u | Some v ↦ first_leaf w n v ]) first

  stays : (w : state.State K) (n s : ℕ) (ts : List ℕ) → slice_get ts 0 ≡ None → elim ts as (λ _. ℕ) [ [] ↦ s | u ∷ us ↦ first_leaf w n u ] ≡ s
  stays w n s [] none = refl
  stays w n s (u ∷ us) none = absurd (cc none)

  -- no step was done yet
  pub leaf_begin : (w : state.State K) (n s : ℕ) → first_leaf w (n - 0) s ≡ first_leaf w n s
  leaf_begin w n s = ap (λ m. first_leaf w m s) (all_left n)

  -- the way goes on at the first child
  pub leaf_on : (w : state.State K) (n i s t : ℕ) (ts : List ℕ) → i < n → ts ≡ below w s → slice_get ts 0 ≡ Some t
      → first_leaf w (n - (i + 1)) t ≡ first_leaf w (n - i) s
  leaf_on w n i s t ts before is first =
      sym
      (ap (λ m. first_leaf w m s) (fewer n i before)
      ∙ ap (λ us. elim us as (λ _. ℕ) [ [] ↦ s | u ∷ vs ↦ first_leaf w (n - (i + 1)) u ]) (sym is)
      ∙ go_on w (n - (i + 1)) s t ts first)

  -- and ends where there is none
  pub leaf_here : (w : state.State K) (n i s : ℕ) (ts : List ℕ) → i < n → ts ≡ below w s → slice_get ts 0 ≡ None → s ≡ first_leaf w (n - i) s
  leaf_here w n i s ts before is none =
      sym
      (ap (λ m. first_leaf w m s) (fewer n i before)
      ∙ ap (λ us. elim us as (λ _. ℕ) [ [] ↦ s | u ∷ vs ↦ first_leaf w (n - (i + 1)) u ]) (sym is)
      ∙ stays w (n - (i + 1)) s ts none)

  -- no step is left
  pub leaf_end : (w : state.State K) (n i s : ℕ) → n ≤ i → s ≡ first_leaf w (n - i) s
  leaf_end w n i s end = sym (ap (λ m. first_leaf w m s) (none_left n i end))

module _ {K : model.Types} where
  pub none_fed : (w : state.State K) (s : ℕ) (name : state.SideName) (p : Place) → at w.scopes s ≡ None → None ≡ fed_child w s name p
  none_fed w s name p gone = ap (λ (o : Option (state.Scope K)). elim o as (λ _. Option ℕ) [ None ↦ None | Some y ↦ child_at (state.side_of y name).children p ]) (sym gone)

module _ {C Q V H T E L : Type 0} where
  -- spots have no child scopes among none
  childless : (w : state.State (types C Q V H T E L)) (found : List (model.Spot (types C Q V H T E L))) → children_among w [] found ≡ []
  childless w [] = refl
  childless w (model.node_at p kind ∷ found) = childless w found
  childless w (model.component_at p c ∷ found) = childless w found

module _ {P C Q V H T E L : Type 0} where
  -- the child at a place of a side
  pub fed_found : (w : state.State (types C Q V H T E L)) (s : ℕ) (name : state.SideName) (p : Place) (x : state.Scope (types C Q V H T E L)) (side : Side P C Q V H T E L)
      → at w.scopes s ≡ Some x → side_of side ≡ state.side_of x name → child_in side p ≡ fed_child w s name p
  fed_found w s name p x side found is =
      ap (λ (a : state.Side (types C Q V H T E L)). child_at a.children p) is
      ∙ ap (λ (o : Option (state.Scope (types C Q V H T E L))). elim o as (λ _. Option ℕ) [ None ↦ None | Some y ↦ child_at (state.side_of y name).children p ]) (sym found)

  -- no child scope stands at a node
  pub node_has_none : (w : state.State (types C Q V H T E L)) (side : Side P C Q V H T E L) (spot : Spot P C Q V H T E L) (own : List steps.Step) (kind : kinds.Kind)
      → spot ≡ spots.Node own kind → child_here w side spot ≡ []
  unfolding child_here
  node_has_none w side spot own kind is = ap (λ (x : Spot P C Q V H T E L). children_among w (side_of side).children (spot_of x ∷ [])) is

  -- at a component its child does
  pub component_has : (w : state.State (types C Q V H T E L)) (side : Side P C Q V H T E L) (spot : Spot P C Q V H T E L) (own : List steps.Step) (c : VComponent P C Q V H T E L)
      → spot ≡ spots.Component own c → child_here w side spot ≡ live_child w (child_in side (place_of own))
  unfolding child_here
  component_has w side spot own c is =
      ap (λ (x : Spot P C Q V H T E L). children_among w (side_of side).children (spot_of x ∷ [])) is
      ∙ append-nil (live_child w (child_in side (place_of own)))

  -- the definitions find the same
  pub children_are : (w : state.State (types C Q V H T E L)) (side : Side P C Q V H T E L) (xs : List (Spot P C Q V H T E L))
      → children_at w side xs ≡ children_among w (side_of side).children (map spot_of xs)
  unfolding child_here
  children_are w side [] = refl
  children_are w side (spots.Node own kind ∷ xs) = children_are w side xs
  children_are w side (spots.Component own c ∷ xs) =
      ap (λ ys. (live_child w (child_in side (place_of own)) ++ []) ++ ys) (children_are w side xs)
      ∙ ap (λ zs. zs ++ children_among w (side_of side).children (map spot_of xs)) (append-nil (live_child w (child_in side (place_of own))))

  -- the spots of a tree that is kept
  output_is : (o : Option (VNode P C Q V H T E L)) (tree : VNode P C Q V H T E L) → o ≡ Some tree → tree_spots [] tree ≡ spots_of (output_of o)
  unfolding tree_spots
  output_is o tree some = ap (λ (p : Option (VNode P C Q V H T E L)). spots_of (output_of p)) (sym some)

  -- those of a side
  pub side_is : (w : state.State (types C Q V H T E L)) (side : Side P C Q V H T E L) (tree : VNode P C Q V H T E L) (found : List (Spot P C Q V H T E L)) → side.output ≡ Some tree
      → map spot_of found ≡ tree_spots [] tree → children_at w side found ≡ side_scopes w (side_of side)
  side_is w side tree found some is =
      children_are w side found ∙ ap (children_among w (side_of side).children) (is ∙ output_is side.output tree some)

  -- a side without a tree has none
  pub side_none : (w : state.State (types C Q V H T E L)) (side : Side P C Q V H T E L) → side.output ≡ None → [] ≡ side_scopes w (side_of side)
  side_none w side none = ap (λ (o : Option (VNode P C Q V H T E L)). children_among w (side_of side).children (spots_of (output_of o))) (sym none)

  -- nor has one without child scopes
  pub side_childless : (w : state.State (types C Q V H T E L)) (side : Side P C Q V H T E L) → side.children ≡ [] → [] ≡ side_scopes w (side_of side)
  side_childless w side none =
      sym
      (ap (λ (es : List (ℕ × ℕ)). children_among w (seated (map place_of side.seats) es) (spots_of (output_of side.output))) none
      ∙ childless w (spots_of (output_of side.output)))
