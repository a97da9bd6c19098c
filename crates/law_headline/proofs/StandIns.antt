-- Two outputs that pass the node test meet in their shapes: stand-ins take the places of the new children.
use Rattle.std.proofs.Common.{ℕ, List, [], ◌∷◌, ◌++◌, ◌≡◌, inl, inr, refl, sym, ◌∙◌, subst, true}
use Rattle.std.specs.Prelude.{Option, Some}
use Rattle.rt_model.specs.Tree.{Types, Tree, VComponent, Place, same_place, Spot, node_at, component_at, spots}
use Rattle.rt_model.specs.World.{Application}
use Rattle.rt_model.specs.State.{Side}
use Rattle.rt_model.specs.Run.{child_at}
use Rattle.rt_model.specs.Document.{Forest, Empty, DocPlaceholder, Node}
use Rattle.rt_model.specs.View.{child_view}
use Rattle.rt_model.specs.Caused.{Both}
use Rattle.rt_model.proofs.Maps.{by_test, pick_true, pick_false}
use Rattle.rt_model.proofs.Among.{Among, place_same}
use Rattle.rt_model.proofs.WellNumbered.{FitsBelow}
use Rattle.law_moves.specs.Meets.{HasNode, ChildMeets, TreeMeets}
use Rattle.law_headline.proofs.Elements.{fitting_bring}
use Rattle.law_headline.proofs.Nodes.{Rows}
use Rattle.law_headline.proofs.Climbs.{off_itself}
use Rattle.law_headline.proofs.Meets.{tree_meets}

-- one node in place of what a child shows
abbrev pub stand_in : ℕ → Forest
stand_in t = Node 0 DocPlaceholder Empty Empty

stand_in_node : (t : ℕ) → HasNode (stand_in t)
stand_in_node t = record { id = 0; content = DocPlaceholder; children = Empty; rest = Empty; is = refl }

-- what is found in a list is found where more follows
pub stays_first : (es fs : List (Place × ℕ)) (p : Place) (u : ℕ) → child_at es p ≡ Some u → child_at (es ++ fs) p ≡ Some u
stays_first [] fs p u h = cc
stays_first (e ∷ es) fs p u h =
    by_test (same_place e.0 p)
    (λ q. pick_true (Some e.1) (child_at (es ++ fs) p) q ∙ sym (pick_true (Some e.1) (child_at es p) q) ∙ h)
    (λ q. pick_false (Some e.1) (child_at (es ++ fs) p) q ∙ stays_first es fs p u (sym (pick_false (Some e.1) (child_at es p) q) ∙ h))

-- a place that the second list has is found in both together
found_after : (es fs : List (Place × ℕ)) (p : Place) → (u : ℕ) × (child_at fs p ≡ Some u) → (u : ℕ) × (child_at (es ++ fs) p ≡ Some u)
found_after [] fs p h = h
found_after (e ∷ es) fs p h =
    by_test (same_place e.0 p)
    (λ q. (e.1, pick_true (Some e.1) (child_at (es ++ fs) p) q))
    (λ q. let r = found_after es fs p h in (r.0, pick_false (Some e.1) (child_at (es ++ fs) p) q ∙ r.1))

module _ {K : Types} where
  -- a seat for each component
  abbrev seats : List (Spot K) → List (Place × ℕ)
  seats [] = []
  seats (node_at p k ∷ ss) = seats ss
  seats (component_at p c ∷ ss) = (p, 0) ∷ seats ss

  seated : (ss : List (Spot K)) (p : Place) (c : VComponent K) → Among ss (component_at p c) → (u : ℕ) × (child_at (seats ss) p ≡ Some u)
  seated [] p c h = absurd h
  seated (node_at q k ∷ ss) p c (inl e) = cc
  seated (node_at q k ∷ ss) p c (inr h) = seated ss p c h
  seated (component_at q d ∷ ss) p c h =
      by_test (same_place q p)
      (λ s. (0, pick_true (Some 0) (child_at (seats ss) p) s))
      (
      λ s.
      elim h [
        | inl e ↦ (let place : q ≡ p = cc in off_itself (same_place q p) (subst (λ (r : Place). same_place q r ≡ true) place (place_same q)) s)
        | inr g ↦ (let r = seated ss p c g in (r.0, pick_false (Some 0) (child_at (seats ss) p) s ∙ r.1))
      ]
      )

  -- a side with this output, the old numbers, and a child for each component
  abbrev pub seated_side : Side K → Tree K → Side K
  seated_side old new = record { output = Some new; numbers = old.numbers; children = old.children ++ seats (spots [] new) }

  -- so outputs meet in their shapes, where the old one's components have children
  pub shapes_meet : (app : Application K) (b : Both K) (y x : Tree K) → FitsBelow y → FitsBelow x → Rows b.old b.old_child (spots [] x)
      → ((p : Place) (c : VComponent K) → Among (spots [] x) (component_at p c) → (u : ℕ) × (child_at b.old.children p ≡ Some u))
      → TreeMeets app (record b { new = seated_side b.old y; new_child = stand_in }) (λ t. Unit {0}) [] y x
  shapes_meet app b y x fit was rows kids =
      let c : Both K = record b { new = seated_side b.old y; new_child = stand_in } in
      tree_meets app (λ numbers above new old level other same fits had. fitting_bring numbers above new old level other same fits had) c (λ t. Unit {0}) [] y x fit.level was.level fit.fits was.fits
      (record {
        nodes = λ p k i j. refl;
        fed =
            λ p d e i j s.
            let u = kids p e j in
            (stays_first b.old.children (seats (spots [] y)) p u.0 u.1 ∙ sym u.1, subst (λ (o : Option ℕ). ChildMeets app c (λ t. Unit {0}) o) (sym u.1) tt);
        old_rows = rows;
        new_rows =
            λ p d i.
            let u = found_after b.old.children (seats (spots [] y)) p (seated (spots [] y) p d i) in
            subst (λ (o : Option ℕ). HasNode (child_view stand_in o)) (sym u.1) (stand_in_node u.0);
      })
