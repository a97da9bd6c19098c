-- What a patch knows it goes on to know, and what comes to it it knows.
use Rattle.std.proofs.Common.{ℕ, Bool, true, false, ◌&&◌, ◌||◌, List, [], ◌∷◌, ◌++◌, ◌≡◌, ◌⊎◌, inl, inr, sym, ap, subst, ◌∙◌}
use Rattle.std.specs.Prelude.{nat_eq, Option, Some}
use Rattle.std.specs.List.{list_any}
use Rattle.std.proofs.lemmas.Bool.{true≢false}
use Rattle.std.proofs.lemmas.List.Folds.{list_any-append}
use Rattle.rt_values.specs.declared.names.ScopeId.{ScopeId}
use Rattle.rt_edits.specs.declared.doc_node.DocNode.{DocNode}
use Rattle.rt_model.specs.OneLog.{types}
use Rattle.rt_model.specs.Run.{child_at}
use Rattle.rt_model.specs.State as state
use Rattle.rt_model.specs.Tree as model
use Rattle.rt_model.specs.Tree.{Place, same_place, Kind, same_kind, Spot, node_at, component_at}
use Rattle.rt_model.specs.World.{Application}
use Rattle.rt_model.proofs.Among.{kind_same, place_same}
use Rattle.rt_model.proofs.Maps.{by_test, eq_same, none_some, pick_false, pick_true}
use Rattle.tree_marks.specs.Marks.{Mark}
use Rattle.run_places.specs.declared.place.Step.{Step}
use Rattle.run_places.specs.declared.side.Side.{Side}
use Rattle.run_places.specs.Places.{place_of, side_of}
use Rattle.run_places.specs.Sides.{and_number}
use Rattle.run_shown.specs.Unknowns.{is_given}
use Rattle.law_patch.specs.Appended.{is_numbered}
use Rattle.law_headline.proofs.StandIns.{stays_first as child_stays}
use Rattle.rt_tree.specs.declared.patch.Patch.{Patch}
use Rattle.rt_tree.specs.declared.patch.Phase.{Phase}
use Rattle.rt_tree.specs.declared.patch.Phase.TheVariants as phase
use Rattle.rt_tree.specs.declared.step.PatchStep.{PatchStep}
use Rattle.rt_tree.specs.declared.step.PatchStep.TheVariants as s
use Rattle.rt_tree.specs.Does.{DoneBy}
use Rattle.rt_tree.specs.Gives.{Gives, SeatedBy}
use Rattle.rt_tree.specs.Grows.{Grows}
use Rattle.rt_tree.specs.Runs.{Runs, passed_by, stays, steps, gives}
use Rattle.rt_tree.proofs.Growing.{give_grows, step_grows}
use Rattle.law_served.specs.KnownSpots.{AllNewGiven, Each, KnownAt, NewGiven}

-- one thing is one
some_one : {A : Type 0} {x y : A} → ◌≡◌ {A = Option A} (Some x) (Some y) → x ≡ y
some_one h = cc h

numbered_more : (xs ys : List (Place × Kind × ℕ)) (p : Place) (k : Kind) → is_numbered xs p k ≡ true → is_numbered (xs ++ ys) p k ≡ true
numbered_more [] ys p k h = absurd (true≢false (sym h))
numbered_more (e ∷ xs) ys p k h =
    by_test (same_kind e.1 k && same_place e.0 p)
    (λ r. ap (λ (b : Bool). b || is_numbered (xs ++ ys) p k) r)
    (λ r.
    ap (λ (b : Bool). b || is_numbered (xs ++ ys) p k) r
    ∙ numbered_more xs ys p k (sym (ap (λ (b : Bool). b || is_numbered xs p k) r) ∙ h))

-- the node whose number comes
numbered_last : (xs : List (Place × Kind × ℕ)) (p : Place) (k : Kind) (n : ℕ) → is_numbered (xs ++ (p, k, n) ∷ []) p k ≡ true
numbered_last [] p k n = (λ t. (kind_same k t && place_same p t) || false)
numbered_last (e ∷ xs) p k n =
    by_test (same_kind e.1 k && same_place e.0 p)
    (λ r. ap (λ (b : Bool). b || is_numbered (xs ++ (p, k, n) ∷ []) p k) r)
    (λ r. ap (λ (b : Bool). b || is_numbered (xs ++ (p, k, n) ∷ []) p k) r ∙ numbered_last xs p k n)

-- the component whose child scope comes
child_last : (xs : List (Place × ℕ)) (p : Place) (n : ℕ) → (t : ℕ) × (child_at (xs ++ (p, n) ∷ []) p ≡ Some t)
child_last [] p n = (n, pick_true (Some n) (child_at [] p) (place_same p))
child_last (e ∷ xs) p n =
    let rest = child_last xs p n in
    by_test (same_place e.0 p)
    (λ r. (e.1, pick_true (Some e.1) (child_at (xs ++ (p, n) ∷ []) p) r))
    (λ r. (rest.0, pick_false (Some e.1) (child_at (xs ++ (p, n) ∷ []) p) r ∙ rest.1))

-- what is found was there, or has just come
child_or_last : (xs : List (Place × ℕ)) (p : Place) (n : ℕ) (place : Place) (t : ℕ) → child_at (xs ++ (p, n) ∷ []) place ≡ Some t → (child_at xs place ≡ Some t) ⊎ (t ≡ n)
child_or_last [] p n place t h =
    by_test (same_place p place)
    (λ r. inr (some_one (sym h ∙ pick_true (Some n) (child_at [] place) r)))
    (λ r. none_some (pick_false (Some n) (child_at [] place) r) h)
child_or_last (e ∷ xs) p n place t h =
    by_test (same_place e.0 place)
    (λ r. inl (pick_true (Some e.1) (child_at xs place) r ∙ sym (pick_true (Some e.1) (child_at (xs ++ (p, n) ∷ []) place) r) ∙ h))
    (λ r.
    elim (child_or_last xs p n place t (sym (pick_false (Some e.1) (child_at (xs ++ (p, n) ∷ []) place) r) ∙ h)) [
      | inl before ↦ inl (pick_false (Some e.1) (child_at xs place) r ∙ before)
      | inr here ↦ inr here
    ])

-- the row of a scope that was given goes on to be there, and one that comes is
given_more : (xs ys : List (ℕ × List DocNode)) (t : ℕ) → list_any (λ r. nat_eq r.0 t) xs ≡ true → list_any (λ r. nat_eq r.0 t) (xs ++ ys) ≡ true
given_more xs ys t h = list_any-append (λ (r : ℕ × List DocNode). nat_eq r.0 t) xs ys ∙ ap (λ (b : Bool). b || list_any (λ r. nat_eq r.0 t) ys) h

given_last : (xs : List (ℕ × List DocNode)) (t : ℕ) (row : List DocNode) → list_any (λ r. nat_eq r.0 t) (xs ++ (t, row) ∷ []) ≡ true
given_last [] t row = ap (λ (b : Bool). b || false) (eq_same t)
given_last (x ∷ xs) t row =
    by_test (nat_eq x.0 t)
    (λ r. ap (λ (b : Bool). b || list_any (λ r. nat_eq r.0 t) (xs ++ (t, row) ∷ [])) r)
    (λ r. ap (λ (b : Bool). b || list_any (λ r. nat_eq r.0 t) (xs ++ (t, row) ∷ [])) r ∙ given_last xs t row)

module _ {P C Q V H T E L : Type 0} where
  pub number_grown : (q n : Patch P C Q V H T E L) → Grows q n → (p : Place) (k : Kind) → is_numbered (side_of q.new.side).numbers p k ≡ true → is_numbered (side_of n.new.side).numbers p k ≡ true
  number_grown q n gr p k h = ap (λ (xs : List (Place × Kind × ℕ)). is_numbered xs p k) gr.drawn ∙ numbered_more (side_of q.new.side).numbers gr.numbers p k h

  pub child_grown : (q n : Patch P C Q V H T E L) → Grows q n → (p : Place) (t : ℕ) → child_at (side_of q.new.side).children p ≡ Some t → child_at (side_of n.new.side).children p ≡ Some t
  child_grown q n gr p t h = ap (λ (xs : List (Place × ℕ)). child_at xs p) gr.made ∙ child_stays (side_of q.new.side).children gr.children p t h

  pub row_grown : (q n : Patch P C Q V H T E L) → Grows q n → (t : ℕ) → is_given q.given t ≡ true → is_given n.given t ≡ true
  row_grown q n gr t h = ap (λ (xs : List (ℕ × List DocNode)). list_any (λ r. nat_eq r.0 t) xs) gr.given ∙ given_more (q.given).rows gr.rows t h

  number_drawn : (q n : Patch P C Q V H T E L) (place : Place) (kind : Kind) (i : ℕ) → side_of n.new.side ≡ and_number (side_of q.new.side) (place, kind, i) → is_numbered (side_of n.new.side).numbers place kind ≡ true
  number_drawn q n place kind i is =
      ap (λ (a : state.Side (types C Q V H T E L)). is_numbered a.numbers place kind) is ∙ numbered_last (side_of q.new.side).numbers place kind i

  -- known goes on to be known
  pub known_grown : (q n : Patch P C Q V H T E L) → Grows q n → (spot : Spot (types C Q V H T E L)) → KnownAt q spot → KnownAt n spot
  known_grown q n gr (node_at p k) h = number_grown q n gr p k h
  known_grown q n gr (component_at p c) h = (h.0, child_grown q n gr p h.0 h.1)

  -- a node that comes is known
  pub node_known : (q n : Patch P C Q V H T E L) (place : Place) (kind : Kind) (i : ℕ) → side_of n.new.side ≡ and_number (side_of q.new.side) (place, kind, i)
      → Each (λ p s. KnownAt p s) n (node_at place kind ∷ [])
  node_known q n place kind i is = (number_drawn q n place kind i is, tt)

  -- a component whose child scope is given is known
  pub seat_known : (q n : Patch P C Q V H T E L) (place : List Step) (scope : ScopeId) (nodes : List DocNode) (c : model.VComponent (types C Q V H T E L)) → q.phase ≡ phase.Make place → Gives q scope nodes n
      → Each (λ p s. KnownAt p s) n (component_at (place_of place) c ∷ [])
  seat_known q n place scope nodes c is g =
      let seated : SeatedBy (phase.Make place) scope (side_of q.new.side) (side_of n.new.side) = subst (λ (ph : Phase). SeatedBy ph scope (side_of q.new.side) (side_of n.new.side)) is g.seated in
      let last = child_last (side_of q.new.side).children (place_of place) scope.0 in
      ((last.0, ap (λ (a : state.Side (types C Q V H T E L)). child_at a.children (place_of place)) seated ∙ last.1), tt)

  -- a step leaves the child scopes
  step_children : (q n : Patch P C Q V H T E L) (passed : List (Mark (types C Q V H T E L))) (step : PatchStep P C Q V H T E L) → DoneBy passed q step n
      → (side_of n.new.side).children ≡ (side_of q.new.side).children
  step_children q n passed (s.Drawn id places path) does = ap (λ (a : state.Side (types C Q V H T E L)). a.children) does.holds.side
  step_children q n passed (s.Make component) does = ap (λ (a : Side P C Q V H T E L). (side_of a).children) does.holds.side
  step_children q n passed (s.Feed scope component) does = ap (λ (a : Side P C Q V H T E L). (side_of a).children) does.holds.side
  step_children q n passed (s.Nodes scope) does = ap (λ (a : Side P C Q V H T E L). (side_of a).children) does.side
  step_children q n passed (s.Edit edit) does = ap (λ (a : Side P C Q V H T E L). (side_of a).children) does.side
  step_children q n passed (s.Remove scope) does = ap (λ (a : Side P C Q V H T E L). (side_of a).children) does.side
  step_children q n passed (s.Gone id) does = ap (λ (a : Side P C Q V H T E L). (side_of a).children) does.side
  step_children q n passed s.Done does = ap (λ (a : Side P C Q V H T E L). (side_of a).children) does.side

  -- so what was given goes on to be
  step_new : (start q n : Patch P C Q V H T E L) → (side_of n.new.side).children ≡ (side_of q.new.side).children → Grows q n → NewGiven start q → NewGiven start n
  step_new start q n same gr h place t none there =
      row_grown q n gr t (h place t none (ap (λ (xs : List (Place × ℕ)). child_at xs place) (sym same) ∙ there))

  -- and a scope that is given is seated with its row
  give_new : (start q n : Patch P C Q V H T E L) (scope : ScopeId) (nodes : List DocNode) (ph : Phase) → SeatedBy ph scope (side_of q.new.side) (side_of n.new.side) → Gives q scope nodes n → NewGiven start q
      → NewGiven start n
  give_new start q n scope nodes phase.Free seated g h = step_new start q n (λ i. (seated i).children) (give_grows q n scope nodes g) h
  give_new start q n scope nodes (phase.Make at_place) seated g h = λ place t none there.
      let found : child_at ((side_of q.new.side).children ++ (place_of at_place, scope.0) ∷ []) place ≡ Some t =
      ap (λ (a : state.Side (types C Q V H T E L)). child_at a.children place) (sym seated) ∙ there in
      elim (child_or_last (side_of q.new.side).children (place_of at_place) scope.0 place t found) [
        | inl before ↦ row_grown q n (give_grows q n scope nodes g) t (h place t none before)
        | inr here ↦
            ap (λ (u : ℕ). list_any (λ r. nat_eq r.0 u) (n.given).rows) here
            ∙ ap (λ (xs : List (ℕ × List DocNode)). list_any (λ r. nat_eq r.0 scope.0) xs) g.rows
            ∙ given_last (q.given).rows scope.0 nodes
      ]
  give_new start q n scope nodes (phase.Asked named) seated g h = step_new start q n (λ i. (seated i).children) (give_grows q n scope nodes g) h

  passed_new : (start p : Patch P C Q V H T E L) (ms : List (Mark (types C Q V H T E L))) (met : List (Mark (types C Q V H T E L) × Patch P C Q V H T E L)) → NewGiven start p → AllNewGiven start met
      → AllNewGiven start (passed_by p ms ++ met)
  passed_new start p [] met h all = all
  passed_new start p (m ∷ ms) met h all = (h, passed_new start p ms met h all)

  module _ (app : Application (types C Q V H T E L)) where
    new_given : (start p r : Patch P C Q V H T E L) (ss : List (PatchStep P C Q V H T E L)) (met : List (Mark (types C Q V H T E L) × Patch P C Q V H T E L)) → Runs app p ss met r → NewGiven start p → AllNewGiven start met
    new_given start p r ss met (stays q) h = tt
    new_given start p r ss met (steps q n last step fs more free served leaves waits run) h =
        passed_new start q served.passed more h
        (new_given start n r fs more run (step_new start q n (step_children q n served.passed step served.does) (step_grows q n served.passed step served.does leaves) h))
    new_given start p r ss met (gives q n last scope nodes fs more asked g free run) h =
        new_given start n r fs more run (give_new start q n scope nodes q.phase g.seated g h)

    pub children_given : (p r : Patch P C Q V H T E L) (ss : List (PatchStep P C Q V H T E L)) (met : List (Mark (types C Q V H T E L) × Patch P C Q V H T E L)) → Runs app p ss met r → AllNewGiven p met
    children_given p r ss met run = new_given p p r ss met run (λ place t none there. none_some none there)
