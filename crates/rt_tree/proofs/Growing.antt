-- Each step and each given answer lets a patch grow, and so does all that it goes through.
use Rattle.std.proofs.Common.{ℕ, List, [], ◌∷◌, ◌++◌, ◌≡◌, refl, sym, ap, ◌∙◌, append-nil, append_assoc}
use Rattle.rt_values.specs.declared.names.ScopeId.{ScopeId}
use Rattle.rt_edits.specs.declared.doc_node.DocNode.{DocNode}
use Rattle.rt_model.specs.OneLog.{types}
use Rattle.rt_model.specs.State as state
use Rattle.rt_model.specs.Tree.{Types, Place}
use Rattle.rt_model.specs.World.{Application}
use Rattle.tree_marks.specs.Marks.{Mark}
use Rattle.run_places.specs.Places.{place_of, side_of}
use Rattle.rt_tree.specs.declared.patch.Patch.{Patch}
use Rattle.rt_tree.specs.declared.patch.Phase.{Phase}
use Rattle.rt_tree.specs.declared.patch.Phase.TheVariants as phase
use Rattle.rt_tree.specs.declared.step.PatchStep.{PatchStep}
use Rattle.rt_tree.specs.declared.step.PatchStep.TheVariants as s
use Rattle.rt_tree.specs.Asks.{AllKnown, IsKnown}
use Rattle.rt_tree.specs.Does.{DoneBy}
use Rattle.rt_tree.specs.Gives.{Gives, SeatedBy}
use Rattle.rt_tree.specs.Grows.{Grows}
use Rattle.rt_tree.specs.Runs.{Runs, passed_by, stays, steps, gives}
use Rattle.rt_tree.specs.Served.{Leaves}

-- a list with nothing behind it
same_list : {A : Type 0} (xs ys : List A) → ys ≡ xs → ys ≡ xs ++ []
same_list xs ys h = h ∙ sym (append-nil xs)

-- one list behind another one, and one more behind both
longer : {A : Type 0} (xs ys zs more rest : List A) → ys ≡ xs ++ more → zs ≡ ys ++ rest → zs ≡ xs ++ (more ++ rest)
longer {A = A} xs ys zs more rest h k = k ∙ ap (λ (ws : List A). ws ++ rest) h ∙ append_assoc xs more rest

module _ {P C Q V H T E L : Type 0} where
  pub grows_on : (p q r : Patch P C Q V H T E L) → Grows p q → Grows q r → Grows p r
  grows_on p q r g h =
      record {
        old = h.old ∙ g.old;
        shown = h.shown ∙ g.shown;
        rows = g.rows ++ h.rows;
        given = longer (p.given).rows (q.given).rows (r.given).rows g.rows h.rows g.given h.given;
        numbers = g.numbers ++ h.numbers;
        drawn = longer (side_of p.new.side).numbers (side_of q.new.side).numbers (side_of r.new.side).numbers g.numbers h.numbers g.drawn h.drawn;
        children = g.children ++ h.children;
        made = longer (side_of p.new.side).children (side_of q.new.side).children (side_of r.new.side).children g.children h.children g.made h.made;
      }

  -- nothing changed but what doesn't count
  pub grows_none : (p q : Patch P C Q V H T E L) → Leaves p q → q.new.side ≡ p.new.side → Grows p q
  grows_none p q leaves same =
      record {
        old = leaves.old;
        shown = leaves.shown;
        rows = [];
        given = same_list (p.given).rows (q.given).rows (λ t. (leaves.given t).rows);
        numbers = [];
        drawn = same_list (side_of p.new.side).numbers (side_of q.new.side).numbers (λ t. (side_of (same t)).numbers);
        children = [];
        made = same_list (side_of p.new.side).children (side_of q.new.side).children (λ t. (side_of (same t)).children);
      }

  -- by a step
  pub step_grows : (p q : Patch P C Q V H T E L) (passed : List (Mark (types C Q V H T E L))) (step : PatchStep P C Q V H T E L) → DoneBy passed p step q → Leaves p q → Grows p q
  step_grows p q passed (s.Drawn id places path) does leaves =
      let one = does.holds in
      record {
        old = leaves.old;
        shown = leaves.shown;
        rows = [];
        given = same_list (p.given).rows (q.given).rows (λ t. (leaves.given t).rows);
        numbers = (one.place, one.kind, id.0) ∷ [];
        drawn = λ t. (one.side t).numbers;
        children = [];
        made = same_list (side_of p.new.side).children (side_of q.new.side).children (λ t. (one.side t).children);
      }
  step_grows p q passed (s.Make component) does leaves = grows_none p q leaves does.holds.side
  step_grows p q passed (s.Feed scope component) does leaves = grows_none p q leaves does.holds.side
  step_grows p q passed (s.Nodes scope) does leaves = grows_none p q leaves does.side
  step_grows p q passed (s.Edit edit) does leaves = grows_none p q leaves does.side
  step_grows p q passed (s.Remove scope) does leaves = grows_none p q leaves does.side
  step_grows p q passed (s.Gone id) does leaves = grows_none p q leaves does.side
  step_grows p q passed s.Done does leaves = grows_none p q leaves does.side

-- by an answer: a scope that was made has its place, and nothing else changes on the new side
pub record Seated {K : Types} (before after : state.Side K) : Type 0 where
  pub numbers : after.numbers ≡ before.numbers
  pub more : List (Place × ℕ)
  pub children : after.children ≡ before.children ++ more

pub seated_by : {K : Types} (ph : Phase) (scope : ScopeId) (a b : state.Side K) → SeatedBy ph scope a b → Seated a b
seated_by phase.Free scope a b h = record { numbers = λ t. (h t).numbers; more = []; children = same_list a.children b.children (λ t. (h t).children) }
seated_by (phase.Make place) scope a b h = record { numbers = λ t. (h t).numbers; more = (place_of place, scope.0) ∷ []; children = λ t. (h t).children }
seated_by (phase.Asked named) scope a b h = record { numbers = λ t. (h t).numbers; more = []; children = same_list a.children b.children (λ t. (h t).children) }

module _ {P C Q V H T E L : Type 0} where
  pub give_grows : (p q : Patch P C Q V H T E L) (scope : ScopeId) (nodes : List DocNode) → Gives p scope nodes q → Grows p q
  give_grows p q scope nodes g =
      let seat : Seated (side_of p.new.side) (side_of q.new.side) = seated_by p.phase scope (side_of p.new.side) (side_of q.new.side) g.seated in
      record {
        old = g.old;
        shown = g.shown;
        rows = (scope.0, nodes) ∷ [];
        given = g.rows;
        numbers = [];
        drawn = same_list (side_of p.new.side).numbers (side_of q.new.side).numbers seat.numbers;
        children = seat.more;
        made = seat.children;
      }

  grows_still : (p : Patch P C Q V H T E L) → Grows p p
  grows_still p = grows_none p p (record { old = refl; given = refl; shown = refl }) refl

  -- each of these patches has grown to one, and no scope has to be asked at its mark
  abbrev pub AllGrown : List (Mark (types C Q V H T E L) × Patch P C Q V H T E L) → Patch P C Q V H T E L → Type 0
  AllGrown [] r = Unit {0}
  AllGrown (x ∷ met) r = Grows x.1 r × IsKnown x.1 x.0 × AllGrown met r

  passed_grown : (p r : Patch P C Q V H T E L) (ms : List (Mark (types C Q V H T E L))) (met : List (Mark (types C Q V H T E L) × Patch P C Q V H T E L))
      → Grows p r → AllKnown p ms → AllGrown met r → AllGrown (passed_by p ms ++ met) r
  passed_grown p r [] met g known all = all
  passed_grown p r (m ∷ ms) met g known all = (g, known.0, passed_grown p r ms met g known.1 all)

  module _ (app : Application (types C Q V H T E L)) where
    pub runs_grow : (p r : Patch P C Q V H T E L) (ss : List (PatchStep P C Q V H T E L)) (met : List (Mark (types C Q V H T E L) × Patch P C Q V H T E L)) → Runs app p ss met r
        → Grows p r × AllGrown met r
    runs_grow p r ss met (stays q) = (grows_still q, tt)
    runs_grow p r ss met (steps q n last step fs more free served leaves waits run) =
        let rest : Grows n r × AllGrown more r = runs_grow n r fs more run in
        let g : Grows q r = grows_on q n r (step_grows q n served.passed step served.does leaves) rest.0 in
        (g, passed_grown q r served.passed more g served.known rest.1)
    runs_grow p r ss met (gives q n last scope nodes fs more asked g free run) =
        let rest : Grows n r × AllGrown more r = runs_grow n r fs more run in
        (grows_on q n r (give_grows q n scope nodes g) rest.0, rest.1)
