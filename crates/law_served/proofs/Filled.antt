-- In the end what all marks brought is known, and that are the spots of the new tree.
use Rattle.std.proofs.Common.{List, [], ◌∷◌, ◌++◌, ◌≡◌, map, sym, ap, subst, ◌∙◌, append-nil}
use Rattle.rt_model.specs.OneLog.{types}
use Rattle.rt_model.specs.Tree.{Tree, Spot, node_at, component_at, spots}
use Rattle.rt_model.specs.World.{Application}
use Rattle.rt_model.proofs.Agendas.{node_found}
use Rattle.tree_marks.specs.Marks.{Mark, come, tree_marks}
use Rattle.tree_marks.specs.Spots.{all_brought, brings}
use Rattle.run_places.specs.Places.{side_of}
use Rattle.run_work.proofs.Agreed.{found-component}
use Rattle.law_patch.proofs.Brought.{come_all, tree_brought}
use Rattle.rt_tree.specs.declared.patch.Patch.{Patch}
use Rattle.rt_tree.specs.declared.step.PatchStep.{PatchStep}
use Rattle.rt_tree.specs.Awaits.{awaited, no_answer}
use Rattle.rt_tree.specs.Runs.{IsInOrder, Runs}
use Rattle.rt_tree.specs.Served.{marks_left}
use Rattle.rt_tree.proofs.Running.{in_order}
use Rattle.law_served.specs.KnownSpots.{Each, KnownAt, StartsWith}
use Rattle.law_served.specs.Starting.{IsFull}
use Rattle.law_served.proofs.Passing.{begins, ready_free, ready_run}
use Rattle.law_served.proofs.Spots.{known_grown, node_known, seat_known}
use Rattle.law_served.proofs.Whole.{each_among}

module _ {P C Q V H T E L : Type 0} where
  -- nothing of a first tree stays
  come_starts : (p : Patch P C Q V H T E L) (ss : List (Spot (types C Q V H T E L))) → StartsWith (λ q s. KnownAt q s) (λ m. brings m) p (map come ss)
  come_starts p [] = tt
  come_starts p (node_at q k ∷ ss) = (λ still. absurd still, come_starts p ss)
  come_starts p (component_at q c ∷ ss) = (λ still. absurd still, come_starts p ss)

  -- a patch that knows the spots of its tree is full
  full_of : (r : Patch P C Q V H T E L) (new : Tree (types C Q V H T E L)) → Each (λ q s. KnownAt q s) r (spots [] new) → IsFull (side_of r.new.side) new
  full_of r new known = record {
    numbers = λ q k here. each_among (λ x s. KnownAt x s) r (spots [] new) (node_at q k) known (node_found (spots [] new) q k here);
    children = λ q c here. each_among (λ x s. KnownAt x s) r (spots [] new) (component_at q c) known (found-component (spots [] new) q c here);
  }

module _ {P C Q V H T E L : Type 0} (app : Application (types C Q V H T E L)) where
  all_known : (p r : Patch P C Q V H T E L) (ss : List (PatchStep P C Q V H T E L)) (met : List (Mark (types C Q V H T E L) × Patch P C Q V H T E L)) (new : Tree (types C Q V H T E L))
      → Runs app p ss met r → awaited p.phase ≡ no_answer → StartsWith (λ q s. KnownAt q s) (λ m. brings m) p (marks_left p) → all_brought (marks_left p) ≡ spots [] new
      → marks_left r ≡ [] → awaited r.phase ≡ no_answer → IsFull (side_of r.new.side) new
  all_known p r ss met new run free start brought over done =
      let order : IsInOrder app p ss met r = in_order app p r ss met run in
      let ms : List (Mark (types C Q V H T E L)) = map (λ x. x.0) met in
      let all : marks_left p ≡ ms = order.marks ∙ ap (λ (ns : List (Mark (types C Q V H T E L))). ms ++ ns) over ∙ append-nil ms in
      let each : Each (λ q s. KnownAt q s) r (all_brought ms) =
      ready_free (λ q s. KnownAt q s) (λ m. brings m) known_grown node_known seat_known r.phase r ms done
      (ready_run (λ q s. KnownAt q s) (λ m. brings m) known_grown node_known seat_known app [] p r ss met run
      (begins (λ q s. KnownAt q s) (λ m. brings m) known_grown node_known seat_known p.phase p free)
      (subst (λ (ns : List (Mark (types C Q V H T E L))). StartsWith (λ q s. KnownAt q s) (λ m. brings m) p ns) all start)) in
      full_of r new
      (subst (λ (zs : List (Spot (types C Q V H T E L))). Each (λ q s. KnownAt q s) r zs) (ap (λ (ns : List (Mark (types C Q V H T E L))). all_brought ns) (sym all) ∙ brought) each)

  pub run_fills : (p r : Patch P C Q V H T E L) (ss : List (PatchStep P C Q V H T E L)) (met : List (Mark (types C Q V H T E L) × Patch P C Q V H T E L)) (new old : Tree (types C Q V H T E L))
      → Runs app p ss met r → awaited p.phase ≡ no_answer → marks_left p ≡ tree_marks app [] new old → StartsWith (λ q s. KnownAt q s) (λ m. brings m) p (marks_left p)
      → marks_left r ≡ [] → awaited r.phase ≡ no_answer → IsFull (side_of r.new.side) new
  run_fills p r ss met new old run free marks start over done =
      all_known p r ss met new run free start (ap (λ (ns : List (Mark (types C Q V H T E L))). all_brought ns) marks ∙ tree_brought app [] new old) over done

  pub first_fills : (p r : Patch P C Q V H T E L) (ss : List (PatchStep P C Q V H T E L)) (met : List (Mark (types C Q V H T E L) × Patch P C Q V H T E L)) (new : Tree (types C Q V H T E L))
      → Runs app p ss met r → awaited p.phase ≡ no_answer → marks_left p ≡ map come (spots [] new) → marks_left r ≡ [] → awaited r.phase ≡ no_answer → IsFull (side_of r.new.side) new
  first_fills p r ss met new run free marks over done =
      all_known p r ss met new run free
      (subst (λ (ns : List (Mark (types C Q V H T E L))). StartsWith (λ q s. KnownAt q s) (λ m. brings m) p ns) (sym marks) (come_starts p (spots [] new)))
      (ap (λ (ns : List (Mark (types C Q V H T E L))). all_brought ns) marks ∙ come_all (spots [] new)) over done
