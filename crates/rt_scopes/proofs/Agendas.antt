-- The agenda of a tree on a side, put together from what the code finds.
use Rattle.std.proofs.Common.{ℕ, true, List, [], ◌++◌, ◌≡◌, sym, ap, ◌∙◌, map}
use Rattle.std.specs.Prelude.{Option, Some, None}
use Rattle.tree_nodes.specs.declared.vnode.VNode.{VNode}
use Rattle.rt_model.specs.OneLog.{types}
use Rattle.rt_model.specs.World.{Application}
use Rattle.rt_model.specs.Tree as model
use Rattle.rt_model.specs.Tree.{spots}
use Rattle.rt_model.specs.Lists.{at}
use Rattle.rt_model.specs.State as state
use Rattle.rt_model.specs.State.{Outcome, Done, change, changed_scope, with_side}
use Rattle.rt_model.specs.Run.{spots_of, serves, drops_of, kept_numbers, kept_children, start_agenda, patched}
use Rattle.tree_mirror.specs.Sealed.{tree_of}
use Rattle.run_places.specs.declared.nodes.NodeAt.{NodeAt}
use Rattle.run_places.specs.declared.place.Step.{Step}
use Rattle.run_places.specs.declared.side.Side.{Side}
use Rattle.run_places.specs.declared.side.SideName.{SideName}
use Rattle.run_places.specs.Drawn.{moved}
use Rattle.run_places.specs.Known.{knows}
use Rattle.run_places.specs.Places.{node_of, place_of, placed, seated, side_name_of, side_of}
use Rattle.run_places.proofs.Knowing.{known_by}
use Rattle.run_places.proofs.Placed.{placed_moved, seated_moved}
use Rattle.run_work.specs.declared.item.Item.{Item}
use Rattle.run_work.specs.Items.{item_of, work_of}
use Rattle.run_work.specs.declared.patched.Patched.{Patched}
use Rattle.run_work.specs.Patches as patches_of
use Rattle.run_work.proofs.Walking.{mapped}
use Rattle.rt_scopes.specs.Agendas.{PatchesBy}

module _ {P C Q V H T E L : Type 0} (app : Application (types C Q V H T E L)) where
  -- what the walk finds is what the model keeps and serves
  pub patches : (scope : ℕ) (name : SideName) (tree : VNode P C Q V H T E L) (was : Side P C Q V H T E L) (out : Patched P C Q V H T E L) (work : List (Item P C Q V H T E L))
      (nodes : List NodeAt) (seats : List (List Step)) (numbers children : List (ℕ × ℕ))
      → patches_of.PatchesBy app scope name tree was out
      → work ≡ out.work ++ out.drops
      → nodes ≡ out.nodes
      → seats ≡ out.seats
      → numbers ≡ moved out.nodes_to was.numbers
      → children ≡ moved out.seats_to was.children
      → (work_of work
      ≡ serves app scope (side_name_of name) (spots_of (side_of was).output) (spots [] (tree_of tree))
      ++ drops_of app scope (side_name_of name) (spots [] (tree_of tree)) (side_of was).children (spots_of (side_of was).output))
      × ◌≡◌ {A = state.Side (types C Q V H T E L)} (record { output = Some (tree_of tree); numbers = placed (map node_of nodes) numbers; children = seated (map place_of seats) children })
      (record {
        output = Some (tree_of tree);
        numbers = kept_numbers (spots [] (tree_of tree)) (side_of was).numbers;
        children = kept_children app (spots_of (side_of was).output) (spots [] (tree_of tree)) (side_of was).children;
      })
  patches scope name tree was out work nodes seats numbers children found work_is nodes_are seats_are numbers_are children_are =
      let kept : placed (map node_of nodes) numbers ≡ kept_numbers (spots [] (tree_of tree)) (side_of was).numbers =
      (λ i. placed (map node_of (nodes_are i)) (numbers_are i))
      ∙ ap (λ (ns : List (model.Place × model.Kind)). placed ns (moved out.nodes_to was.numbers)) found.nodes
      ∙ placed_moved (map node_of was.nodes) (spots [] (tree_of tree)) out.nodes_to found.nodes_to was.numbers in
      let fed : seated (map place_of seats) children ≡ kept_children app (spots_of (side_of was).output) (spots [] (tree_of tree)) (side_of was).children =
      (λ i. seated (map place_of (seats_are i)) (children_are i))
      ∙ ap (λ (ps : List model.Place). seated ps (moved out.seats_to was.children)) found.seats
      ∙ seated_moved app (map place_of was.seats) (spots_of (side_of was).output) (spots [] (tree_of tree)) out.seats_to found.seats_to was.children in
      (ap work_of work_is ∙ mapped item_of out.work out.drops ∙ (λ i. found.work i ++ found.drops i), (λ i. record { output = Some (tree_of tree); numbers = kept i; children = fed i }))

  -- the side knows its new tree
  pub patched_known : (scope : ℕ) (name : SideName) (tree : VNode P C Q V H T E L) (was : Side P C Q V H T E L) (out : Patched P C Q V H T E L) (nodes : List NodeAt) (seats : List (List Step))
      → patches_of.PatchesBy app scope name tree was out → nodes ≡ out.nodes → seats ≡ out.seats → knows (Some tree) nodes seats ≡ true
  patched_known scope name tree was out nodes seats found nodes_are seats_are =
      known_by (Some tree) nodes seats
      (ap (λ (ns : List NodeAt). map node_of ns) nodes_are ∙ found.nodes)
      (ap (λ (ps : List (List Step)). map place_of ps) seats_are ∙ found.seats)

module _ {K : model.Types} (app : Application K) where
  -- the agenda of a scope that was found
  pub started : (w : state.State K) (s : ℕ) (name : state.SideName) (tree : model.Tree K) (x : state.Scope K) (side : state.Side K) (work : List (state.Item K))
      → at w.scopes s ≡ Some x
      → work
      ≡ serves app s name (spots_of (state.side_of x name).output) (spots [] tree)
      ++ drops_of app s name (spots [] tree) (state.side_of x name).children (spots_of (state.side_of x name).output)
      → side
      ≡ record {
        output = Some tree;
        numbers = kept_numbers (spots [] tree) (state.side_of x name).numbers;
        children = kept_children app (spots_of (state.side_of x name).output) (spots [] tree) (state.side_of x name).children;
      }
      → start_agenda app w s name tree ≡ Done (change w s (λ y. with_side y name side)) work
  started w s name tree x side work found work_is side_is =
      let begin : Option (state.Scope K) → Outcome K =
      λ o. elim o [ None ↦ Done w [] | Some y ↦ patched app w s name tree (spots_of (state.side_of y name).output) (spots [] tree) (state.side_of y name) y ] in
      let goes : Option (state.Scope K) → Outcome K = λ o. Done (changed_scope w s (λ y. with_side y name side) o) work in
      let with_that : state.Side K → List (state.Item K) → Outcome K = λ r k. Done (changed_scope w s (λ y. with_side y name r) (Some x)) k in
      ap begin found ∙ sym (λ i. with_that (side_is i) (work_is i)) ∙ sym (ap goes found)

  -- of a scope that is gone there is none
  pub not_started : (w : state.State K) (s : ℕ) (name : state.SideName) (tree : model.Tree K) → at w.scopes s ≡ None → start_agenda app w s name tree ≡ Done w []
  not_started w s name tree gone =
      let begin : Option (state.Scope K) → Outcome K =
      λ o. elim o [ None ↦ Done w [] | Some y ↦ patched app w s name tree (spots_of (state.side_of y name).output) (spots [] tree) (state.side_of y name) y ] in
      ap begin gone

module _ {P C Q V H T E L : Type 0} (app : Application (types C Q V H T E L)) where
  -- the same, by what code keeps and serves
  pub begins : (w v : state.State (types C Q V H T E L)) (s : ℕ) (name : SideName) (tree : VNode P C Q V H T E L) (was : Side P C Q V H T E L) (x : state.Scope (types C Q V H T E L)) (work : List (Item P C Q V H T E L)) (side : Side P C Q V H T E L)
      → at w.scopes s ≡ Some x → side_of was ≡ state.side_of x (side_name_of name) → PatchesBy app s name tree was work side
      → v ≡ change w s (λ y. with_side y (side_name_of name) (side_of side))
      → start_agenda app w s (side_name_of name) (tree_of tree) ≡ Done v (work_of work)
  begins w v s name tree was x work side found before put changed =
      started app w s (side_name_of name) (tree_of tree) x (side_of side) (work_of work) found
      (put.work_is
      ∙ ap (λ (a : state.Side (types C Q V H T E L)). serves app s (side_name_of name) (spots_of a.output) (spots [] (tree_of tree)) ++ drops_of app s (side_name_of name) (spots [] (tree_of tree)) a.children (spots_of a.output)) before)
      (put.side_is
      ∙ ap (λ (a : state.Side (types C Q V H T E L)). let r : state.Side (types C Q V H T E L) = record { output = Some (tree_of tree); numbers = kept_numbers (spots [] (tree_of tree)) a.numbers; children = kept_children app (spots_of a.output) (spots [] (tree_of tree)) a.children } in r) before)
      ∙ ap (λ u. Done u (work_of work)) (sym changed)
