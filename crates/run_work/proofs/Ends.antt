-- What a whole walk has found is what the definitions say of both trees.
use Rattle.std.proofs.Common.{ℕ, ◌+◌, List, [], ◌≡◌, length, map, sym, ap, ◌∙◌, subst, arith}
use Rattle.std.specs.Prelude.{Option, Some, None, slice_get}
use Rattle.tree_nodes.specs.declared.vnode.VNode.{VNode}
use Rattle.rt_model.specs.OneLog.{types}
use Rattle.rt_model.specs.World.{Application}
use Rattle.rt_model.specs.Tree as model
use Rattle.rt_model.specs.Tree.{Place, Spot, spots}
use Rattle.rt_model.specs.Run.{spots_of, serves, drops_of, is_fed}
use Rattle.tree_mirror.specs.Sealed.{tree_of}
use Rattle.tree_marks.specs.Marks.{come, tree_marks}
use Rattle.run_places.specs.Apart.{Apart}
use Rattle.run_places.specs.Drawn.{SeatsFollow}
use Rattle.run_places.specs.Indexed.{node_index, seat_index}
use Rattle.run_places.specs.Places.{node_of, output_of, place_of, side_name_of, side_of}
use Rattle.run_places.proofs.Hits.{node_whole, seat_whole}
use Rattle.run_places.proofs.Sided.{node_there, seat_there}
use Rattle.run_work.specs.declared.patched.Ground.{Ground}
use Rattle.run_work.specs.declared.patched.Patched.{Patched}
use Rattle.run_work.specs.After.{Out, after, nothing_yet}
use Rattle.run_work.specs.Events as event
use Rattle.run_work.specs.Events.{pairing}
use Rattle.run_work.specs.Grounds.{ground_of, out_of}
use Rattle.run_work.specs.Marked.{events_in}
use Rattle.run_work.specs.Patches.{PatchesBy}
use Rattle.run_work.proofs.Afters.{Finds, come_finds, pair_finds}
use Rattle.run_work.proofs.Eventful.{come_events, tree_events}
use Rattle.run_work.proofs.Founding.{mapped_long}
use Rattle.rt_model.specs.Values.{is_same_component}

module _ {P C Q V H T E L : Type 0} (app : Application (types C Q V H T E L)) (g : Ground P C Q V H T E L) (tree : VNode P C Q V H T E L) (o : Patched P C Q V H T E L)
    (nodes_apart : Apart (g.side.now).nodes) (seats_apart : Apart (g.side.now).seats) where
  node_sound : (p : Place) (k : model.Kind) (i : ℕ) → node_index (g.side.now).nodes p k ≡ Some i → slice_get (map node_of (g.side.now).nodes) i ≡ Some (p, k)
  node_sound p k i h = node_there (g.side.now).nodes p k i (sym h)

  node_found : (p : Place) (k : model.Kind) (i : ℕ) → slice_get (map node_of (g.side.now).nodes) i ≡ Some (p, k) → node_index (g.side.now).nodes p k ≡ Some i
  node_found p k i h = node_whole 0 (g.side.now).nodes p k i nodes_apart h ∙ ap Some (let e : 0 + i ≡ i = omega arith in e)

  seat_sound : (p : Place) (i : ℕ) → seat_index (g.side.now).seats p ≡ Some i → slice_get (map place_of (g.side.now).seats) i ≡ Some p
  seat_sound p i h = seat_there (g.side.now).seats p i (sym h)

  seat_found : (p : Place) (i : ℕ) → slice_get (map place_of (g.side.now).seats) i ≡ Some p → seat_index (g.side.now).seats p ≡ Some i
  seat_found p i h = seat_whole 0 (g.side.now).seats p i seats_apart h ∙ ap Some (let e : 0 + i ≡ i = omega arith in e)

  -- what the definitions say of the old spots and the new ones is what a side says
  by_spots : (olds : List (Spot (types C Q V H T E L))) → olds ≡ spots_of (side_of g.side.now).output
      → Finds app (ground_of g) (map node_of (g.side.now).nodes) (map place_of (g.side.now).seats) olds (spots [] (tree_of tree)) (out_of o) → PatchesBy app g.scope g.name tree g.side.now o
  unfolding out_of ground_of
  by_spots olds is f = record {
    work = f.work ∙ ap (λ ss. serves app g.scope (side_name_of g.name) ss (spots [] (tree_of tree))) is;
    drops = f.drops ∙ ap (λ ss. drops_of app g.scope (side_name_of g.name) (spots [] (tree_of tree)) (side_of g.side.now).children ss) is;
    nodes = f.all_nodes;
    seats = f.all_seats;
    nodes_to = f.nodes_to;
    seats_to = subst (λ ss. SeatsFollow (λ c d. is_fed app c d) (map place_of (g.side.now).seats) ss (spots [] (tree_of tree)) o.seats_to) is f.seats_to;
  }

  begun : ◌≡◌ {A = Out (types C Q V H T E L)} (nothing_yet (length (g.side.now).nodes) (length (g.side.now).seats))
      (nothing_yet (length (map node_of (g.side.now).nodes)) (length (map place_of (g.side.now).seats)))
  begun = λ t. nothing_yet {K = types C Q V H T E L} (mapped_long node_of (g.side.now).nodes t) (mapped_long place_of (g.side.now).seats t)

  -- an old tree and a new one
  pub pair_ends : (old : VNode P C Q V H T E L) (start : Out (types C Q V H T E L)) → (g.side.now).output ≡ Some old → start ≡ nothing_yet (length (g.side.now).nodes) (length (g.side.now).seats)
      → out_of o ≡ after (ground_of g) (events_in (tree_marks app [] (tree_of tree) (tree_of old))) start → PatchesBy app g.scope g.name tree g.side.now o
  unfolding ground_of
  pair_ends old start some first found =
      by_spots (spots [] (tree_of old)) (ap (λ (x : Option (VNode P C Q V H T E L)). spots_of (output_of x)) (sym some))
      (
      subst (λ q. Finds app (ground_of g) (map node_of (g.side.now).nodes) (map place_of (g.side.now).seats) (spots [] (tree_of old)) (spots [] (tree_of tree)) q)
      (sym (found ∙ ap (λ es. after (ground_of g) es start) (tree_events app [] (tree_of tree) (tree_of old)) ∙ ap (λ q. after (ground_of g) (pairing (λ c d. is_same_component app c d) (tree_of old) (tree_of tree) []) q) (first ∙ begun)))
      (pair_finds app (ground_of g) (map node_of (g.side.now).nodes) (map place_of (g.side.now).seats) node_sound node_found seat_sound seat_found (tree_of old) (tree_of tree))
      )

  -- a first tree
  pub come_ends : (start : Out (types C Q V H T E L)) → (g.side.now).output ≡ None → start ≡ nothing_yet (length (g.side.now).nodes) (length (g.side.now).seats)
      → out_of o ≡ after (ground_of g) (events_in (map come (spots [] (tree_of tree)))) start → PatchesBy app g.scope g.name tree g.side.now o
  unfolding ground_of
  come_ends start none first found =
      by_spots [] (ap (λ (x : Option (VNode P C Q V H T E L)). spots_of (output_of x)) (sym none))
      (
      subst (λ q. Finds app (ground_of g) (map node_of (g.side.now).nodes) (map place_of (g.side.now).seats) [] (spots [] (tree_of tree)) q)
      (sym (found ∙ ap (λ es. after (ground_of g) es start) (come_events (spots [] (tree_of tree))) ∙ ap (λ q. after (ground_of g) (map event.come (spots [] (tree_of tree))) q) (first ∙ begun)))
      (come_finds app (ground_of g) (map node_of (g.side.now).nodes) (map place_of (g.side.now).seats) node_sound node_found seat_sound seat_found (tree_of tree))
      )
