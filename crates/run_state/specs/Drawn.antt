-- What is drawn for the sides of a scope of code.
use Rattle.std.specs.Prelude.{ℕ, List, [], ◌∷◌, map, Option, Some, None, option_map, slice_get}
use Rattle.rt_model.specs.Queries.{Standing}
use Rattle.rt_model.specs.Tree as tree
use Rattle.run_records.specs.Kept.{scope_of}
use Rattle.run_records.specs.declared.rest.Scope.{Scope}
use Rattle.rt_cells.specs.declared.sources.Source.{Source}
use Rattle.run_named.specs.Standings.{drawn_in}
use Rattle.run_places.specs.declared.nodes.NodeAt.{NodeAt}
use Rattle.run_state.specs.Mounts.{Way, seatless, sideless, way_of}

-- nothing is drawn
abbrev pub bare : List (tree.Place × tree.Kind × ℕ) × List (tree.Place × tree.Kind × ℕ) × List (tree.Place × tree.Kind × ℕ)
bare = ([], [], [])

-- the numbers of what is drawn
abbrev pub numbers_in : List (ℕ × ℕ) → List ℕ
numbers_in drawn = map (λ (e : ℕ × ℕ). e.1) drawn

-- the numbers of what is drawn for these nodes; what is drawn past their end stands nowhere
abbrev pub numbers_at : List NodeAt → List (ℕ × ℕ) → List ℕ
numbers_at nodes [] = []
numbers_at nodes (e ∷ es) = elim (slice_get nodes e.0) [ None ↦ numbers_at nodes es | Some q ↦ e.1 ∷ numbers_at nodes es ]

-- in which scope what is found stands
abbrev pub standing_scope : Option Standing → Option ℕ
standing_scope found = option_map (λ (at : Standing). at.0) found

module _ {P C Q V H T E L : Type 0} where
  -- what is drawn for the three sides
  abbrev pub drawn_for : Scope P C Q V H T E L
      → List (tree.Place × tree.Kind × ℕ) × List (tree.Place × tree.Kind × ℕ) × List (tree.Place × tree.Kind × ℕ)
  drawn_for x = drawn_in (scope_of x)

  -- what is drawn for the three sides, the height, what says where the scope shows, and what was read last
  abbrev pub beside_lists : Scope P C Q V H T E L
      → (List (tree.Place × tree.Kind × ℕ) × List (tree.Place × tree.Kind × ℕ) × List (tree.Place × tree.Kind × ℕ)) × ℕ × Way × List Source
  beside_lists x = (drawn_for x, (x.rest).height, way_of x, (x.rest).reads)

  -- the same, the queued effects and the holders
  abbrev pub kept_for : Scope P C Q V H T E L
      → (List (tree.Place × tree.Kind × ℕ) × List (tree.Place × tree.Kind × ℕ) × List (tree.Place × tree.Kind × ℕ)) × ℕ × Way × List Source × List E × List (ℕ × ℕ)
  kept_for x = (drawn_for x, (x.rest).height, way_of x, (x.rest).reads, (x.rest).effects, (x.rest).holders)

  -- the same, whatever children stand on the sides
  abbrev pub beside_seats : Scope P C Q V H T E L
      → (List (tree.Place × tree.Kind × ℕ) × List (tree.Place × tree.Kind × ℕ) × List (tree.Place × tree.Kind × ℕ)) × ℕ × Way × List Source × List E × List (ℕ × ℕ)
  beside_seats x = (drawn_for x, (x.rest).height, seatless x, (x.rest).reads, (x.rest).effects, (x.rest).holders)

  -- the same, whatever side the scope shows
  abbrev pub turned_for : Scope P C Q V H T E L
      → (List (tree.Place × tree.Kind × ℕ) × List (tree.Place × tree.Kind × ℕ) × List (tree.Place × tree.Kind × ℕ)) × ℕ × Way × List Source × List E × List (ℕ × ℕ)
  turned_for x = (drawn_for x, (x.rest).height, sideless x, (x.rest).reads, (x.rest).effects, (x.rest).holders)
