-- All that is kept of a scope, as the model has it.
use Rattle.std.specs.Prelude.{ℕ, List, [], ◌∷◌, map, option_map}
use Rattle.rt_model.specs.OneLog.{types}
use Rattle.rt_model.specs.State as state
use Rattle.tree_mirror.specs.Mirror.{error_of}
use Rattle.tree_mirror.specs.Sealed.{component_of}
use Rattle.run_places.specs.Places.{side_name_of, side_of}
use Rattle.run_records.specs.Records.{source_of, number_of, hook_of}
use Rattle.run_records.specs.declared.rows.Provided.{Provided}
use Rattle.run_records.specs.declared.rest.Scope.{Scope}

module _ {P C Q V H T E L : Type 0} where
  -- what a scope provides of a kind
  abbrev pub provided_of : Provided P C Q V H T E L → ℕ × V
  provided_of p = (p.kind, p.value)

  -- all that is kept of a scope
  abbrev pub scope_of : Scope P C Q V H T E L → state.Scope (types C Q V H T E L)
  scope_of x =
      record {
        component = component_of (x.rest).component;
        parent = number_of (x.row).parent;
        height = (x.rest).height;
        below = side_name_of (x.rest).below;
        main_side = side_of (x.rest).main_side;
        children_side = side_of (x.rest).children_side;
        fallback_side = side_of (x.rest).fallback_side;
        renders = (x.row).renders;
        hooks = map hook_of (x.row).hooks;
        contexts = map provided_of (x.row).contexts;
        reads = map source_of (x.rest).reads;
        mounted = (x.rest).mounted;
        effects = (x.rest).effects;
        error = option_map error_of (x.row).error;
        shows = option_map side_name_of (x.rest).shows;
        holders = (x.rest).holders;
        frozen = (x.rest).frozen;
        callbacks = (x.rest).callbacks;
      }

-- each value under a number put through a change
abbrev pub each : {A B : Type 0} → (A → B) → List (ℕ × A) → List (ℕ × B)
each f [] = []
each f (e ∷ es) = (e.0, f e.1) ∷ each f es
