-- One walk through a template that counts its slots.
use Rattle.std.specs.Prelude.{ℕ, ◌+◌, Bool, false, ◌&&◌, ◌==◌, nat_lt, nat_le, if◌then◌else◌, List, [], ◌∷◌, length, Option, Some, None, option_and_then}
use Rattle.std.specs.Option.{option_map}
use Rattle.std.specs.List.{slice_index_or}
use Rattle.std.specs.Str.{bytes_eq}
use Rattle.tree_nodes.specs.Met.{Met, AtElement, AtAttribute, AtText, AtSlot}
use Rattle.tree_nodes.specs.Names.{distinct, names_in}
use Rattle.tree_nodes.specs.BlockTest.{Sought, sought_in}
use Rattle.tree_fits.specs.declared.walk.Block.{Block}
use Rattle.tree_fits.specs.declared.walk.Seen.{Seen}

module _ {P Component Props Value Handler TaskState Effect Payload : Type 0} where
  -- what a walk through a block looks for
  abbrev pub sought_by : Block P Component Props Value Handler TaskState Effect Payload → Sought
  sought_by block = sought_in block.template.now block.attrs.now block.levels

-- the number after k, where a slot's number is k and its path is the k-th of the paths
abbrev pub next_slot : List (List ℕ) → List ℕ → ℕ → ℕ → Option ℕ
next_slot paths path id k =
    if nat_lt k (length paths) && (id == k && bytes_eq (slice_index_or paths k []) path) then Some (k + 1) else None

-- what was seen after one more thing was met, or nothing where it does not fit
abbrev pub walk_step : Sought → Met → Seen → Option Seen
walk_step s (AtElement path attrs children) seen =
    if nat_le (length path) s.levels && (nat_le children 256 && distinct (names_in s.names attrs)) then Some seen else None
walk_step s (AtAttribute path id) seen =
    option_map (λ k. record seen { attrs = k }) (next_slot s.attr_paths path id seen.attrs)
walk_step s (AtText path) seen = if nat_le (length path) s.levels then Some seen else None
walk_step s (AtSlot path id) seen =
    if nat_le (length path) s.levels then option_map (λ k. record seen { nodes = k }) (next_slot s.node_paths path id seen.nodes) else None

-- what was seen after all of these were met
abbrev pub walked : Sought → List Met → Seen → Option Seen
walked s [] seen = Some seen
walked s (m ∷ ms) seen = option_and_then (walked s ms) (walk_step s m seen)

-- whether a walk came to its end having seen so many node slots and attribute slots
abbrev pub ends : ℕ → ℕ → Option Seen → Bool
ends nodes attrs None = false
ends nodes attrs (Some seen) = seen.nodes == nodes && seen.attrs == attrs
