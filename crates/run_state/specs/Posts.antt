-- What is posted of those who read a source.
use Rattle.std.specs.Prelude.{ℕ, Bool, List, [], ◌∷◌, ◌++◌, map, Option, Some, None, is_some, if◌then◌else◌}
use Rattle.rt_cells.specs.declared.numbered.Held.{Held}
use Rattle.rt_cells.specs.declared.sources.Reader.{Reader}
use Rattle.rt_cells.specs.declared.sources.Reader.TheVariants as reader
use Rattle.rt_cells.specs.declared.sources.Target.{Target}
use Rattle.rt_cells.specs.declared.sources.Target.TheVariants as targets
use Rattle.rt_cells.specs.Held.{value_at}
use Rattle.rt_model.specs.Lists.{at}
use Rattle.rt_model.specs.World as world
use Rattle.rt_model.specs.State.{Posted, Mark, Woken}
use Rattle.rt_model.specs.Commands.{names_source}
use Rattle.run_records.specs.Records.{source_of}
use Rattle.run_state.specs.declared.read_order.Reading.{Reading}
use Rattle.run_state.specs.Sources.{read_into}

-- something stands under a number
abbrev pub stands_in : {A : Type 0} → List (ℕ × A) → ℕ → Bool
stands_in es n = is_some (at es n)

-- whom the reactive context of a number tells
abbrev pub targets_in : List (ℕ × Held Target) → ℕ → Option Target
targets_in kept n = value_at n kept

-- the mark of a live scope
abbrev pub mark_of : (ℕ → Bool) → ℕ → List Posted
mark_of live s = if live s then Mark s ∷ [] else []

-- the wake of a task that hasn't ended
abbrev pub wake_of : (ℕ → Bool) → ℕ → List Posted
wake_of waits t = if waits t then Woken t ∷ [] else []

-- what is posted of a target
abbrev pub posts_of_target : (ℕ → Bool) → (ℕ → Bool) → Target → List Posted
posts_of_target live waits (targets.Scope s) = mark_of live s.0
posts_of_target live waits (targets.Task t) = wake_of waits t.0

-- the same of one that was found
abbrev pub posts_of_found : (ℕ → Bool) → (ℕ → Bool) → Option Target → List Posted
posts_of_found live waits None = []
posts_of_found live waits (Some target) = posts_of_target live waits target

-- what is posted of a reader: of a scope where scopes aren't posted yet, and of whom a reactive context tells
abbrev pub posts_of : Bool → (ℕ → Bool) → (ℕ → Bool) → (ℕ → Option Target) → Reader → List Posted
posts_of rises live waits found (reader.Scope s) = if rises then mark_of live s.0 else []
posts_of rises live waits found (reader.Context n) = posts_of_found live waits (found n)

-- the same of several readers, one after another
abbrev pub posts_of_all : Bool → (ℕ → Bool) → (ℕ → Bool) → (ℕ → Option Target) → List Reader → List Posted
posts_of_all rises live waits found [] = []
posts_of_all rises live waits found (r ∷ rs) = posts_of rises live waits found r ++ posts_of_all rises live waits found rs

-- what is posted of the reactive contexts into which a source was read
abbrev pub told_targets : (ℕ → Bool) → (ℕ → Bool) → world.Source → List Reading → List (ℕ × Held Target) → List Posted
told_targets live waits x order [] = []
told_targets live waits x order (e ∷ es) =
    (if names_source (map source_of (read_into order e.0)) x then posts_of_target live waits (e.1).value else [])
    ++ told_targets live waits x order es
