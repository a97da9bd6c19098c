-- Where each number of a document stands, hidden nodes included, and a table that has the place of each.
use Rattle.std.specs.Prelude.{ℕ, Bool, true, false, List, [], ◌∷◌, ◌++◌, option_map, if◌then◌else◌, nat_eq, ◌≡◌}
use Rattle.rt_model.specs.Lists.{at, without}
use Rattle.rt_model.specs.Tree.{Types}
use Rattle.rt_model.specs.Tree as model
use Rattle.rt_model.specs.State.{SideName, MainSide, ChildrenSide, FallbackSide, Scope}
use Rattle.rt_model.specs.Queries.{Standing}
use Rattle.run_owed.specs.Lists.{EachOnce, numbers_of}
use Rattle.tree_nodes.specs.declared.place.Place.{Place}
use Rattle.run_named.specs.Named.{named_in, named_of}

-- the numbers of one side of a scope, each with where it stands
abbrev pub side_standings : ℕ → SideName → List (model.Place × model.Kind × ℕ) → List (ℕ × Standing)
side_standings s name [] = []
side_standings s name (e ∷ es) = (e.2, (s, name, e.0)) ∷ side_standings s name es

-- the items of a list that marks pick, in order
abbrev pub picked : {A : Type 0} → List Bool → List A → List A
picked [] ys = []
picked (b ∷ bs) [] = []
picked (true ∷ bs) (y ∷ ys) = y ∷ picked bs ys
picked (false ∷ bs) (y ∷ ys) = picked bs ys

-- a list that is picked from another one
pub record IsPicked {A : Type 0} (few all : List A) : Type 0 where
  pub marks : List Bool
  pub same : few ≡ picked marks all

-- whether a list starts with a number
abbrev pub starts : List ℕ → ℕ → Bool
starts [] m = false
starts (n ∷ ns) m = nat_eq m n

-- all but the first
abbrev pub after_first : List ℕ → List ℕ
after_first [] = []
after_first (n ∷ ns) = ns

-- the numbers that go where these leave just those, in the same order
abbrev pub went : List ℕ → List ℕ → List ℕ
went [] ns = []
went (m ∷ ms) ns = if starts ns m then went ms (after_first ns) else m ∷ went ms ns

-- a table that these numbers left
abbrev pub without_all : {A : Type 0} → List (ℕ × A) → List ℕ → List (ℕ × A)
without_all es [] = es
without_all es (n ∷ ns) = without_all (without es n) ns

module _ {K : Types} where
  -- what is drawn for the three sides of a scope
  abbrev pub drawn_in : Scope K → List (model.Place × model.Kind × ℕ) × List (model.Place × model.Kind × ℕ) × List (model.Place × model.Kind × ℕ)
  drawn_in x = ((x.main_side).numbers, (x.children_side).numbers, (x.fallback_side).numbers)

  -- those of a scope, side by side
  abbrev pub scope_standings : ℕ → Scope K → List (ℕ × Standing)
  scope_standings s x =
      side_standings s MainSide (x.main_side).numbers
      ++ (side_standings s ChildrenSide (x.children_side).numbers ++ side_standings s FallbackSide (x.fallback_side).numbers)

  -- those of all live scopes
  abbrev pub standings : List (ℕ × Scope K) → List (ℕ × Standing)
  standings [] = []
  standings (e ∷ es) = scope_standings e.0 e.1 ++ standings es

  -- each number stands once, and the table has the place of each that stands, and no other
  pub record IsPlaced (scopes : List (ℕ × Scope K)) (places : List (ℕ × Place)) : Type 0 where
    pub apart : EachOnce (numbers_of (standings scopes))
    pub each : (n : ℕ) → option_map named_in (at places n) ≡ option_map named_of (at (standings scopes) n)
