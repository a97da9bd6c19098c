-- The scopes that a unit may have changed, with those above them.
use Rattle.std.specs.Prelude.{ℕ, Bool, true, false, List, Option, Some, None, option_map, ◌≡◌}
use Rattle.std.specs.Borrow.{Bor}
use Rattle.rt_model.specs.Lists.{at, has}
use Rattle.rt_model.specs.Tree.{Types, Place}
use Rattle.rt_model.specs.Run.{child_at}
use Rattle.rt_model.specs.State.{SideName, Scope, State, is_live, parent_of, side_of}
use Rattle.run_shown.specs.declared.look.Look.{Look}
use Rattle.run_shown.specs.declared.look.Stood.{Stood}
use Rattle.run_shown.specs.Look.{look_parent, sight_of}

-- whether a scope is among them; all are where none are named
abbrev pub is_touched : Option (Bor (List ℕ)) → ℕ → Bool
is_touched None s = true
is_touched (Some scopes) s = has scopes.now s

module _ {K : Types} where
  -- a live child on a side of a scope has that scope as its parent
  abbrev pub KnowParents : State K → Type 0
  KnowParents v =
      (s t : ℕ) (x : Scope K) (a : SideName) (place : Place)
      → at v.scopes s ≡ Some x → child_at (side_of x a).children place ≡ Some t → is_live v t ≡ true → parent_of v.scopes t ≡ Some s

  -- all other scopes show what they did, and with each of those its parent is among them
  pub record Stays (w v : State K) (touched : ℕ → Bool) : Type 0 where
    pub alike : (s : ℕ) → touched s ≡ false → option_map sight_of (at w.scopes s) ≡ option_map sight_of (at v.scopes s)
    pub above : (t s : ℕ) → touched t ≡ true → parent_of v.scopes t ≡ Some s → touched s ≡ true

module _ {P C Q V H T E L : Type 0} where
  -- with each of these scopes its parent is among them
  abbrev pub Climbs : Look P C Q V H T E L → List ℕ → List ℕ → Type 0
  Climbs look scopes all = (t p : ℕ) → has scopes t ≡ true → look_parent look t ≡ Some p → has all p ≡ true

  -- among them are the scopes of which it is kept what they were, and with each one its parent
  pub record Covers (scopes : List ℕ) (stood : List (ℕ × Option (Stood P C Q V H T E L))) (after : Look P C Q V H T E L) : Type 0 where
    pub changed : (s : ℕ) (o : Option (Stood P C Q V H T E L)) → at stood s ≡ Some o → has scopes s ≡ true
    pub above : Climbs after scopes scopes

  -- a scope is among them now, and those above it, where that held of those before
  pub record Reaches (former scopes : List ℕ) (look : Look P C Q V H T E L) (s : ℕ) : Type 0 where
    pub own : has scopes s ≡ true
    pub others : (t : ℕ) → has former t ≡ true → has scopes t ≡ true
    pub above : Climbs look former former → Climbs look scopes scopes
