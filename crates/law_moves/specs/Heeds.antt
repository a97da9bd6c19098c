-- What a change leaves of all scopes but one: who reads what has changed, and who is held in another way, is marked.
use Rattle.std.specs.Prelude.{ℕ, Bool, true, false, nat_eq, List, [], ◌∷◌, Option, Some, None, ◌≡◌, ◌<◌, ◌⊎◌}
use Rattle.rt_model.specs.Lists.{at, has}
use Rattle.rt_model.specs.Tree.{Types, VComponent, Tree}
use Rattle.rt_model.specs.World.{Source, Cell, Error, Context}
use Rattle.rt_model.specs.State.{SideName, Posted, Mark, Scope, State, values_of, is_held}
use Rattle.rt_model.specs.Commands.{names_source}

-- a cell below a bound, any error slot, any context
abbrev pub Low : ℕ → Source → Type 0
Low n (Cell m) = m < n
Low n (Error s) = Unit {0}
Low n (Context k s) = Unit {0}

-- the mark of a scope is among what is posted
abbrev pub HasMark : List Posted → ℕ → Type 0
HasMark [] s = ⊥
HasMark (p ∷ ps) s = (p ≡ Mark s) ⊎ HasMark ps s

-- a scope is the one that is passed over, if one is
abbrev pub is_past : Option ℕ → ℕ → Bool
is_past None t = false
is_past (Some s) t = nat_eq s t

-- what a run leaves of a scope: the component and the sources of the run, which side shows, and the output of each side
abbrev pub Leavings : Types → Type 0
Leavings K = VComponent K × List Source × Option SideName × Option (Tree K) × Option (Tree K) × Option (Tree K)

module _ {K : Types} where
  -- what the last run left of a scope that is live
  abbrev pub leavings : Option (Scope K) → Option (Leavings K)
  leavings None = None
  leavings (Some x) = Some (x.component, x.reads, x.shows, x.main_side.output, x.children_side.output, x.fallback_side.output)

  -- the mark of a scope is posted or seen
  abbrev pub Marked : State K → ℕ → Type 0
  Marked w s = HasMark w.posted s ⊎ (has w.seen s ≡ true)

  -- a source has one value in both states
  abbrev pub SameOf : State K → State K → Source → Type 0
  SameOf w v (Cell n) = (values_of w).cell n ≡ (values_of v).cell n
  SameOf w v (Error s) = (values_of w).error s ≡ (values_of v).error s
  SameOf w v (Context k s) = (values_of w).context k s ≡ (values_of v).context k s

  -- from w to v no scope but one comes or goes, and what its run left stays; its mark stays, and one is there where a source
  -- that it read has another value, or where its being held has changed
  pub record Heeds (past : Option ℕ) (n : ℕ) (w v : State K) : Type 0 where
    pub stays : (t : ℕ) → is_past past t ≡ false → leavings (at v.scopes t) ≡ leavings (at w.scopes t)
    pub calls : (t : ℕ) → is_past past t ≡ false → at v.last_calls t ≡ at w.last_calls t
    pub marks : (t : ℕ) (x : Scope K) → is_past past t ≡ false → at w.scopes t ≡ Some x → Marked w t → Marked v t
    -- of cells it speaks of those below the bound
    pub told :
        (t : ℕ) (x : Scope K) (i : Source)
        → is_past past t ≡ false
        → at w.scopes t ≡ Some x
        → names_source x.reads i ≡ true
        → Low n i
        → SameOf w v i ⊎ Marked v t
    pub held :
        (t : ℕ) (x y : Scope K)
        → is_past past t ≡ false
        → at w.scopes t ≡ Some x
        → at v.scopes t ≡ Some y
        → (is_held y ≡ is_held x) ⊎ Marked v t
