-- What is nearest above a scope, and what a look-up of a context finds.
use Rattle.std.specs.Prelude.{ℕ, ◌<◌, ◌+◌, Bool, true, false, List, [], ◌∷◌, length, Option, Some, None, ◌≡◌}
use Rattle.rt_model.specs.Lists.{at}
use Rattle.rt_model.specs.Tree.{Types}
use Rattle.rt_model.specs.World.{World}
use Rattle.rt_model.specs.State.{Scope, State, upwards, world_of}
use Rattle.rt_model.specs.Lasting.{IsRooted}
use Rattle.rt_model.specs.Program.{Call, parent_in, own_context, look_up, own_scope_or}

-- what a call itself provided, else what stands there
abbrev pub offered_at : {V : Type 0} → Option V → Option V → Option V
offered_at (Some own) there = Some own
offered_at None there = there

module _ {K : Types} where
  -- the way up from a scope to the first one of which a test holds, itself counted; below it stand those of which it doesn't
  abbrev pub IsClimb : (Scope K → Bool) → State K → List ℕ → ℕ → ℕ → Type 0
  IsClimb test w [] s top = (s ≡ top) × ((x : Scope K) × (at w.scopes s ≡ Some x) × (test x ≡ true))
  IsClimb test w (p ∷ path) s top =
      ((x : Scope K) × (at w.scopes s ≡ Some x) × (test x ≡ false) × (x.parent ≡ Some p)) × IsClimb test w path p top

  -- what a scope offers to a call of a kind
  abbrev pub offered : World K → Call K → ℕ → ℕ → Option K.Value
  offered w c k s = offered_at (own_context c.provided k s) (w.values.context k s)

  -- the way up from a scope to the first one that offers a kind, itself counted
  abbrev pub IsWayToProvider : World K → Call K → ℕ → List ℕ → ℕ → K.Value → Type 0
  IsWayToProvider w c k [] s v = offered w c k s ≡ Some v
  IsWayToProvider w c k (p ∷ path) s v =
      (offered w c k s ≡ None) × (parent_in w.given.parents s ≡ Some p) × IsWayToProvider w c k path p v

-- what a test finds upwards is the nearest scope of which it holds; where heights are right the nearest one is always found
abbrev pub NearestIsFound : Types → Type 0
NearestIsFound K =
    (test : Scope K → Bool) (w : State K) (s top : ℕ)
    → (upwards test w s ≡ Some top → (path : List ℕ) × IsClimb test w path s top)
    ×
    (IsRooted w → (path : List ℕ) → IsClimb test w path s top → upwards test w s ≡ Some top)

-- a look-up gives the value of the nearest scope that provides the kind, and it finds that where there is one;
-- the way to it is never longer than there are scopes
abbrev pub NearestProvides : Types → Type 0
NearestProvides K =
    (w : World K) (c : Call K) (from : Option ℕ) (k : ℕ) (v : K.Value)
    → ((look_up w from k c).value ≡ Some v → (path : List ℕ) × IsWayToProvider w c k path (own_scope_or w from) v)
    ×
    ((path : List ℕ)
    → IsWayToProvider w c k path (own_scope_or w from) v
    → length path < length w.given.parents + 1
    → (look_up w from k c).value ≡ Some v)

-- in a state whose heights are right no way to a provider is too long
abbrev pub WaysAreShort : Types → Type 0
WaysAreShort K =
    (w : State K) (scope : ℕ) (polled : Option ℕ) (rendering : Bool) (c : Call K) (k s : ℕ) (path : List ℕ) (v : K.Value)
    → IsRooted w
    → IsWayToProvider (world_of w scope polled rendering) c k path s v
    → length path < length (world_of w scope polled rendering).given.parents + 1
