-- Scopes that become mounted.
use Rattle.std.specs.Prelude.{◌≡◌, ◌<◌, ℕ, zero, suc, Bool, true, false, ◌&&◌, ◌||◌, not, nat_eq, nat_lt, List, [], ◌∷◌, ◌++◌, Option, Some, None, is_some, map}
use Rattle.std.specs.List.{list_any}
use Rattle.rt_model.specs.Lists.{at, has}
use Rattle.rt_model.specs.Tree.{Types, Place}
use Rattle.rt_model.specs.OneLog.{types}
use Rattle.rt_model.specs.State as model
use Rattle.rt_model.specs.State.{SideName, height_of, is_side, shown_at, shown_from}
use Rattle.run_records.specs.Kept.{each, scope_of}
use Rattle.run_records.specs.declared.rest.Scope.{Scope}
use Rattle.run_owed.specs.Lists.{EachOnce, numbers_of}

-- what of a scope says where it shows, whether it is mounted, and which children stand on its sides
pub record Way : Type 0 where
  pub parent : Option ℕ
  pub below : SideName
  pub shows : Option SideName
  pub height : ℕ
  pub mounted : Bool
  pub children : List ℕ

module _ {K : Types} where
  -- a live scope shows
  abbrev pub shown_in : List (ℕ × model.Scope K) → ℕ → Bool
  shown_in scopes s = is_some (at scopes s) && shown_from scopes (height_of scopes s) s

  -- the parent of a scope shows the way, and so do those further up, at most n steps
  abbrev pub shown_over : List (ℕ × model.Scope K) → ℕ → model.Scope K → Bool
  shown_over scopes n x = shown_at scopes (λ p. shown_from scopes n p) x.below x.parent

  -- the children that stand on a side
  abbrev pub seats_on : model.Side K → List ℕ
  seats_on side = map (λ (e : Place × ℕ). e.1) side.children

  -- those on the three sides of a scope
  abbrev pub seats_in : model.Scope K → List ℕ
  seats_in x = seats_on x.main_side ++ (seats_on x.children_side ++ seats_on x.fallback_side)

  -- that of a scope
  abbrev pub way_in : model.Scope K → Way
  way_in x = record { parent = x.parent; below = x.below; shows = x.shows; height = x.height; mounted = x.mounted; children = seats_in x }

  -- that of each scope
  abbrev pub ways_in : List (ℕ × model.Scope K) → List (ℕ × Way)
  ways_in scopes = each way_in scopes

-- a number is above that of a parent
abbrev pub is_above : ℕ → Option ℕ → Bool
is_above n None = true
is_above n (Some p) = nat_lt p n

-- the parent is gone, or has this number and doesn't show the way, or so does what is above it
abbrev pub hides_at : List (ℕ × Way) → ℕ → (ℕ → Bool) → SideName → Option ℕ → Bool
hides_at ways b go below None = false
hides_at ways b go below (Some p) = elim (at ways p) [ None ↦ true | Some y ↦ (nat_eq p b && not (is_side y.shows below)) || go p ]

-- a scope is hidden by the one with this number, or by one that is gone, at most n steps up
abbrev pub hides : List (ℕ × Way) → ℕ → ℕ → ℕ → Bool
hides ways b zero s = false
hides ways b (suc n) s = elim (at ways s) [ None ↦ true | Some x ↦ hides_at ways b (λ p. hides ways b n p) x.below x.parent ]

-- the same of a scope by its parent
abbrev pub hides_over : List (ℕ × Way) → ℕ → ℕ → Way → Bool
hides_over ways b n x = hides_at ways b (λ p. hides ways b n p) x.below x.parent

-- a scope is among the fresh ones, or hidden by the number before it
abbrev pub covers : List (ℕ × Way) → List ℕ → List (ℕ × ℕ) → ℕ → ℕ → Bool
covers ways fresh hidden height s = has fresh s || list_any (λ e. nat_eq e.1 s && hides ways e.0 height s) hidden

-- a child on a scope's side has a number below the bound, and where it stands that scope is its parent
abbrev pub IsSeated : List (ℕ × Way) → ℕ → ℕ → ℕ → Type 0
IsSeated ways bound s t = (t < bound) × ((y : Way) → at ways t ≡ Some y → y.parent ≡ Some s)

-- no two scopes have one number, all numbers are below the bound, what isn't mounted is fresh or hidden, and children know their parents
pub record IsWaiting (ways : List (ℕ × Way)) (fresh : List ℕ) (hidden : List (ℕ × ℕ)) (bound : ℕ) : Type 0 where
  pub apart : EachOnce (numbers_of ways)
  pub low : (s : ℕ) (x : Way) → at ways s ≡ Some x → (s < bound) × ((p : ℕ) → x.parent ≡ Some p → p < bound)
  pub covered : (s : ℕ) (x : Way) → at ways s ≡ Some x → x.mounted ≡ false → covers ways fresh hidden x.height s ≡ true
  pub seated : (s t : ℕ) (x : Way) → at ways s ≡ Some x → has x.children t ≡ true → IsSeated ways bound s t

module _ {P C Q V H T E L : Type 0} where
  -- what says of a scope of code where it shows
  abbrev pub way_of : Scope P C Q V H T E L → Way
  way_of x = way_in (scope_of x)

  -- the same, whatever children stand on its sides
  abbrev pub seatless : Scope P C Q V H T E L → Way
  seatless x = record (way_in (scope_of x)) { children = [] }

  -- the same, whatever side it shows
  abbrev pub sideless : Scope P C Q V H T E L → Way
  sideless x = record (way_in (scope_of x)) { shows = None }

  -- that of each scope of code
  abbrev pub ways_of : List (ℕ × Scope P C Q V H T E L) → List (ℕ × Way)
  ways_of rows = ways_in (each scope_of rows)

  -- a scope that was mounted, or is now
  abbrev pub mounted_by : Bool → ℕ × Scope P C Q V H T E L → ℕ × Scope P C Q V H T E L
  mounted_by now e = (e.0, record (e.1) { rest = record (e.1.rest) { mounted = (e.1.rest).mounted || now } })

  -- a scope that is one of these and shows is mounted
  abbrev pub mounts_in : List (ℕ × model.Scope (types C Q V H T E L)) → List ℕ → ℕ × Scope P C Q V H T E L → ℕ × Scope P C Q V H T E L
  mounts_in scopes numbers e = mounted_by (has numbers e.0 && shown_in scopes e.0) e
