-- What is asked of an application of pages whose scopes are followed, and of a fact of each of them.
use Rattle.std.proofs.Common.{ℕ, List, [], ◌∷◌, ◌++◌, ◌≡◌}
use Rattle.std.specs.Prelude.{None}
use Rattle.rt_model.specs.Tree.{Types, VComponent}
use Rattle.rt_model.specs.World.{Hook, Command, NewCell, World}
use Rattle.rt_model.specs.State.{Scope}
use Rattle.rt_model.specs.Run.{body_of}
use Rattle.author_programs.specs.Cells.{Keeping}
use Rattle.author_programs.specs.Pages.{Pages, meaning_of_pages}
use Rattle.law_elm.specs.Safe.{PagesSafe}
use Rattle.law_elm.proofs.Tiers.{Tier, IsTier}

module _ {K : Types} where
  -- the cells that are made may be made
  abbrev pub MayMake : (ℕ → Type 0) → Command K → Type 0
  MayMake may (NewCell n v) = may n
  MayMake may _ = Unit {0}

  abbrev pub AllMay : (ℕ → Type 0) → List (Command K) → Type 0
  AllMay may [] = Unit {0}
  AllMay may (c ∷ cs) = MayMake may c × AllMay may cs

  -- a record of a scope with the same component, error, hooks, output and children
  pub record Alike (x y : Scope K) : Type 0 where
    pub component : y.component ≡ x.component
    pub error : y.error ≡ x.error
    pub hooks : y.hooks ≡ x.hooks
    pub output : y.main_side.output ≡ x.main_side.output
    pub main : y.main_side.children ≡ x.main_side.children
    pub held : y.children_side.children ≡ x.children_side.children
    pub fallback : y.fallback_side.children ≡ x.fallback_side.children

-- which components may stand in what pages show; what is said of the hooks of a scope, and of a cell with its owner, by what that is; and
-- that bodies ask for no other cells
pub record Rules {K : Types} (k : Keeping K.Value) (a : Pages K) (given : K.Props) : Type 1 where
  pub may : K.Component → Type 0
  pub safe : PagesSafe may a
  pub hooks : ℕ → List (Hook K) → Type 0
  pub longer : (n : ℕ) (hs : List (Hook K)) (h : Hook K) → hooks n hs → hooks n (hs ++ h ∷ [])
  pub cells : Tier → ℕ → ℕ → Type 0
  pub asks : (t : Tier) (s : ℕ) (d : VComponent K) (w : World K) → IsTier may a.root given t d → hooks s w.given.hooks → AllMay (λ n. cells t n s) (body_of (meaning_of_pages k a) d w).commands

-- a fact of a scope that says nothing but of these, and with it what is said of its hooks
pub record Facts {K : Types} (hooks : ℕ → List (Hook K) → Type 0) : Type 1 where
  pub of : ℕ → Scope K → Type 0
  pub keeps : (n : ℕ) (x y : Scope K) → Alike x y → of n x → of n y
  pub longer : (n : ℕ) (x : Scope K) (h : Hook K) → of n x → of n (record x { hooks = x.hooks ++ h ∷ [] })
  pub bare : (n : ℕ) (x : Scope K) → of n x → x.error ≡ None
  pub hooked : (n : ℕ) (x : Scope K) → of n x → hooks n x.hooks
