-- What the definitions find under a number is what stands under it.
use Rattle.std.proofs.Common.{ℕ, Bool, true, false, List, [], ◌∷◌, ◌++◌, ◌≡◌, nat_eq, refl, ◌∙◌}
use Rattle.std.specs.Prelude.{Option, Some, None, if◌then◌else◌}
use Rattle.rt_model.specs.Lists.{at, first_of}
use Rattle.rt_model.specs.Tree.{Types}
use Rattle.rt_model.specs.Tree as model
use Rattle.rt_model.specs.State.{SideName, MainSide, ChildrenSide, FallbackSide, Scope, State}
use Rattle.rt_model.specs.Queries.{Standing, numbered_place, on_side, in_scope, in_scopes, node_place}
use Rattle.run_named.specs.Standings.{side_standings, scope_standings, standings}

-- the first of two lists that has it
pub at_joined : {A : Type 0} (xs ys : List (ℕ × A)) (n : ℕ) → at (xs ++ ys) n ≡ first_of (at xs n) (at ys n)
at_joined [] ys n = refl
at_joined {A = A} (x ∷ xs) ys n = by (nat_eq x.0 n) (at_joined xs ys n)
  where
    by : (b : Bool) → at (xs ++ ys) n ≡ first_of (at xs n) (at ys n) → (if b then Some x.1 else at (xs ++ ys) n) ≡ first_of (if b then Some x.1 else at xs n) (at ys n)
    by true h = refl
    by false h = h

-- the standing of a place that was found
abbrev stood : ℕ → SideName → Option model.Place → Option Standing
stood s name o = elim o as (λ _. Option Standing) [ None ↦ None | Some p ↦ Some (s, name, p) ]

side_found : (s : ℕ) (name : SideName) (numbers : List (model.Place × model.Kind × ℕ)) (n : ℕ) → at (side_standings s name numbers) n ≡ stood s name (numbered_place numbers n)
side_found s name [] n = refl
side_found s name (e ∷ es) n = by (nat_eq e.2 n) (side_found s name es n)
  where
    by : (b : Bool) → at (side_standings s name es) n ≡ stood s name (numbered_place es n)
        → (if b then Some (s, name, e.0) else at (side_standings s name es) n) ≡ stood s name (if b then Some e.0 else numbered_place es n)
    by true h = refl
    by false h = h

module _ {K : Types} where
  scope_found : (s : ℕ) (x : Scope K) (n : ℕ) → at (scope_standings s x) n ≡ in_scope s x n
  scope_found s x n =
      at_joined (side_standings s MainSide (x.main_side).numbers) (side_standings s ChildrenSide (x.children_side).numbers ++ side_standings s FallbackSide (x.fallback_side).numbers) n
      ∙ (λ i. first_of (side_found s MainSide (x.main_side).numbers n i) (others i))
    where
      others : at (side_standings s ChildrenSide (x.children_side).numbers ++ side_standings s FallbackSide (x.fallback_side).numbers) n
          ≡ first_of (on_side s x ChildrenSide n) (on_side s x FallbackSide n)
      others =
          at_joined (side_standings s ChildrenSide (x.children_side).numbers) (side_standings s FallbackSide (x.fallback_side).numbers) n
          ∙ (λ i. first_of (side_found s ChildrenSide (x.children_side).numbers n i) (side_found s FallbackSide (x.fallback_side).numbers n i))

  scopes_found : (scopes : List (ℕ × Scope K)) (n : ℕ) → at (standings scopes) n ≡ in_scopes scopes n
  scopes_found [] n = refl
  scopes_found (e ∷ es) n = at_joined (scope_standings e.0 e.1) (standings es) n ∙ (λ i. first_of (scope_found e.0 e.1 n i) (scopes_found es n i))

  -- what stands under a number is what the definitions say of it
  pub node_found : (w : State K) (n : ℕ) → at (standings w.scopes) n ≡ node_place w n
  node_found w n = scopes_found w.scopes n
