-- A change of a scope that leaves what is drawn for its sides.
use Rattle.std.proofs.Common.{ℕ, zero, suc, ◌<◌, Bool, true, false, List, [], ◌∷◌, ◌++◌, ◌≡◌, length, get_or, nat_eq, refl, sym, ap, subst, ◌∙◌, arith}
use Rattle.std.specs.Prelude.{Option, Some, None, option_map, slice_set, if◌then◌else◌}
use Rattle.std.proofs.lemmas.Bool.{eqb-true}
use Rattle.rt_model.specs.Lists.{at, put}
use Rattle.rt_model.specs.Tree.{Types}
use Rattle.rt_model.specs.Tree as model
use Rattle.rt_model.specs.State.{MainSide, ChildrenSide, FallbackSide, Scope}
use Rattle.rt_model.specs.Queries.{Standing}
use Rattle.tree_nodes.specs.declared.place.Place.{Place}
use Rattle.run_owed.specs.Lists.{EachOnce, numbers_of}
use Rattle.run_named.specs.Named.{named_of}
use Rattle.run_named.specs.Standings.{IsPlaced, drawn_in, side_standings, scope_standings, standings}

-- where what is drawn stands, side by side
abbrev all_sides : ℕ → List (model.Place × model.Kind × ℕ) × List (model.Place × model.Kind × ℕ) × List (model.Place × model.Kind × ℕ) → List (ℕ × Standing)
all_sides s d = side_standings s MainSide d.0 ++ (side_standings s ChildrenSide d.1 ++ side_standings s FallbackSide d.2)

module _ {K : Types} where
  pub sides_stay : (s : ℕ) (x y : Scope K) → drawn_in y ≡ drawn_in x → scope_standings s y ≡ scope_standings s x
  sides_stay s x y same = ap (λ (d : List (model.Place × model.Kind × ℕ) × List (model.Place × model.Kind × ℕ) × List (model.Place × model.Kind × ℕ)). all_sides s d) same

  -- a scope is put that has the same
  pub standings_put : (scopes : List (ℕ × Scope K)) (s : ℕ) (x y : Scope K) → at scopes s ≡ Some x → drawn_in y ≡ drawn_in x → standings (put scopes s y) ≡ standings scopes
  standings_put [] s x y live same = absurd (cc live)
  standings_put (r ∷ rs) s x y live same = by (nat_eq r.0 s) refl live (λ h. standings_put rs s x y h same)
    where
      by : (b : Bool) → nat_eq r.0 s ≡ b → (if b then Some r.1 else at rs s) ≡ Some x → (at rs s ≡ Some x → standings (put rs s y) ≡ standings rs)
          → standings (if b then (s, y) ∷ rs else r ∷ put rs s y) ≡ scope_standings r.0 r.1 ++ standings rs
      by true q own rest =
          let number : s ≡ r.0 = sym (eqb-true r.0 s q) in
          let here : x ≡ r.1 = some_own x r.1 own in
          ap (λ (ys : List (ℕ × Standing)). ys ++ standings rs)
          (ap (λ (k : ℕ). scope_standings k y) number ∙ sides_stay r.0 x y same ∙ ap (λ (z : Scope K). scope_standings r.0 z) here)
        where
          some_own : (a b : Scope K) → Some b ≡ Some a → a ≡ b
          some_own a b h = sym (ap (λ (o : Option (Scope K)). elim o as (λ _. Scope K) [ None ↦ b | Some z ↦ z ]) h)
      by false q own rest = ap (λ (ys : List (ℕ × Standing)). scope_standings r.0 r.1 ++ ys) (rest own)

  -- one is set at an index that has the same
  pub standings_set : (scopes : List (ℕ × Scope K)) (i : ℕ) (d : ℕ × Scope K) (y : Scope K) → i < length scopes → drawn_in y ≡ drawn_in (get_or scopes i d).1
      → standings (slice_set scopes i ((get_or scopes i d).0, y)) ≡ standings scopes
  standings_set [] i d y within same = absurd (omega (arith, within))
  standings_set (r ∷ rs) zero d y within same = ap (λ (ys : List (ℕ × Standing)). ys ++ standings rs) (sides_stay r.0 r.1 y same)
  standings_set (r ∷ rs) (suc i) d y within same = ap (λ (ys : List (ℕ × Standing)). scope_standings r.0 r.1 ++ ys) (standings_set rs i d y (omega (arith, within)) same)

  -- what stands is the same, so the table has the place of each
  pub placed_same : (old new : List (ℕ × Scope K)) (places : List (ℕ × Place)) → standings new ≡ standings old → IsPlaced old places → IsPlaced new places
  placed_same old new places same h =
      record {
        apart = subst (λ (ys : List (ℕ × Standing)). EachOnce (numbers_of ys)) (sym same) h.apart;
        each = λ n. h.each n ∙ ap (λ (ys : List (ℕ × Standing)). option_map named_of (at ys n)) (sym same);
      }
