-- What is called in scopes that are told.
use Rattle.std.specs.Prelude.{ℕ, Bool, List}
use Rattle.std.specs.List.{list_all}
use Rattle.rt_model.specs.Lists.{has}
use Rattle.rt_model.specs.Tree.{Types}
use Rattle.rt_model.specs.State.{State, is_live}

-- the scope of each item is one of these
abbrev pub are_among : {A : Type 0} → (A → ℕ) → List ℕ → List A → Bool
are_among scope_of scopes items = list_all (λ item. has scopes (scope_of item)) items

-- all these scopes are live
abbrev pub are_live : {K : Types} → State K → List ℕ → Bool
are_live w scopes = list_all (λ scope. is_live w scope) scopes
