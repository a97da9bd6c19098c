-- What a scope provides, by kind.
use Rattle.std.specs.Prelude.{ℕ, suc, nat_eq, List, [], ◌∷◌, Option, Some, None, option_map, if◌then◌else◌}
use Rattle.run_records.specs.declared.rows.Provided.{Provided}

module _ {P C Q V H T E L : Type 0} where
  -- the index of the first value of a kind
  abbrev pub kind_place : List (Provided P C Q V H T E L) → ℕ → Option ℕ
  kind_place [] kind = None
  kind_place (p ∷ ps) kind = if nat_eq p.kind kind then Some 0 else option_map (λ n. suc n) (kind_place ps kind)

  -- a value in the place of the first one of its kind, or at the end
  abbrev pub put_provided : List (Provided P C Q V H T E L) → ℕ → V → List (Provided P C Q V H T E L)
  put_provided [] kind value = record { kind = kind; value = value } ∷ []
  put_provided (p ∷ ps) kind value = if nat_eq p.kind kind then record { kind = kind; value = value } ∷ ps
      else p ∷ put_provided ps kind value
