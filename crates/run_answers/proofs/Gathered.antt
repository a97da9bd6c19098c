-- The numbers of scopes, gathered one after another.
use Rattle.std.proofs.Common.{◌≡◌, ℕ, List, [], ◌∷◌, ◌++◌, ap, sym, ◌∙◌, drop, get_or, length, map, ◌<◌, ◌≤◌, ◌+◌, append_assoc, append-nil}
use Rattle.std.proofs.lemmas.List.{drop_more, map-append}
use Rattle.rt_values.specs.declared.names.ScopeId.{ScopeId}
use Rattle.rt_model.specs.Removal.{numbers_of}
use Rattle.run_records.specs.declared.rest.Scope.{Scope}
use Rattle.run_state.specs.Mirror.{scopes_of}
use Rattle.run_state.proofs.Each.{drop-all}

-- the numbers that scopes are named by
abbrev pub named : List ScopeId → List ℕ
named scopes = map (λ (scope : ScopeId). scope.0) scopes

module _ {P C Q V H T E L : Type 0} where
  -- the numbers of rows
  abbrev pub numbers_in : List (ℕ × Scope P C Q V H T E L) → List ℕ
  numbers_in rows = numbers_of (scopes_of rows)

  -- one more was gathered
  pub one_more : (rows : List (ℕ × Scope P C Q V H T E L)) (i : ℕ) (row : ℕ × Scope P C Q V H T E L) (scope : ScopeId) (old new : List ScopeId)
      → i < length rows
      → row ≡ get_or rows i row
      → scope.0 ≡ row.0
      → new ≡ old ++ scope ∷ []
      → named old ++ numbers_in (drop i rows) ≡ numbers_in rows
      → named new ++ numbers_in (drop (i + 1) rows) ≡ numbers_in rows
  one_more rows i row scope old new within is number made before =
      ap (λ (scopes : List ScopeId). named scopes ++ numbers_in (drop (i + 1) rows)) made
      ∙ ap (λ (ns : List ℕ). ns ++ numbers_in (drop (i + 1) rows)) (map-append (λ (s : ScopeId). s.0) old (scope ∷ []))
      ∙ append_assoc (named old) (scope.0 ∷ []) (numbers_in (drop (i + 1) rows))
      ∙ ap (λ (n : ℕ). named old ++ n ∷ numbers_in (drop (i + 1) rows)) number
      ∙ ap (λ (r : ℕ × Scope P C Q V H T E L). named old ++ r.0 ∷ numbers_in (drop (i + 1) rows)) is
      ∙ ap (λ (rs : List (ℕ × Scope P C Q V H T E L)). named old ++ numbers_in rs) (sym (drop_more rows i row within))
      ∙ before

  -- all were
  pub all_gathered : (rows : List (ℕ × Scope P C Q V H T E L)) (i : ℕ) (scopes : List ScopeId)
      → length rows ≤ i
      → named scopes ++ numbers_in (drop i rows) ≡ numbers_in rows
      → named scopes ≡ numbers_in rows
  all_gathered rows i scopes end is =
      sym (append-nil (named scopes))
      ∙ ap (λ (rs : List (ℕ × Scope P C Q V H T E L)). named scopes ++ numbers_in rs) (sym (drop-all rows i end))
      ∙ is
