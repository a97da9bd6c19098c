-- A pair that was put in and taken out again leaves the pairs as they were.
use Rattle.std.proofs.Common.{◌≡◌, ℕ, List, Bool, true, false, cond, None, refl, sym, ap, ◌∙◌}
use Rattle.std.specs.Cmp.{Equal-is}
use Rattle.std.specs.List.{list_any}
use Rattle.std.specs.BTreeMap.{is_at}
use Rattle.rt_values.specs.declared.names.ScopeId.{ScopeId}
use Rattle.rt_cells.specs.declared.numbered.Held.{Held}
use Rattle.rt_cells.specs.Held.{held_at, owner_cmp}
use Rattle.rt_cells.specs.Index.{was_made_for, IsIndexed}
use Rattle.rt_cells.proofs.Exact.{owner_exact}

put_back : (tie a b c : Bool) → b ≡ cond tie true a → c ≡ cond tie false b → (tie ≡ true → a ≡ false) → c ≡ a
put_back true a b c put out was = out ∙ sym (was refl)
put_back false a b c put out was = out ∙ put

module _ {X : Type 0} {held : List (ℕ × Held X)} {owners : List (ScopeId × ℕ)} {next : ℕ} (ok : IsIndexed held owners next) where
  -- the pair of a number under which nothing is kept isn't there
  pub not_tied : (pair owned : ScopeId × ℕ) → held_at pair.1 held ≡ None → is_at (owner_cmp pair) owned ≡ true → list_any (is_at (owner_cmp owned)) owners ≡ false
  not_tied pair owned none tie =
      let same : pair ≡ owned = owner_exact pair owned ((Equal-is (owner_cmp pair owned)).0 tie) in
      ap (λ p. list_any (is_at (owner_cmp p)) owners) (sym same) ∙ ok.tied pair ∙ ap (was_made_for pair.0) none

  pub taken_back : (pair : ScopeId × ℕ) (with_pair without_pair : List (ScopeId × ℕ))
      → ((owned : ScopeId × ℕ) → list_any (is_at (owner_cmp owned)) with_pair ≡ cond (is_at (owner_cmp pair) owned) true (list_any (is_at (owner_cmp owned)) owners))
      → ((owned : ScopeId × ℕ) → list_any (is_at (owner_cmp owned)) without_pair ≡ cond (is_at (owner_cmp pair) owned) false (list_any (is_at (owner_cmp owned)) with_pair))
      → held_at pair.1 held ≡ None → IsIndexed held without_pair next
  taken_back pair with_pair without_pair put out none = record {
    tied = λ owned. put_back (is_at (owner_cmp pair) owned) _ _ _ (put owned) (out owned) (not_tied pair owned none) ∙ ok.tied owned;
    ascending = ok.ascending;
    below = ok.below;
  }
