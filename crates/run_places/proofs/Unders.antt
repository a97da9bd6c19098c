-- One index more.
use Rattle.std.proofs.Common.{ℕ, suc, ◌+◌, ◌-◌, ◌<◌, ◌≤◌, List, [], ◌∷◌, ◌++◌, ◌≡◌, sym, ap, ◌∙◌, arith, append_assoc, append-nil}
use Rattle.std.specs.Prelude.{Option}
use Rattle.rt_model.specs.Lists.{at}
use Rattle.run_places.specs.Drawn.{under}

module _ (pairs : List (ℕ × ℕ)) (i count : ℕ) (so_far more : List (Option ℕ)) where
  pub under_more : i < count → more ≡ so_far ++ at pairs i ∷ [] → so_far ++ under pairs i (count - i) ≡ under pairs 0 count
      → more ++ under pairs (i + 1) (count - (i + 1)) ≡ under pairs 0 count
  under_more low is before =
      let one : count - i ≡ suc (count - (i + 1)) = omega (arith, low) in
      ap (λ xs. xs ++ under pairs (i + 1) (count - (i + 1))) is
      ∙ append_assoc so_far (at pairs i ∷ []) (under pairs (i + 1) (count - (i + 1)))
      ∙ ap (λ n. so_far ++ under pairs i n) (sym one)
      ∙ before

  pub under_all : count ≤ i → so_far ++ under pairs i (count - i) ≡ under pairs 0 count → so_far ≡ under pairs 0 count
  under_all end before =
      let none : count - i ≡ 0 = omega (arith, end) in
      sym (append-nil so_far) ∙ ap (λ n. so_far ++ under pairs i n) (sym none) ∙ before
