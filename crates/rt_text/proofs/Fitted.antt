-- Lines of a given number.
use Rattle.std.proofs.Common.{◌≡◌, ℕ, zero, suc, ◌<◌, List, [], ◌∷◌, ◌++◌, length, take, refl, ap, arith}
use Rattle.rt_model.specs.Lists.{Text}
use Rattle.rt_text.specs.Layout.{fitted}

-- just so many are left as they are
pub fitted-full : (n : ℕ) (rows : List Text) → length rows ≡ n → fitted n rows ≡ rows
fitted-full zero [] h = refl
fitted-full zero (row ∷ rows) h = cc
fitted-full (suc n) [] h = cc
fitted-full (suc n) (row ∷ rows) h = let short : length rows ≡ n = omega (arith, h) in ap (λ later. row ∷ later) (fitted-full n rows short)

-- an empty one behind too few changes nothing
pub fitted-more : (n : ℕ) (rows : List Text) → length rows < n → fitted n (rows ++ [] ∷ []) ≡ fitted n rows
fitted-more zero rows h = absurd (omega (arith, h))
fitted-more (suc n) [] h = refl
fitted-more (suc n) (row ∷ rows) h = let short : length rows < n = omega (arith, h) in ap (λ later. row ∷ later) (fitted-more n rows short)

-- the first ones alone count
pub fitted-take : (n : ℕ) (lines : List Text) → fitted n (take n lines) ≡ fitted n lines
fitted-take zero lines = refl
fitted-take (suc n) [] = refl
fitted-take (suc n) (line ∷ lines) = ap (λ later. line ∷ later) (fitted-take n lines)

-- there are just so many
pub length-fitted : (n : ℕ) (lines : List Text) → length (fitted n lines) ≡ n
length-fitted zero lines = refl
length-fitted (suc n) [] = ap suc (length-fitted n [])
length-fitted (suc n) (line ∷ lines) = ap suc (length-fitted n lines)

pub ruleset rows_fit = (fitted-take, length-fitted)
