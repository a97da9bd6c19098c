-- What a list comes to, with one more item and with none.
use Rattle.std.proofs.Common.{List, [], ◌∷◌, ◌++◌, ◌≡◌, refl}
use Rattle.run_records.specs.Records.{gathered}

-- one more item is put on last
pub gathered-more : {X A : Type 0} (step : X → A → A) (xs : List X) (x : X) (a : A) → gathered step (xs ++ x ∷ []) a ≡ step x (gathered step xs a)
unfolding gathered
gathered-more step [] x a = refl
gathered-more step (y ∷ ys) x a = gathered-more step ys x (step y a)

-- nothing is put on
pub gathered-none : {X A : Type 0} (step : X → A → A) (a : A) → gathered step [] a ≡ a
unfolding gathered
gathered-none step a = refl
