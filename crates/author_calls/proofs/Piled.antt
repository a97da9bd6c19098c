-- What commands make and provide, one after another.
use Rattle.std.proofs.Common.{ℕ, List, [], ◌∷◌, ◌++◌, ◌≡◌, ◌+◌, ◌<◌, length, take, get_or, refl, sym, ap, ◌∙◌}
use Rattle.std.proofs.lemmas.List.{take_more}
use Rattle.std.specs.Borrow.{Bor}
use Rattle.std.specs.Option.{option_copied, option_or}
use Rattle.std.specs.Prelude.{Option, Some, None}
use Rattle.run_records.specs.Records.{gathered}
use Rattle.rt_model.specs.Lists.{first_of}
use Rattle.run_records.proofs.Gathered.{gathered-more, gathered-none}

-- one more item of a list
pub pile-step : {X Y : Type 0} (step : X → List Y → List Y) (xs : List X) (i : ℕ) (x : X) → i < length xs → x ≡ get_or xs i x
    → gathered step (take (i + 1) xs) [] ≡ step x (gathered step (take i xs) [])
pile-step step xs i x within is =
    ap (λ t. gathered step t []) (take_more xs i x within ∙ ap (λ y. take i xs ++ y ∷ []) (sym is)) ∙ gathered-more step (take i xs) x []

-- the first of two that is there, copied
pub copied-or : {X : Type 0} (a b : Option (Bor X)) → option_copied (option_or a b) ≡ first_of (option_copied a) (option_copied b)
copied-or None b = refl
copied-or (Some x) b = refl

-- one more, and none
pub ruleset making = (gathered-more, gathered-none, pile-step)
