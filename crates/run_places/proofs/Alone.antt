-- One thing alone: no key is wanted for it.
use Rattle.std.proofs.Common.{ℕ, zero, suc, ◌≤◌, true, false, List, [], ◌∷◌, ◌≡◌, length, refl, arith}
use Rattle.std.specs.Prelude.{slice_get, Some, None, if◌then◌else◌}
use Rattle.rt_model.specs.Tree as model
use Rattle.run_places.specs.declared.nodes.NodeAt.{NodeAt}
use Rattle.run_places.specs.declared.place.Step.{Step}
use Rattle.run_places.specs.Apart.{Apart}
use Rattle.run_places.specs.Indexed.{is_node_at, is_seat_at, node_index, seat_index}

-- it stands apart from all others
pub alone_apart : {A : Type 0} (xs : List A) → length xs ≤ 1 → Apart xs
alone_apart [] few i j x here there = cc here
alone_apart (y ∷ []) few zero zero x here there = refl
alone_apart (y ∷ []) few zero (suc j) x here there = cc there
alone_apart (y ∷ []) few (suc i) j x here there = cc here
alone_apart (y ∷ z ∷ xs) few i j x here there = absurd (omega (arith, few))

-- it is found where it stands at the place
pub alone_seat : (xs : List (List Step)) (p : model.Place) → length xs ≤ 1 → (if is_seat_at xs p 0 then Some 0 else None) ≡ seat_index xs p
alone_seat [] p few = refl
alone_seat (x ∷ []) p few = refl
alone_seat (x ∷ y ∷ xs) p few = absurd (omega (arith, few))

pub alone_node : (xs : List NodeAt) (p : model.Place) (k : model.Kind) → length xs ≤ 1 → (if is_node_at xs p k 0 then Some 0 else None) ≡ node_index xs p k
alone_node [] p k few = refl
alone_node (x ∷ []) p k few = refl
alone_node (x ∷ y ∷ xs) p k few = absurd (omega (arith, few))
