-- The mirror loses nothing of a place, so a test that decides whether places are equal is that of the definitions.
use Rattle.std.proofs.Common.{Bool, true, false, List, [], ◌∷◌, ◌≡◌, refl, sym, ap, ◌∙◌, map}
use Rattle.rt_model.specs.Tree as model
use Rattle.rt_model.specs.Tree.{inside, item, same_place}
use Rattle.rt_model.proofs.SamePlaces.{same_place-true}
use Rattle.rt_model.proofs.Among.{place_same}
use Rattle.tree_mirror.proofs.SealedNodes.{template_back, template-back}
use Rattle.run_places.specs.declared.place.Step.{Step}
use Rattle.run_places.specs.declared.place.Step.TheVariants as steps
use Rattle.run_places.specs.Places.{step_of, place_of}

abbrev step_back : model.Step → Step
step_back (inside u path) = steps.Inside (template_back u) path
step_back (item position) = steps.Item position

step-back : (x : Step) → step_back (step_of x) ≡ x
step-back (steps.Inside u path) = ap (λ w. steps.Inside w path) (template-back u)
step-back (steps.Item position) = refl

place-back : (place : List Step) → map step_back (place_of place) ≡ place
place-back [] = refl
place-back (x ∷ xs) = (λ k. step-back x k ∷ place-back xs k)

-- places that are one at the mirror are one
pub place-apart : (p q : List Step) → place_of p ≡ place_of q → p ≡ q
place-apart p q h = sym (place-back p) ∙ ap (map step_back) h ∙ place-back q

pub place-tested : (b : Bool) (p q : List Step) → (b ≡ true → p ≡ q) → (p ≡ q → b ≡ true) → b ≡ same_place (place_of p) (place_of q)
place-tested true p q sound whole = sym (place_same (place_of p)) ∙ ap (λ r. same_place (place_of p) (place_of r)) (sound refl)
place-tested false p q sound whole = by (same_place (place_of p) (place_of q)) refl
  where
    by : (c : Bool) → c ≡ same_place (place_of p) (place_of q) → false ≡ c
    by false is = refl
    by true is = whole (place-apart p q (same_place-true (place_of p) (place_of q) (sym is)))
