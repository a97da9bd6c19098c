-- A list that ends in one thing: keys of paths and places, and the item in which a place is.
use Rattle.std.proofs.Common.{ℕ, ◌+◌, ◌-◌, ◌<◌, ◌≤◌, List, [], ◌∷◌, ◌++◌, ◌≡◌, length, get_or, take, sym, ap, ◌∙◌, arith}
use Rattle.tree_nodes.specs.declared.template.TemplateParts.{TemplateParts as Template}
use Rattle.run_places.specs.declared.place.Step.{Step}
use Rattle.run_places.specs.declared.place.Step.TheVariants as steps
use Rattle.run_places.specs.PlaceKeys.{led, path_key, step_key, steps_key}
use Rattle.run_places.specs.Trails.{item_from}
use Rattle.run_places.proofs.Keyed.{index_is, take_more, take_whole}
use Rattle.run_places.proofs.Trails.{item-Inside, item-Item, path_key-last, steps_key-last}

-- all but the last, and the last
split_last : {A : Type 0} (xs : List A) (x d : A) → 1 ≤ length xs → x ≡ get_or xs (length xs - 1) d → take (length xs - 1) xs ++ x ∷ [] ≡ xs
split_last xs x d some is =
    let low : length xs - 1 < length xs = omega (arith, some) in
    sym (take_more xs (length xs - 1) x low (is ∙ index_is xs (length xs - 1) d x low))
    ∙ take_whole xs (length xs - 1 + 1) (let e : length xs ≤ length xs - 1 + 1 = omega (arith, some) in e)

pub path_front : (path : List ℕ) (x d rest : ℕ) → 1 ≤ length path → x ≡ get_or path (length path - 1) d
    → path_key (take (length path - 1) path) (led x rest) ≡ path_key path rest
path_front path x d rest some is =
    sym (path_key-last (take (length path - 1) path) x rest) ∙ ap (λ p. path_key p rest) (split_last path x d some is)

pub steps_front : (place : List Step) (x d : Step) (rest : ℕ) → 1 ≤ length place → x ≡ get_or place (length place - 1) d
    → steps_key (take (length place - 1) place) (step_key x rest) ≡ steps_key place rest
steps_front place x d rest some is =
    sym (steps_key-last (take (length place - 1) place) x rest) ∙ ap (λ p. steps_key p rest) (split_last place x d some is)

pub inside_front : (place : List Step) (x d : Step) (template : Template) (path : List ℕ) → 1 ≤ length place → x ≡ get_or place (length place - 1) d
    → x ≡ steps.Inside template path → item_from 0 (take (length place - 1) place) ≡ item_from 0 place
inside_front place x d template path some is inside =
    sym (item-Inside 0 (take (length place - 1) place) template path)
    ∙ ap (λ y. item_from 0 (take (length place - 1) place ++ y ∷ [])) (sym inside)
    ∙ ap (λ p. item_from 0 p) (split_last place x d some is)

pub item_front : (place : List Step) (x d : Step) (position : ℕ) → 1 ≤ length place → x ≡ get_or place (length place - 1) d
    → x ≡ steps.Item position → position ≡ item_from 0 place
item_front place x d position some is item =
    sym (item-Item 0 (take (length place - 1) place) position)
    ∙ ap (λ y. item_from 0 (take (length place - 1) place ++ y ∷ [])) (sym item)
    ∙ ap (λ p. item_from 0 p) (split_last place x d some is)
