-- Where a walk stands, step by step.
use Rattle.std.proofs.Common.{ℕ, ◌+◌, List, [], ◌∷◌, ◌++◌, ◌≡◌, refl, sym, ap, ◌∙◌, rules}
use Rattle.std.specs.Borrow.{Bor}
use Rattle.tree_nodes.specs.declared.template.TemplateParts.{TemplateParts as Template}
use Rattle.rt_model.specs.Tree.{item}
use Rattle.tree_mirror.specs.Sealed.{template_of}
use Rattle.run_places.specs.declared.place.Step.{Step}
use Rattle.run_places.specs.declared.place.Step.TheVariants as steps
use Rattle.run_places.specs.declared.trail.Path.{Path, the_lemmas as path_lemmas}
use Rattle.run_places.specs.declared.trail.Path.TheViews.{Below}
use Rattle.run_places.specs.declared.trail.Path.TheVariants.{Top, Whole}
use Rattle.run_places.specs.declared.trail.Trail.{Trail, the_lemmas as trail_lemmas}
use Rattle.run_places.specs.declared.trail.Trail.TheViews.{Inside, Item}
use Rattle.run_places.specs.declared.trail.Trail.TheVariants.{At, Root}
use Rattle.run_places.specs.Places.{at_path, place_of}
use Rattle.run_places.specs.PlaceKeys.{led, path_key, step_key, steps_key}
use Rattle.run_places.specs.Trails.{item_from, path_of, place_on, steps_of}
use Rattle.run_places.proofs.Stands.{places-append}

pub path_Top : path_of Top ≡ []
path_Top = search (rules, path_lemmas)

pub path_Below : (up : Bor Path) (i : ℕ) → path_of (Below up i) ≡ path_of up.now ++ i ∷ []
path_Below up i = search (rules, path_lemmas)

pub path_Whole : (path : Bor (List ℕ)) → path_of (Whole path) ≡ path.now
path_Whole path = search (rules, path_lemmas)

pub steps_Root : steps_of Root ≡ []
steps_Root = search (rules, trail_lemmas)

pub steps_Inside : (above : Bor Trail) (template : Bor Template) (path : Bor Path) → steps_of (Inside above template path) ≡ steps_of above.now ++ steps.Inside template.now (path_of path.now) ∷ []
steps_Inside above template path = search (rules, trail_lemmas)

pub steps_Item : (above : Bor Trail) (position : ℕ) → steps_of (Item above position) ≡ steps_of above.now ++ steps.Item position ∷ []
steps_Item above position = search (rules, trail_lemmas)

pub steps_At : (whole : Bor (List Step)) → steps_of (At whole) ≡ whole.now
steps_At whole = search (rules, trail_lemmas)

pub on_Root : place_on Root ≡ []
on_Root = ap place_of steps_Root

pub on_Inside : (above : Bor Trail) (template : Bor Template) (path : Bor Path) → place_on (Inside above template path) ≡ at_path (template_of template.now) (place_on above.now) (path_of path.now)
on_Inside above template path = ap place_of (steps_Inside above template path) ∙ places-append (steps_of above.now) (steps.Inside template.now (path_of path.now) ∷ [])

pub on_Item : (above : Bor Trail) (position : ℕ) → place_on (Item above position) ≡ place_on above.now ++ item position ∷ []
on_Item above position = ap place_of (steps_Item above position) ∙ places-append (steps_of above.now) (steps.Item position ∷ [])

pub on_At : (whole : Bor (List Step)) → place_on (At whole) ≡ place_of whole.now
on_At whole = ap place_of (steps_At whole)

-- lists that end in one thing have one front, and one last thing
pub some_last : {A : Type 0} (xs : List A) (x : A) → xs ++ x ∷ [] ≡ [] → ⊥
some_last [] x h = let absurdity : ⊥ = cc h in absurdity
some_last (y ∷ ys) x h = let absurdity : ⊥ = cc h in absurdity

pub same_last : {A : Type 0} (xs ys : List A) (x y : A) → xs ++ x ∷ [] ≡ ys ++ y ∷ [] → (xs ≡ ys) × (x ≡ y)
same_last [] [] x y h = (refl, cc h)
same_last [] (b ∷ ys) x y h = absurd (some_last ys y (sym (cc h)))
same_last (a ∷ xs) [] x y h = absurd (some_last xs x (cc h))
same_last (a ∷ xs) (b ∷ ys) x y h =
    let first : a ≡ b = cc h in
    let rest : (xs ≡ ys) × (x ≡ y) = same_last xs ys x y (cc h) in
    ((λ i. first i ∷ rest.0 i), rest.1)

-- keys of longer paths and places
pub path_key-last : (path : List ℕ) (i rest : ℕ) → path_key (path ++ i ∷ []) rest ≡ path_key path (led i rest)
path_key-last [] i rest = refl
path_key-last (j ∷ path) i rest = ap (λ n. led j n) (path_key-last path i rest)

pub steps_key-last : (front : List Step) (x : Step) (rest : ℕ) → steps_key (front ++ x ∷ []) rest ≡ steps_key front (step_key x rest)
steps_key-last [] x rest = refl
steps_key-last (y ∷ front) x rest = ap (λ n. step_key y n) (steps_key-last front x rest)

-- the last step of a place says in which item it is, or the steps before it do
pub item-Inside : (n : ℕ) (front : List Step) (template : Template) (path : List ℕ) → item_from n (front ++ steps.Inside template path ∷ []) ≡ item_from n front
item-Inside n [] template path = refl
item-Inside n (steps.Inside t q ∷ front) template path = item-Inside n front template path
item-Inside n (steps.Item i ∷ front) template path = item-Inside i front template path

pub item-Item : (n : ℕ) (front : List Step) (position : ℕ) → item_from n (front ++ steps.Item position ∷ []) ≡ position
item-Item n [] position = refl
item-Item n (steps.Inside t q ∷ front) position = item-Item n front position
item-Item n (steps.Item i ∷ front) position = item-Item i front position

pub ruleset trails = (item-Inside, item-Item, path_Top, path_Below, path_Whole, steps_Root, steps_Inside, steps_Item, steps_At, path_key-last, steps_key-last)

pub ruleset standing = (on_Root, on_Inside, on_Item, on_At, path_Top, path_Below, path_Whole)
