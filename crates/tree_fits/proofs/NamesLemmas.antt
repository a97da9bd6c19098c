-- Names of one attribute after another.
use Rattle.std.proofs.Common.{◌≡◌, ℕ, ◌+◌, ◌<◌, List, [], ◌∷◌, ◌++◌, length, get_or, drop, true, false, refl, ◌∙◌, ap}
use Rattle.std.specs.Prelude.{Bool, ◌&&◌, not}
use Rattle.std.specs.List.{list_any}
use Rattle.std.proofs.lemmas.List.Folds.{list_any-append}
pub use Rattle.rt_lemmas.proofs.Lists.{next_drop as drop-next}
use Rattle.tree_nodes.specs.Names.{Name, same_name, distinct, fresh, names_of, names_in}
use Rattle.tree_nodes.specs.declared.template.TemplateAttribute.{TemplateAttribute}

and_assoc : (a b c : Bool) → (a && (b && c)) ≡ ((a && b) && c)
and_assoc true b c = refl
and_assoc false b c = refl

-- the names of two lists differ where those of the first are fresh and those of the second differ
pub distinct-append : (xs ys : List Name) → distinct (xs ++ ys) ≡ (fresh xs ys && distinct ys)
distinct-append [] ys = refl
distinct-append (x ∷ xs) ys =
    ap (λ b. not (list_any (same_name x) (xs ++ ys)) && b) (distinct-append xs ys) ∙
    and_assoc (not (list_any (same_name x) (xs ++ ys))) (fresh xs ys) (distinct ys)

-- the names of the attributes from the k-th on
pub names_in-drop : (slots : List (List Name)) (attrs : List TemplateAttribute) (k : ℕ) (x : TemplateAttribute) → k < length attrs → x ≡ get_or attrs k x
    → names_in slots (drop k attrs) ≡ names_of slots x ++ names_in slots (drop (k + 1) attrs)
names_in-drop slots attrs k x within read =
    ap (names_in slots) (drop-next attrs k x within read)

-- the names from the k-th attribute on differ where its own are fresh and those after it differ
pub distinct-drop : (slots : List (List Name)) (attrs : List TemplateAttribute) (k : ℕ) (x : TemplateAttribute) → k < length attrs → x ≡ get_or attrs k x
    → distinct (names_in slots (drop k attrs)) ≡ (fresh (names_of slots x) (names_in slots (drop (k + 1) attrs)) && distinct (names_in slots (drop (k + 1) attrs)))
distinct-drop slots attrs k x within read =
    ap distinct (names_in-drop slots attrs k x within read) ∙ distinct-append (names_of slots x) (names_in slots (drop (k + 1) attrs))

-- a name that is not fresh
pub distinct-stop : (slots : List (List Name)) (attrs : List TemplateAttribute) (k : ℕ) (x : TemplateAttribute) → k < length attrs → x ≡ get_or attrs k x
    → fresh (names_of slots x) (names_in slots (drop (k + 1) attrs)) ≡ false → distinct (names_in slots (drop k attrs)) ≡ false
distinct-stop slots attrs k x within read stale =
    distinct-drop slots attrs k x within read ∙ ap (λ b. b && distinct (names_in slots (drop (k + 1) attrs))) stale

-- a name that is fresh
pub distinct-next : (slots : List (List Name)) (attrs : List TemplateAttribute) (k : ℕ) (x : TemplateAttribute) → k < length attrs → x ≡ get_or attrs k x
    → fresh (names_of slots x) (names_in slots (drop (k + 1) attrs)) ≡ true → distinct (names_in slots (drop k attrs)) ≡ distinct (names_in slots (drop (k + 1) attrs))
distinct-next slots attrs k x within read new =
    distinct-drop slots attrs k x within read ∙ ap (λ b. b && distinct (names_in slots (drop (k + 1) attrs))) new

pub ruleset name_lists = (distinct-append, names_in-drop, list_any-append)
