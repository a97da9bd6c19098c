-- A walk through one part of a template after another.
use Rattle.std.proofs.Common.{◌≡◌, ℕ, ◌+◌, ◌<◌, ◌≤◌, List, [], ◌∷◌, ◌++◌, length, get_or, drop, map, true, refl, sym, ◌∙◌, ap, rules}
use Rattle.std.proofs.Math.ListN.{drop_of_length-le}
use Rattle.std.proofs.lemmas.List.{length-map}
use Rattle.std.specs.Prelude.{◌&&◌, nat_le, Option, Some, None, if◌then◌else◌, option_and_then}
use Rattle.tree_nodes.specs.Met.{Met, AtElement, met, met_step, met_attr, met_attrs, met_among}
use Rattle.tree_nodes.specs.Names.{distinct, names_in}
use Rattle.tree_nodes.specs.BlockTest.{Sought}
use Rattle.tree_fits.specs.Walk.{walk_step, walked}
use Rattle.tree_fits.proofs.NamesLemmas.{drop-next}
use Rattle.tree_fits.specs.declared.walk.Seen.{Seen}
use Rattle.tree_nodes.specs.declared.template.TemplateAttribute.{TemplateAttribute}
use Rattle.tree_nodes.specs.declared.template.TemplateNode.{TemplateNode}
use Rattle.tree_nodes.specs.declared.template.TemplateNode.TheVariants.{Element}
use Rattle.tree_nodes.specs.declared.template.TemplateNode.{the_lemmas}
use Rattle.tree_nodes.specs.declared.template.TemplateNode.TheOpen.{TemplateNode-F}
use Rattle.tree_fits.specs.Place.{path_of}
use Rattle.tree_fits.specs.declared.place.Place.{Place, the_lemmas as places}
use Rattle.tree_fits.specs.declared.place.Place.TheViews.{Below}
use Rattle.tree_fits.specs.declared.place.Place.TheVariants.{Top}
use Rattle.std.specs.Borrow.{Bor}
use Rattle.std.proofs.lemmas.Bool.{le-leb}
use Rattle.tree_nodes.specs.declared.template.TemplateNode.TheViews.{out-TemplateNode}
use Rattle.tree_nodes.specs.declared.template.TemplateNode.TheFolds.{fold_out-TemplateNode, map-TemplateNode}

-- what is met in a node, level by level
pub met_out : (t : TemplateNode) → met t ≡ met_step (map-TemplateNode TemplateNode (List ℕ → List Met) met (out-TemplateNode t))
met_out = fold_out-TemplateNode (List ℕ → List Met) met_step

-- one part after another
pub walked-append : (s : Sought) (xs ys : List Met) (seen : Seen) → walked s (xs ++ ys) seen ≡ option_and_then (walked s ys) (walked s xs seen)
walked-append s [] ys seen = refl
walked-append s (x ∷ xs) ys seen =
    elim (walk_step s x seen) as (λ (o : Option Seen). option_and_then (walked s (xs ++ ys)) o ≡ option_and_then (walked s ys) (option_and_then (walked s xs) o)) [
      | None ↦ refl
      | Some after ↦ walked-append s xs ys after
    ]

met_among-drop : (nodes : List TemplateNode) (path : List ℕ) (i : ℕ) (x : TemplateNode) → i < length nodes → x ≡ get_or nodes i x
    → met_among (map met (drop i nodes)) path i ≡ met x (path ++ i ∷ []) ++ met_among (map met (drop (i + 1) nodes)) path (i + 1)
met_among-drop nodes path i x within read = ap (λ ns. met_among (map met ns) path i) (drop-next nodes i x within read)

-- the path one level below a place
pub path_of-Below : (parent : Bor Place) (k : ℕ) → path_of (Below parent k) ≡ path_of parent.now ++ k ∷ []
path_of-Below parent k = search (rules, places)

-- one sibling more was walked through
pub among-next : (s : Sought) (nodes : List TemplateNode) (parent : Bor Place) (i : ℕ) (x : TemplateNode) (seen after : Seen) → i < length nodes → x ≡ get_or nodes i x
    → walked s (met x (path_of (Below parent i))) seen ≡ Some after
    → walked s (met_among (map met (drop i nodes)) (path_of parent.now) i) seen ≡ walked s (met_among (map met (drop (i + 1) nodes)) (path_of parent.now) (i + 1)) after
among-next s nodes parent i x seen after within read one =
    ap (λ ms. walked s ms seen) (met_among-drop nodes (path_of parent.now) i x within read) ∙ walked-append s (met x (path_of parent.now ++ i ∷ [])) _ seen ∙
    ap (option_and_then (walked s (met_among (map met (drop (i + 1) nodes)) (path_of parent.now) (i + 1)))) (ap (λ p. walked s (met x p) seen) (sym (path_of-Below parent i)) ∙ one)

-- a sibling that does not fit
pub among-stop : (s : Sought) (nodes : List TemplateNode) (parent : Bor Place) (i : ℕ) (x : TemplateNode) (seen : Seen) → i < length nodes → x ≡ get_or nodes i x
    → walked s (met x (path_of (Below parent i))) seen ≡ None
    → walked s (met_among (map met (drop i nodes)) (path_of parent.now) i) seen ≡ None
among-stop s nodes parent i x seen within read one =
    ap (λ ms. walked s ms seen) (met_among-drop nodes (path_of parent.now) i x within read) ∙ walked-append s (met x (path_of parent.now ++ i ∷ [])) _ seen ∙
    ap (option_and_then (walked s (met_among (map met (drop (i + 1) nodes)) (path_of parent.now) (i + 1)))) (ap (λ p. walked s (met x p) seen) (sym (path_of-Below parent i)) ∙ one)

-- one attribute more was walked through
pub attrs-next : (s : Sought) (attrs : List TemplateAttribute) (path : List ℕ) (i : ℕ) (x : TemplateAttribute) (seen after : Seen) → i < length attrs → x ≡ get_or attrs i x
    → walked s (met_attr path x) seen ≡ Some after
    → walked s (met_attrs path (drop i attrs)) seen ≡ walked s (met_attrs path (drop (i + 1) attrs)) after
attrs-next s attrs path i x seen after within read one =
    ap (λ xs. walked s (met_attrs path xs) seen) (drop-next attrs i x within read) ∙ walked-append s (met_attr path x) _ seen ∙
    ap (option_and_then (walked s (met_attrs path (drop (i + 1) attrs)))) one

-- an attribute that does not fit
pub attrs-stop : (s : Sought) (attrs : List TemplateAttribute) (path : List ℕ) (i : ℕ) (x : TemplateAttribute) (seen : Seen) → i < length attrs → x ≡ get_or attrs i x
    → walked s (met_attr path x) seen ≡ None
    → walked s (met_attrs path (drop i attrs)) seen ≡ None
attrs-stop s attrs path i x seen within read one =
    ap (λ xs. walked s (met_attrs path xs) seen) (drop-next attrs i x within read) ∙ walked-append s (met_attr path x) _ seen ∙
    ap (option_and_then (walked s (met_attrs path (drop (i + 1) attrs)))) one

-- all attributes were walked through
pub attrs-end : (s : Sought) (attrs : List TemplateAttribute) (path : List ℕ) (i : ℕ) (seen : Seen) → length attrs ≤ i
    → Some seen ≡ walked s (met_attrs path (drop i attrs)) seen
attrs-end s attrs path i seen end = ap (λ xs. walked s (met_attrs path xs) seen) (sym (drop_of_length-le attrs end))

-- what is met in an element
pub met-element : (tag : List ℕ) (namespace : Option (List ℕ)) (attrs : List TemplateAttribute) (children : List TemplateNode) (path : List ℕ)
    → met (Element tag namespace attrs children) path ≡ AtElement path attrs (length children) ∷ (met_attrs path attrs ++ met_among (map met children) path 0)
met-element tag namespace attrs children path =
    let one : met (Element tag namespace attrs children) ≡ met_step (TemplateNode-F.Element tag namespace attrs (map met children)) = search (rules, the_lemmas) in
    let step : met (Element tag namespace attrs children) path ≡ met_step (TemplateNode-F.Element tag namespace attrs (map met children)) path = ap (λ (f : List ℕ → List Met). f path) one in
    step ∙ ap (λ n. AtElement path attrs n ∷ (met_attrs path attrs ++ met_among (map met children) path 0)) (length-map children met)

-- an element that fits by itself, with its attributes and children
pub walked-element : (s : Sought) (tag : List ℕ) (namespace : Option (List ℕ)) (attrs : List TemplateAttribute) (children : List TemplateNode) (path : List ℕ) (seen : Seen)
    → length path ≤ s.levels → length children ≤ 256 → distinct (names_in s.names attrs) ≡ true
    → walked s (met (Element tag namespace attrs children) path) seen ≡
    option_and_then (walked s (met_among (map met children) path 0)) (walked s (met_attrs path attrs) seen)
walked-element s tag namespace attrs children path seen level few apart =
    ap (λ ms. walked s ms seen) (met-element tag namespace attrs children path) ∙
    ap (λ b. option_and_then (walked s (met_attrs path attrs ++ met_among (map met children) path 0)) (if b && (nat_le (length children) 256 && distinct (names_in s.names attrs)) then Some seen else None)) (le-leb (length path) s.levels level) ∙
    ap (λ b. option_and_then (walked s (met_attrs path attrs ++ met_among (map met children) path 0)) (if b && distinct (names_in s.names attrs) then Some seen else None)) (le-leb (length children) 256 few) ∙
    ap (λ b. option_and_then (walked s (met_attrs path attrs ++ met_among (map met children) path 0)) (if b then Some seen else None)) apart ∙
    walked-append s (met_attrs path attrs) (met_among (map met children) path 0) seen

-- the path to the place above all roots
pub path_of-Top : path_of Top ≡ []
path_of-Top = search (rules, places)
