-- Rows of a template, one node after another.
use Rattle.std.proofs.Common.{◌≡◌, ℕ, ◌+◌, ◌<◌, ◌≤◌, suc, List, [], ◌∷◌, ◌++◌, length, get_or, drop, map, refl, sym, ◌∙◌, ap, rules}
use Rattle.std.proofs.Math.ListN.{drop_of_length-le}
use Rattle.rt_lemmas.proofs.Lists.{append_nil as nil}
use Rattle.tree_fits.proofs.NamesLemmas.{drop-next}
use Rattle.tree_nodes.specs.declared.template.TemplateAttribute.{TemplateAttribute}
use Rattle.tree_nodes.specs.declared.template.TemplateNode.{TemplateNode}
use Rattle.tree_nodes.specs.declared.template.TemplateNode.TheVariants as nodes
use Rattle.author_pieces.specs.declared.numbering.Paths.{Paths}
use Rattle.author_pieces.specs.declared.shapes.Shape.{Shape, the_lemmas}
use Rattle.author_pieces.specs.declared.shapes.Shape.TheOpen.{Shape-F}
use Rattle.author_pieces.specs.declared.shapes.Shape.TheVariants as shapes
use Rattle.author_pieces.specs.declared.shapes.ShapeAttribute.{ShapeAttribute}
use Rattle.author_pieces.specs.Numbering.{Maker, after, among, attr_at, attrs_at, below, element_of, finished, made_step, numbered, template_of}

-- what is made already, before the rest
abbrev pub joined : {T : Type 0} → List T → List T × Paths → List T × Paths
joined made rest = (made ++ rest.0, rest.1)

snoc : {T : Type 0} (xs : List T) (x : T) (ys : List T) → (xs ++ x ∷ []) ++ ys ≡ xs ++ x ∷ ys
snoc [] x ys = refl
snoc (y ∷ xs) x ys = ap (λ zs. y ∷ zs) (snoc xs x ys)

-- one more is made
one-more : {T : Type 0} (row more : List T) (x : T) (p : Paths) (made : T × Paths) (rest : Paths → List T × Paths)
    → (x, p) ≡ made → more ≡ row ++ x ∷ [] → joined more (rest p) ≡ joined row (after made rest)
one-more row more x p made rest is grown =
    ap (λ xs. joined xs (rest p)) grown ∙ (ap (λ xs. (xs, (rest p).1)) (snoc row x (rest p).0) ∙ ap (λ m. joined row (after m rest)) is)

-- a row has one node more
pub row-next : (xs : List Shape) (above : List ℕ) (i : ℕ) (x : Shape) (p q : Paths) (node : TemplateNode) (row more : List TemplateNode)
    → i < length xs → x ≡ get_or xs i x → (node, q) ≡ numbered x (below above i) p → more ≡ row ++ node ∷ []
    → joined more (among (map numbered (drop (i + 1) xs)) above (i + 1) q) ≡ joined row (among (map numbered (drop i xs)) above i p)
row-next xs above i x p q node row more within read is grown =
    one-more row more node q (numbered x (below above i) p) (among (map numbered (drop (i + 1) xs)) above (i + 1)) is grown
    ∙ sym (ap (λ ys. joined row (among (map numbered ys) above i p)) (drop-next xs i x within read))

-- a row is at its end
pub row-end : (xs : List Shape) (above : List ℕ) (i : ℕ) (p : Paths) (row : List TemplateNode) → length xs ≤ i
    → (row, p) ≡ joined row (among (map numbered (drop i xs)) above i p)
row-end xs above i p row past =
    ap (λ ys. (ys, p)) (sym (nil row)) ∙ sym (ap (λ ys. joined row (among (map numbered ys) above i p)) (drop_of_length-le xs past))

-- an element has one attribute more
pub attrs-next : (xs : List ShapeAttribute) (path : List ℕ) (i : ℕ) (x : ShapeAttribute) (p q : Paths) (attr : TemplateAttribute) (row more : List TemplateAttribute)
    → i < length xs → x ≡ get_or xs i x → (attr, q) ≡ attr_at path x p → more ≡ row ++ attr ∷ []
    → joined more (attrs_at path (drop (i + 1) xs) q) ≡ joined row (attrs_at path (drop i xs) p)
attrs-next xs path i x p q attr row more within read is grown =
    one-more row more attr q (attr_at path x p) (attrs_at path (drop (i + 1) xs)) is grown
    ∙ sym (ap (λ ys. joined row (attrs_at path ys p)) (drop-next xs i x within read))

-- the attributes are at their end
pub attrs-end : (xs : List ShapeAttribute) (path : List ℕ) (i : ℕ) (p : Paths) (row : List TemplateAttribute) → length xs ≤ i
    → (row, p) ≡ joined row (attrs_at path (drop i xs) p)
attrs-end xs path i p row past =
    ap (λ ys. (ys, p)) (sym (nil row)) ∙ sym (ap (λ ys. joined row (attrs_at path ys p)) (drop_of_length-le xs past))

-- each kind of shape
pub numbered-Words : (text : List ℕ) (path : List ℕ) (p : Paths) → numbered (shapes.Words text) path p ≡ (nodes.Text text, p)
numbered-Words text path p =
    let h : numbered (shapes.Words text) ≡ made_step (Shape-F.Words text) = search (rules, the_lemmas) in
    ap (λ (f : Maker). f path p) h

pub numbered-Hole : (path : List ℕ) (p : Paths) → numbered shapes.Hole path p ≡ (nodes.Dynamic (length p.node_paths), record p { node_paths = p.node_paths ++ path ∷ [] })
numbered-Hole path p =
    let h : numbered shapes.Hole ≡ made_step Shape-F.Hole = search (rules, the_lemmas) in
    ap (λ (f : Maker). f path p) h

pub numbered-Element : (tag : List ℕ) (attrs : List ShapeAttribute) (kids : List Shape) (path : List ℕ) (p : Paths)
    → numbered (shapes.Element tag attrs kids) path p ≡ element_of tag (attrs_at path attrs p).0 (among (map numbered kids) path 0 (attrs_at path attrs p).1)
numbered-Element tag attrs kids path p =
    let h : numbered (shapes.Element tag attrs kids) ≡ made_step (Shape-F.Element tag attrs (map numbered kids)) = search (rules, the_lemmas) in
    ap (λ (f : Maker). f path p) h

-- an element of what was made
pub element-made : (tag : List ℕ) (attrs : List ShapeAttribute) (kids : List Shape) (path : List ℕ) (p q r : Paths) (own : List TemplateAttribute) (row : List TemplateNode)
    → (own, q) ≡ attrs_at path attrs p → (row, r) ≡ among (map numbered kids) path 0 q
    → element_of tag own (row, r) ≡ numbered (shapes.Element tag attrs kids) path p
element-made tag attrs kids path p q r own row hasattrs haskids =
    ap (element_of tag own) haskids ∙ (ap (λ (m : List TemplateAttribute × Paths). element_of tag m.0 (among (map numbered kids) path 0 m.1)) hasattrs ∙ sym (numbered-Element tag attrs kids path p))

pub ruleset made = (numbered-Words, numbered-Hole, element-made)

-- a row that is made from the start gives the whole template
pub whole : (xs : List Shape) (p q : Paths) (row : List TemplateNode) → p.node_paths ≡ [] → p.attr_paths ≡ [] → (row, q) ≡ among (map numbered xs) [] 0 p
    → finished (row, q) ≡ template_of xs
unfolding template_of
whole xs p q row a b is =
    ap finished is ∙ ap (λ (r : Paths). finished (among (map numbered xs) [] 0 r)) (λ i. record { node_paths = a i; attr_paths = b i })
