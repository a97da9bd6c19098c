-- What is met in a template stands at different paths, but for the attribute slots of an element.
use Rattle.std.proofs.Common.{◌≡◌, ℕ, ◌+◌, List, [], ◌∷◌, ◌++◌, length, map, refl, sym, ◌∙◌, ap, subst}
use Rattle.std.specs.List.{All}
use Rattle.std.proofs.lemmas.List.Elements.{All-nil, All-cons}
use Rattle.tree_nodes.specs.Met.{Met, AtElement, AtAttribute, AtText, AtSlot, met, met_step, met_attrs, met_among, met_in}
use Rattle.tree_nodes.specs.declared.template.TemplateAttribute.{TemplateAttribute}
use Rattle.tree_nodes.specs.declared.template.TemplateAttribute.TheVariants.{Static, Dynamic}
use Rattle.tree_nodes.specs.declared.template.TemplateNode.{TemplateNode}
use Rattle.tree_nodes.specs.declared.template.TemplateNode.TheOpen.{TemplateNode-F}
use Rattle.tree_nodes.specs.declared.template.TemplateNode.TheViews.{roll-TemplateNode}
use Rattle.tree_nodes.specs.declared.template.TemplateNode.TheFolds.{fold-roll-TemplateNode, ind-TemplateNode, map-TemplateNode}
use Rattle.tree_nodes.proofs.Spread.{Row, Apart, IsSpread, numbered, numbered-apart, numbered-spread, placed, placed-spread, one-spread, first-spread, spread-same}

module _ {B : Type 0} where
  -- what is met, attribute slots left out, each by its path and by what stands for it
  abbrev pub tagged : (Met → B) → List Met → List (List ℕ × B)
  tagged f [] = []
  tagged f (AtElement path attrs children ∷ ms) = (path, f (AtElement path attrs children)) ∷ tagged f ms
  tagged f (AtAttribute path id ∷ ms) = tagged f ms
  tagged f (AtText path ∷ ms) = (path, f (AtText path)) ∷ tagged f ms
  tagged f (AtSlot path id ∷ ms) = (path, f (AtSlot path id)) ∷ tagged f ms

  tagged-append : (f : Met → B) (xs ys : List Met) → tagged f (xs ++ ys) ≡ tagged f xs ++ tagged f ys
  tagged-append f [] ys = refl
  tagged-append f (AtElement path attrs children ∷ xs) ys = ap (λ r. (path, f (AtElement path attrs children)) ∷ r) (tagged-append f xs ys)
  tagged-append f (AtAttribute path id ∷ xs) ys = tagged-append f xs ys
  tagged-append f (AtText path ∷ xs) ys = ap (λ r. (path, f (AtText path)) ∷ r) (tagged-append f xs ys)
  tagged-append f (AtSlot path id ∷ xs) ys = ap (λ r. (path, f (AtSlot path id)) ∷ r) (tagged-append f xs ys)

  tagged-attrs : (f : Met → B) (path : List ℕ) (attrs : List TemplateAttribute) (ms : List Met) → tagged f (met_attrs path attrs ++ ms) ≡ tagged f ms
  tagged-attrs f path [] ms = refl
  tagged-attrs f path (Static name namespace value ∷ attrs) ms = tagged-attrs f path attrs ms
  tagged-attrs f path (Dynamic id ∷ attrs) ms = tagged-attrs f path attrs ms

  -- what all that is met stands for
  pub tagged-all : (P : B → Type 0) (f : Met → B) → ((m : Met) → P (f m)) → (ms : List Met) → All (λ x. P x.1) (tagged f ms)
  tagged-all P f each [] = All-nil (λ (x : List ℕ × B). P x.1)
  tagged-all P f each (AtElement path attrs children ∷ ms) = All-cons (λ (x : List ℕ × B). P x.1) (path, f (AtElement path attrs children)) (tagged f ms) (each (AtElement path attrs children)) (tagged-all P f each ms)
  tagged-all P f each (AtAttribute path id ∷ ms) = tagged-all P f each ms
  tagged-all P f each (AtText path ∷ ms) = All-cons (λ (x : List ℕ × B). P x.1) (path, f (AtText path)) (tagged f ms) (each (AtText path)) (tagged-all P f each ms)
  tagged-all P f each (AtSlot path id ∷ ms) = All-cons (λ (x : List ℕ × B). P x.1) (path, f (AtSlot path id)) (tagged f ms) (each (AtSlot path id)) (tagged-all P f each ms)

  -- what is met in a node, below the path to it
  abbrev node_row : (Met → B) → TemplateNode → Row ℕ B
  node_row f node path = tagged f (met node path)

  node_rows-placed : (f : Met → B) (nodes : List TemplateNode) (path : List ℕ) (k : ℕ)
      → tagged f (met_among (map met nodes) path k) ≡ placed (λ index. index) (numbered k (map (node_row f) nodes)) path
  node_rows-placed f [] path k = refl
  node_rows-placed f (node ∷ nodes) path k =
      tagged-append f (met node (path ++ k ∷ [])) (met_among (map met nodes) path (k + 1)) ∙
      ap (λ r. tagged f (met node (path ++ k ∷ [])) ++ r) (node_rows-placed f nodes path (k + 1))

  -- a node of which this is known
  abbrev Known : (Met → B) → Type 0
  Known f = (node : TemplateNode) × IsSpread (node_row f node)

  known-spread : (f : Met → B) (nodes : List (Known f)) → All IsSpread (map (node_row f) (map (λ known. known.0) nodes))
  known-spread f [] = All-nil (IsSpread {S = ℕ} {A = B})
  known-spread f (node ∷ nodes) = All-cons (IsSpread {S = ℕ} {A = B}) (node_row f node.0) (map (node_row f) (map (λ known. known.0) nodes)) node.1 (known-spread f nodes)

  -- one level of a template
  layer_row : (Met → B) → TemplateNode-F TemplateNode → Row ℕ B
  layer_row f layer path = tagged f (met_step (map-TemplateNode TemplateNode (List ℕ → List Met) met layer) path)

  layer-spread : (f : Met → B) (layer : TemplateNode-F (Known f)) → IsSpread (layer_row f (map-TemplateNode (Known f) TemplateNode (λ known. known.0) layer))
  unfolding layer_row
  layer-spread f (TemplateNode-F.Element tag namespace attrs children) =
      let nodes : List TemplateNode = map (λ known. known.0) children in
      let rows : List (ℕ × Row ℕ B) = numbered 0 (map (node_row f) nodes) in
      let head : List ℕ → B = λ path. f (AtElement path attrs (length (map met nodes))) in
      spread-same (layer_row f (TemplateNode-F.Element tag namespace attrs nodes)) (λ path. (path, head path) ∷ placed (λ index. index) rows path)
      (λ path. ap (λ r. (path, head path) ∷ r) (tagged-attrs f path attrs (met_among (map met nodes) path 0) ∙ node_rows-placed f nodes path 0))
      (first-spread (λ index. index) (λ t u same. same) head rows (numbered-apart 0 (map (node_row f) nodes)) (numbered-spread 0 (map (node_row f) nodes) (known-spread f children)))
  layer-spread f (TemplateNode-F.Text text) = λ path. (one-spread (f (AtText path))) path
  layer-spread f (TemplateNode-F.Dynamic id) = λ path. (one-spread (f (AtSlot path id))) path

  node-spread : (f : Met → B) (node : TemplateNode) → IsSpread (node_row f node)
  unfolding layer_row
  node-spread f = ind-TemplateNode (λ node. IsSpread (node_row f node)) (λ layer known is.
      let rolled : met (roll-TemplateNode layer) ≡ met_step (map-TemplateNode TemplateNode (List ℕ → List Met) met layer) = fold-roll-TemplateNode (List ℕ → List Met) met_step layer in
      let spread : IsSpread (layer_row f layer) = subst (λ (l : TemplateNode-F TemplateNode). IsSpread (layer_row f l)) is (layer-spread f known) in
      subst (λ (m : List ℕ → List Met). IsSpread (λ path. tagged f (m path))) (sym rolled) spread)

  nodes-spread : (f : Met → B) (nodes : List TemplateNode) → All IsSpread (map (node_row f) nodes)
  nodes-spread f [] = All-nil (IsSpread {S = ℕ} {A = B})
  nodes-spread f (node ∷ nodes) = All-cons (IsSpread {S = ℕ} {A = B}) (node_row f node) (map (node_row f) nodes) (node-spread f node) (nodes-spread f nodes)

  -- what is met in a whole template stands at different paths
  pub met_in-apart : (f : Met → B) (roots : List TemplateNode) → Apart (tagged f (met_in roots))
  met_in-apart f roots =
      let rows : List (ℕ × Row ℕ B) = numbered 0 (map (node_row f) roots) in
      subst (λ (xs : List (List ℕ × B)). Apart xs) (sym (node_rows-placed f roots [] 0))
      (placed-spread (λ index. index) (λ t u same. same) rows (numbered-apart 0 (map (node_row f) roots)) (numbered-spread 0 (map (node_row f) roots) (nodes-spread f roots)) []).1
