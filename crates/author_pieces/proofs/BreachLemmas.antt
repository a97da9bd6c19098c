-- What one node after another breaks.
use Rattle.std.proofs.Common.{◌≡◌, ℕ, ◌+◌, ◌<◌, ◌≤◌, List, [], ◌∷◌, length, get_or, drop, map, refl, sym, ◌∙◌, ap, rules}
use Rattle.std.proofs.Math.ListN.{drop_of_length-le}
use Rattle.std.proofs.lemmas.List.{length-map}
use Rattle.std.specs.Prelude.{Option, Some, None}
use Rattle.tree_fits.proofs.NamesLemmas.{drop-next}
use Rattle.author_pieces.specs.Breaches.{Look, bad_among, bad_in, bad_step, broken, deep, first, found}
use Rattle.author_pieces.specs.Numbering.{below}
use Rattle.author_pieces.specs.declared.breaches.BadMarkup.{BadMarkup}
use Rattle.tree_nodes.specs.declared.attribute.Attribute.{Attribute}
use Rattle.tree_nodes.specs.declared.template.TemplateAttribute.{TemplateAttribute}
use Rattle.tree_nodes.specs.declared.template.TemplateNode.{TemplateNode, the_lemmas}
use Rattle.tree_nodes.specs.declared.template.TemplateNode.TheOpen.{TemplateNode-F}
use Rattle.tree_nodes.specs.declared.template.TemplateNode.TheVariants as template

module _ {P C Q V H T E L : Type 0} where
  -- a text
  pub bad-Text : (slots : List (List (Attribute P C Q V H T E L))) (text : List ℕ) (path : List ℕ)
      → bad_in slots (template.Text text) path ≡ found path (deep (length path))
  bad-Text slots text path =
      let h : bad_in slots (template.Text text) ≡ bad_step slots (TemplateNode-F.Text text) = search (rules, the_lemmas) in
      ap (λ (f : Look). f path) h

  -- a slot
  pub bad-Dynamic : (slots : List (List (Attribute P C Q V H T E L))) (id : ℕ) (path : List ℕ)
      → bad_in slots (template.Dynamic id) path ≡ found path (deep (length path))
  bad-Dynamic slots id path =
      let h : bad_in slots (template.Dynamic id) ≡ bad_step slots (TemplateNode-F.Dynamic id) = search (rules, the_lemmas) in
      ap (λ (f : Look). f path) h

  -- an element by itself, and then its children
  pub bad-Element : (slots : List (List (Attribute P C Q V H T E L))) (tag : List ℕ) (namespace : Option (List ℕ)) (attrs : List TemplateAttribute)
      (children : List TemplateNode) (path : List ℕ)
      → bad_in slots (template.Element tag namespace attrs children) path
      ≡ first (found path (broken slots (length path) attrs (length children))) (bad_among (map (bad_in slots) children) path 0)
  bad-Element slots tag namespace attrs children path =
      let h : bad_in slots (template.Element tag namespace attrs children) ≡ bad_step slots (TemplateNode-F.Element tag namespace attrs (map (bad_in slots) children)) = search (rules, the_lemmas) in
      ap (λ (f : Look). f path) h
      ∙ ap (λ n. first (found path (broken slots (length path) attrs n)) (bad_among (map (bad_in slots) children) path 0)) (length-map children (bad_in slots))

  -- one node and the rest
  bad-drop : (slots : List (List (Attribute P C Q V H T E L))) (nodes : List TemplateNode) (above : List ℕ) (i : ℕ) (x : TemplateNode)
      → i < length nodes → x ≡ get_or nodes i x
      → bad_among (map (bad_in slots) (drop i nodes)) above i
      ≡ first (bad_in slots x (below above i)) (bad_among (map (bad_in slots) (drop (i + 1) nodes)) above (i + 1))
  bad-drop slots nodes above i x within read = ap (λ ns. bad_among (map (bad_in slots) ns) above i) (drop-next nodes i x within read)

  -- a node that breaks nothing
  pub bad-next : (slots : List (List (Attribute P C Q V H T E L))) (nodes : List TemplateNode) (above : List ℕ) (i : ℕ) (x : TemplateNode)
      → i < length nodes → x ≡ get_or nodes i x → bad_in slots x (below above i) ≡ None
      → bad_among (map (bad_in slots) (drop i nodes)) above i ≡ bad_among (map (bad_in slots) (drop (i + 1) nodes)) above (i + 1)
  bad-next slots nodes above i x within read good =
      bad-drop slots nodes above i x within read ∙ ap (λ b. first b (bad_among (map (bad_in slots) (drop (i + 1) nodes)) above (i + 1))) good

  -- a node that breaks a rule
  pub bad-stop : (slots : List (List (Attribute P C Q V H T E L))) (nodes : List TemplateNode) (above : List ℕ) (i : ℕ) (x : TemplateNode) (bad : BadMarkup)
      → i < length nodes → x ≡ get_or nodes i x → bad_in slots x (below above i) ≡ Some bad
      → bad_among (map (bad_in slots) (drop i nodes)) above i ≡ Some bad
  bad-stop slots nodes above i x bad within read is =
      bad-drop slots nodes above i x within read ∙ ap (λ b. first b (bad_among (map (bad_in slots) (drop (i + 1) nodes)) above (i + 1))) is

  -- no node is left
  pub bad-end : (slots : List (List (Attribute P C Q V H T E L))) (nodes : List TemplateNode) (above : List ℕ) (i : ℕ) → length nodes ≤ i
      → None ≡ bad_among (map (bad_in slots) (drop i nodes)) above i
  bad-end slots nodes above i past = sym (ap (λ ns. bad_among (map (bad_in slots) ns) above i) (drop_of_length-le nodes past))

-- each kind of node
pub ruleset read = (bad-Text, bad-Dynamic, bad-Element)
