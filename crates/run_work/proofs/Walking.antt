-- A walk through a template, node by node of code; and lists, one thing after another.
use Rattle.std.proofs.Common.{ℕ, ◌+◌, List, [], ◌∷◌, ◌++◌, ◌≡◌, refl, sym, ap, ◌∙◌, append-nil}
use Rattle.std.specs.Prelude.{Option}
pub use Rattle.rt_lemmas.proofs.Lists.{next_drop, map_append as mapped}
use Rattle.tree_nodes.specs.declared.template.TemplateAttribute.{TemplateAttribute}
use Rattle.tree_nodes.specs.declared.template.TemplateNode.{TemplateNode}
use Rattle.tree_nodes.specs.declared.template.TemplateNode.TheVariants as nodes
use Rattle.tree_nodes.specs.declared.template.TemplateNode.TheOpen.{TemplateNode-F}
use Rattle.tree_nodes.specs.declared.template.TemplateNode.TheViews.{out-TemplateNode}
use Rattle.rt_model.specs.Tree.{Types, TemplateNodes, no_nodes, Template, Place, place_in, Kind, an_element, a_static_text}
use Rattle.tree_mirror.specs.Mirror.{all_before, before_step}
use Rattle.tree_mirror.specs.Sealed.{node_before, nodes_of}
use Rattle.tree_mirror.proofs.SealedNodes.{below, before_out, before_Element, before_Text, before_Dynamic}
use Rattle.tree_marks.specs.Marks.{Mark, template_marks}

module _ {K : Types} (node : Place → Kind → Mark K) (whole : Template) (above : Place) (slot : ℕ → Place → List (Mark K)) where
  -- one level before others: what it gives, then what they give
  level_walk : (y : TemplateNode-F (TemplateNodes → TemplateNodes)) (up : List ℕ) (i : ℕ) (rest : TemplateNodes)
      → template_marks node whole above slot up i (before_step y rest)
      ≡ template_marks node whole above slot up i (before_step y no_nodes) ++ template_marks node whole above slot up (i + 1) rest
  level_walk (TemplateNode-F.Element tag namespace attrs children) up i rest =
      let under : List (Mark K) = template_marks node whole above slot (up ++ i ∷ []) 0 (all_before children no_nodes) in
      let later : List (Mark K) = template_marks node whole above slot up (i + 1) rest in
      ap (λ (xs : List (Mark K)). node (place_in whole above up i) an_element ∷ (xs ++ later)) (sym (append-nil under))
  level_walk (TemplateNode-F.Text text) up i rest = refl
  level_walk (TemplateNode-F.Dynamic id) up i rest =
      ap (λ (xs : List (Mark K)). xs ++ template_marks node whole above slot up (i + 1) rest) (sym (append-nil (slot id (place_in whole above up i))))

  -- a node before others
  pub walk_first : (up : List ℕ) (i : ℕ) (n : TemplateNode) (rest : TemplateNodes)
      → template_marks node whole above slot up i (node_before n rest)
      ≡ template_marks node whole above slot up i (node_before n no_nodes) ++ template_marks node whole above slot up (i + 1) rest
  walk_first up i n rest =
      ap (λ ns. template_marks node whole above slot up i ns) (before_out n rest)
      ∙ level_walk (below (out-TemplateNode n)) up i rest
      ∙ ap (λ ns. template_marks node whole above slot up i ns ++ template_marks node whole above slot up (i + 1) rest) (sym (before_out n no_nodes))

  pub walk_Element : (up : List ℕ) (i : ℕ) (tag : List ℕ) (namespace : Option (List ℕ)) (attrs : List TemplateAttribute) (children : List TemplateNode)
      → template_marks node whole above slot up i (node_before (nodes.Element tag namespace attrs children) no_nodes)
      ≡ node (place_in whole above up i) an_element ∷ template_marks node whole above slot (up ++ i ∷ []) 0 (nodes_of children)
  walk_Element up i tag namespace attrs children =
      ap (λ ns. template_marks node whole above slot up i ns) (before_Element tag namespace attrs children no_nodes)
      ∙ ap (λ (xs : List (Mark K)). node (place_in whole above up i) an_element ∷ xs) (append-nil (template_marks node whole above slot (up ++ i ∷ []) 0 (nodes_of children)))

  pub walk_Text : (up : List ℕ) (i : ℕ) (text : List ℕ)
      → template_marks node whole above slot up i (node_before (nodes.Text text) no_nodes) ≡ node (place_in whole above up i) a_static_text ∷ []
  walk_Text up i text = ap (λ ns. template_marks node whole above slot up i ns) (before_Text text no_nodes)

  pub walk_Dynamic : (up : List ℕ) (i id : ℕ) → template_marks node whole above slot up i (node_before (nodes.Dynamic id) no_nodes) ≡ slot id (place_in whole above up i)
  walk_Dynamic up i id = ap (λ ns. template_marks node whole above slot up i ns) (before_Dynamic id no_nodes) ∙ append-nil (slot id (place_in whole above up i))
