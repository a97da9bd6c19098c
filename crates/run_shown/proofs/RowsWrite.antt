-- The nodes of a template write one after another.
use Rattle.std.proofs.Common.{ℕ, ◌+◌, ◌<◌, ◌≤◌, List, [], ◌∷◌, ◌++◌, ◌≡◌, sym, ap, ◌∙◌, length, get_or, drop}
use Rattle.std.specs.Prelude.{Option, Some, None, slice_get}
use Rattle.std.proofs.Math.ListN.{drop_of_length-le}
use Rattle.tree_nodes.specs.declared.template.TemplateAttribute.{TemplateAttribute}
use Rattle.tree_nodes.specs.declared.template.TemplateNode.{TemplateNode}
use Rattle.tree_nodes.specs.declared.template.TemplateNode.TheVariants as nodes
use Rattle.tree_nodes.specs.declared.vnode.DynamicNode.{DynamicNode}
use Rattle.tree_nodes.specs.declared.vnode.DynamicNode.TheVariants as values
use Rattle.tree_nodes.specs.declared.vnode.VNode.{VNode}
use Rattle.rt_model.specs.OneLog.{types}
use Rattle.rt_model.specs.World.{Application}
use Rattle.rt_model.specs.Tree.{Place}
use Rattle.rt_model.specs.Caused.{Written, then_on}
use Rattle.tree_mirror.specs.Sealed.{template_of}
use Rattle.run_places.specs.Places.{at_path}
use Rattle.run_shown.specs.declared.calm.Sides.{Sides}
use Rattle.run_shown.specs.Units.{node_writes, row_writes, slot_writes}
use Rattle.run_shown.proofs.OneByOne.{next_drop}
use Rattle.run_shown.proofs.Parted.{then_nothing, then_then}
use Rattle.run_shown.proofs.ScopesWrite.{node_both, node_Element, node_new}

module _ {P C Q V H T E L : Type 0} (app : Application (types C Q V H T E L)) (b : Sides P C Q V H T E L) (above : Place) (new old : VNode P C Q V H T E L) (up : List ℕ) (i : ℕ)
    (node : TemplateNode) (this : Written) where
  -- an element writes what its children do, below its own path
  pub element_here : (tag : List ℕ) (namespace : Option (List ℕ)) (attrs : List TemplateAttribute) (children row : List TemplateNode) (path : List ℕ)
      → node ≡ nodes.Element tag namespace attrs children → row ≡ children → this ≡ row_writes app b above new old path 0 row → path ≡ up ++ i ∷ []
      → this ≡ node_writes app b above new old up i node
  element_here tag namespace attrs children row path is own one below =
      one
      ∙ (λ k. row_writes app b above new old (below k) 0 (own k))
      ∙ sym (ap (λ x. node_writes app b above new old up i x) is ∙ node_Element app b above new old up i tag namespace attrs children)

  -- a slot writes what stands in it does, at its own place
  pub slot_here : (id : ℕ) (value was : DynamicNode P C Q V H T E L) (place : Place)
      → node ≡ nodes.Dynamic id → slice_get new.dynamic_nodes id ≡ Some value → slice_get old.dynamic_nodes id ≡ Some was
      → this ≡ slot_writes app b place value was → place ≡ at_path (template_of new.template) above (up ++ i ∷ [])
      → this ≡ node_writes app b above new old up i node
  slot_here id value was place is there before one at_place =
      one
      ∙ ap (λ p. slot_writes app b p value was) at_place
      ∙ sym (ap (λ x. node_writes app b above new old up i x) is ∙ node_both app b above new old up i id value was there before)

  -- and where nothing stood, as in the place of a placeholder
  pub slot_anew : (id : ℕ) (value : DynamicNode P C Q V H T E L) (place : Place)
      → node ≡ nodes.Dynamic id → slice_get new.dynamic_nodes id ≡ Some value → slice_get old.dynamic_nodes id ≡ None
      → this ≡ slot_writes app b place value values.Placeholder → place ≡ at_path (template_of new.template) above (up ++ i ∷ [])
      → this ≡ node_writes app b above new old up i node
  slot_anew id value place is there before one at_place =
      one
      ∙ ap (λ p. slot_writes app b p value values.Placeholder) at_place
      ∙ sym (ap (λ x. node_writes app b above new old up i x) is ∙ node_new app b above new old up i id value there before)

module _ {P C Q V H T E L : Type 0} (app : Application (types C Q V H T E L)) (b : Sides P C Q V H T E L) (above : Place) (new old : VNode P C Q V H T E L) (up : List ℕ) (row : List TemplateNode) (i : ℕ) where
  -- one node more
  pub row_more : (node : TemplateNode) (before this after whole : Written)
      → i < length row → node ≡ get_or row i node
      → then_on before (row_writes app b above new old up i (drop i row)) ≡ whole
      → this ≡ node_writes app b above new old up i node
      → after ≡ then_on before this
      → then_on after (row_writes app b above new old up (i + 1) (drop (i + 1) row)) ≡ whole
  row_more node before this after whole low is so_far one more =
      let rest : Written = row_writes app b above new old up (i + 1) (drop (i + 1) row) in
      ap (λ w. then_on w rest) (more ∙ ap (λ w. then_on before w) one)
      ∙ then_then before (node_writes app b above new old up i node) rest
      ∙ ap (λ ns. then_on before (row_writes app b above new old up i ns)) (sym (next_drop row i node low is))
      ∙ so_far

  -- and all of them
  pub row_end : (all whole : Written) → length row ≤ i → then_on all (row_writes app b above new old up i (drop i row)) ≡ whole → all ≡ whole
  row_end all whole end so_far = sym (then_nothing all) ∙ ap (λ ns. then_on all (row_writes app b above new old up i ns)) (sym (drop_of_length-le row end)) ∙ so_far
