-- Two outputs of one template that pass the node test: both passes, element by element.
use Rattle.std.proofs.Common.{ℕ, zero, suc, ◌+◌, Bool, true, List, [], ◌∷◌, ◌++◌, ◌≡◌, refl, sym, ap, ◌∙◌}
use Rattle.std.specs.Prelude.{Option, Some}
use Rattle.rt_model.specs.Lists.{Text}
use Rattle.rt_model.specs.Tree.{Types, TemplateAttribute, fixed, from_slot, text_value, TemplateNodes, no_nodes, element_node, text_node, slot_node, Template, same_template, Attribute, Tree, block, template_of, attributes_of, Place, Kind, an_element, place_in, attributes_in}
use Rattle.rt_model.specs.Fits.{all_once, element_names, all_plain, nodes_fit, fits_at, slots_fit}
use Rattle.rt_model.specs.Heard.{number_at}
use Rattle.rt_model.specs.Document.{Content, DocElement}
use Rattle.rt_model.specs.View.{element_attributes, element_listeners}
use Rattle.rt_model.specs.Caused.{element_pass, left, come}
use Rattle.rt_model.proofs.SamePlaces.{template-true}
use Rattle.rt_model.proofs.Conjunctions.{and-left, and-right}
use Rattle.law_moves.specs.Settings.{altered}
use Rattle.law_moves.specs.Meets.{AttributesBring}
use Rattle.law_headline.specs.Passes.{ElementsAlter}
use Rattle.law_headline.proofs.Passes.{passes_bring}
use Rattle.law_headline.proofs.Keys.{Unique, flat, element_unique}
use Rattle.law_headline.proofs.Marks.{Marks, bare, given, element_flat, marked, bare_all_free}
use Rattle.law_headline.proofs.Staying.{found}
use Rattle.law_headline.proofs.Passing.{element_leaves, element_comes, flat_orders}

module _ {K : Types} where
  -- what stays of the attributes of each slot, in the new order
  abbrev all_found : List (List (Attribute K)) → List (List (Attribute K)) → List (List (Attribute K))
  all_found [] olds = []
  all_found (new ∷ news) [] = found new [] ∷ all_found news []
  all_found (new ∷ news) (old ∷ olds) = found new old ∷ all_found news olds

  found_in : (news olds : List (List (Attribute K))) (k : ℕ) → attributes_in (all_found news olds) k ≡ found (attributes_in news k) (attributes_in olds k)
  found_in [] olds k = refl
  found_in (new ∷ news) [] zero = refl
  found_in (new ∷ news) [] (suc k) = found_in news [] k
  found_in (new ∷ news) (old ∷ olds) zero = refl
  found_in (new ∷ news) (old ∷ olds) (suc k) = found_in news olds k

  flat_found : (news olds : List (List (Attribute K))) (attributes : List TemplateAttribute)
      → flat (λ k. attributes_in (all_found news olds) k) attributes ≡ flat (λ k. found (attributes_in news k) (attributes_in olds k)) attributes
  flat_found news olds [] = refl
  flat_found news olds (fixed name namespace value ∷ rest) =
      ap (λ (es : List (Attribute K)). record { name = name; namespace = namespace; value = text_value value } ∷ es) (flat_found news olds rest)
  flat_found news olds (from_slot k ∷ rest) =
      ap (λ (es : List (Attribute K)). es ++ flat (λ j. attributes_in (all_found news olds) j) rest) (found_in news olds k)
      ∙ ap (λ (es : List (Attribute K)). found (attributes_in news k) (attributes_in olds k) ++ es) (flat_found news olds rest)

  module _ (news olds : List (List (Attribute K))) (plain_new : all_plain news ≡ true) (plain_old : all_plain olds ≡ true) where
    abbrev new : ℕ → List (Attribute K)
    new k = attributes_in news k

    abbrev old : ℕ → List (Attribute K)
    old k = attributes_in olds k

    abbrev between : List (List (Attribute K))
    between = all_found news olds

    -- an element, as the view has it
    abbrev shows : Text → Option Text → List (List (Attribute K)) → List TemplateAttribute → Content
    shows tag space from attributes = DocElement tag space (element_attributes from [] attributes) (element_listeners from [] attributes)

    as_given : (n : ℕ) (tag : Text) (space : Option Text) (from : List (List (Attribute K))) (attributes : List TemplateAttribute)
        → shows tag space from attributes ≡ marked n tag space (given bare (flat (λ k. attributes_in from k) attributes))
    as_given n tag space from attributes = ap (λ (s : Marks). marked n tag space s) (element_flat from attributes bare)

    one_leaves : (n : ℕ) (tag : Text) (space : Option Text) (attributes : List TemplateAttribute) → Unique (flat old attributes) → Unique (flat new attributes)
        → altered n (element_pass (λ k m. left (old k) (new k) m) n attributes) (shows tag space olds attributes) ≡ Some (shows tag space between attributes)
    one_leaves n tag space attributes u v =
        ap (λ (c : Content). altered n (element_pass (λ k m. left (old k) (new k) m) n attributes) c) (as_given n tag space olds attributes)
        ∙ element_leaves n tag space old new attributes bare u (bare_all_free (flat old attributes))
        ∙ ap (λ (s : Marks). Some (marked n tag space s)) (flat_orders old new attributes bare u v)
        ∙ ap (λ (es : List (Attribute K)). Some (marked n tag space (given bare es))) (sym (flat_found news olds attributes))
        ∙ ap Some (sym (as_given n tag space between attributes))

    one_comes : (n : ℕ) (tag : Text) (space : Option Text) (attributes : List TemplateAttribute) → Unique (flat new attributes)
        → altered n (element_pass (λ k m. come (new k) (old k) m) n attributes) (shows tag space between attributes) ≡ Some (shows tag space news attributes)
    one_comes n tag space attributes v =
        ap (λ (c : Content). altered n (element_pass (λ k m. come (new k) (old k) m) n attributes) c)
        (as_given n tag space between attributes ∙ ap (λ (es : List (Attribute K)). marked n tag space (given bare es)) (flat_found news olds attributes))
        ∙ element_comes n tag space new old attributes bare v (bare_all_free (flat new attributes))
        ∙ ap Some (sym (as_given n tag space news attributes))

    module _ (numbers : List (Place × Kind × ℕ)) (whole : Template) (above : Place) (slot other : ℕ → ℕ → Bool) where
      unique_in : (given : List (List (Attribute K))) (test : ℕ → ℕ → Bool) (level : ℕ) (tag : Text) (space : Option Text) (attributes : List TemplateAttribute) (children rest : TemplateNodes)
          → all_plain given ≡ true → nodes_fit given test level (element_node tag space attributes children rest) ≡ true → Unique (flat (λ k. attributes_in given k) attributes)
      unique_in given test level tag space attributes children rest p h =
          element_unique given attributes p
          (and-right _ (all_once (element_names given attributes)) (and-left _ (nodes_fit given test (level + 1) children) (and-left _ (nodes_fit given test level rest) h)))

      children_fit : (given : List (List (Attribute K))) (test : ℕ → ℕ → Bool) (level : ℕ) (tag : Text) (space : Option Text) (attributes : List TemplateAttribute) (children rest : TemplateNodes)
          → nodes_fit given test level (element_node tag space attributes children rest) ≡ true → nodes_fit given test (level + 1) children ≡ true
      children_fit given test level tag space attributes children rest h =
          and-right _ (nodes_fit given test (level + 1) children) (and-left _ (nodes_fit given test level rest) h)

      elements_leave : (nodes : TemplateNodes) (up : List ℕ) (i level height : ℕ) → nodes_fit news slot level nodes ≡ true → nodes_fit olds other height nodes ≡ true
          → ElementsAlter numbers whole above olds between (λ k n. left (attributes_in olds k) (attributes_in news k) n) up i nodes
      elements_leave no_nodes up i level height h g = tt
      elements_leave (element_node tag namespace attributes children rest) up i level height h g = (
        one_leaves (number_at numbers (place_in whole above up i) an_element) tag namespace attributes
            (unique_in olds other height tag namespace attributes children rest plain_old g)
            (unique_in news slot level tag namespace attributes children rest plain_new h),
        elements_leave children (up ++ i ∷ []) 0 (level + 1) (height + 1)
            (children_fit news slot level tag namespace attributes children rest h)
            (children_fit olds other height tag namespace attributes children rest g),
        elements_leave rest up (i + 1) level height (and-right _ (nodes_fit news slot level rest) h) (and-right _ (nodes_fit olds other height rest) g),
      )
      elements_leave (text_node text rest) up i level height h g =
          elements_leave rest up (i + 1) level height (and-right _ (nodes_fit news slot level rest) h) (and-right _ (nodes_fit olds other height rest) g)
      elements_leave (slot_node k rest) up i level height h g =
          elements_leave rest up (i + 1) level height (and-right _ (nodes_fit news slot level rest) h) (and-right _ (nodes_fit olds other height rest) g)

      elements_come : (nodes : TemplateNodes) (up : List ℕ) (i level : ℕ) → nodes_fit news slot level nodes ≡ true
          → ElementsAlter numbers whole above between news (λ k n. come (attributes_in news k) (attributes_in olds k) n) up i nodes
      elements_come no_nodes up i level h = tt
      elements_come (element_node tag namespace attributes children rest) up i level h = (
        one_comes (number_at numbers (place_in whole above up i) an_element) tag namespace attributes
            (unique_in news slot level tag namespace attributes children rest plain_new h),
        elements_come children (up ++ i ∷ []) 0 (level + 1) (children_fit news slot level tag namespace attributes children rest h),
        elements_come rest up (i + 1) level (and-right _ (nodes_fit news slot level rest) h),
      )
      elements_come (text_node text rest) up i level h = elements_come rest up (i + 1) level (and-right _ (nodes_fit news slot level rest) h)
      elements_come (slot_node k rest) up i level h = elements_come rest up (i + 1) level (and-right _ (nodes_fit news slot level rest) h)

      both_bring : (level height : ℕ) → nodes_fit news slot level whole.roots ≡ true → nodes_fit olds other height whole.roots ≡ true → AttributesBring numbers above whole news olds
      both_bring level height h g =
          passes_bring numbers above whole olds between news (elements_leave whole.roots [] 0 level height h g) (elements_come whole.roots [] 0 level h)

  pub fitting_bring : (numbers : List (Place × Kind × ℕ)) (above : Place) (new old : Tree K) (level other : ℕ)
      → same_template (template_of new) (template_of old) ≡ true
      → fits_at new level ≡ true
      → fits_at old other ≡ true
      → AttributesBring numbers above (template_of new) (attributes_of new) (attributes_of old)
  fitting_bring numbers above (block template given slots) (block wanted olds others) level other e h g =
      let test : ℕ → ℕ → Bool = λ k below. slots_fit slots k below in
      let was : ℕ → ℕ → Bool = λ k below. slots_fit others k below in
      let same : template ≡ wanted = template-true template wanted e in
      let fit : nodes_fit olds was other template.roots ≡ true = ap (λ (t : Template). nodes_fit olds was other t.roots) same ∙ and-right _ (nodes_fit olds was other wanted.roots) g in
      both_bring given olds
      (and-right _ (all_plain given) (and-left _ (nodes_fit given test level template.roots) h))
      (and-right _ (all_plain olds) (and-left _ (nodes_fit olds was other wanted.roots) g))
      numbers template above test was level other
      (and-right _ (nodes_fit given test level template.roots) h)
      fit
