-- What comes of the events of two trees, one after another.
use Rattle.std.proofs.Common.{ℕ, ◌+◌, List, [], ◌∷◌, ◌++◌, ◌≡◌, refl, sym, ap, ◌∙◌, append_assoc}
use Rattle.rt_model.specs.Tree.{Types, TemplateNodes, no_nodes, element_node, text_node, slot_node, Template, Place, Kind, an_element, a_static_text, Spot, node_at, component_at, place_in, node_spots}
use Rattle.run_work.specs.Events.{Event, stays, goes, comes, fed, left, made, walk}

-- what comes of each, one after another
abbrev pub flat : {A B : Type 0} → (A → List B) → List A → List B
flat f [] = []
flat f (x ∷ xs) = f x ++ flat f xs

-- what comes of two lists
pub flat-append : {A B : Type 0} (f : A → List B) (xs ys : List A) → flat f (xs ++ ys) ≡ flat f xs ++ flat f ys
flat-append f [] ys = refl
flat-append f (x ∷ xs) ys = ap (λ zs. f x ++ zs) (flat-append f xs ys) ∙ sym (append_assoc (f x) (flat f xs) (flat f ys))

-- what comes of a walk
pub walk-flat : {A B : Type 0} (f : A → List B) (node : Place → Kind → List A) (whole : Template) (above : Place) (slot : ℕ → Place → List A) (up : List ℕ) (i : ℕ) (nodes : TemplateNodes)
    → flat f (walk node whole above slot up i nodes) ≡ walk (λ p k. flat f (node p k)) whole above (λ k p. flat f (slot k p)) up i nodes
walk-flat f node whole above slot up i no_nodes = refl
walk-flat f node whole above slot up i (element_node tag namespace attributes children rest) =
    flat-append f (node (place_in whole above up i) an_element) (walk node whole above slot (up ++ i ∷ []) 0 children ++ walk node whole above slot up (i + 1) rest)
    ∙ ap (λ zs. flat f (node (place_in whole above up i) an_element) ++ zs)
    (flat-append f (walk node whole above slot (up ++ i ∷ []) 0 children) (walk node whole above slot up (i + 1) rest)
    ∙ (λ t. walk-flat f node whole above slot (up ++ i ∷ []) 0 children t ++ walk-flat f node whole above slot up (i + 1) rest t))
walk-flat f node whole above slot up i (text_node text rest) =
    flat-append f (node (place_in whole above up i) a_static_text) (walk node whole above slot up (i + 1) rest)
    ∙ ap (λ zs. flat f (node (place_in whole above up i) a_static_text) ++ zs) (walk-flat f node whole above slot up (i + 1) rest)
walk-flat f node whole above slot up i (slot_node k rest) =
    flat-append f (slot k (place_in whole above up i)) (walk node whole above slot up (i + 1) rest)
    ∙ ap (λ zs. flat f (slot k (place_in whole above up i)) ++ zs) (walk-flat f node whole above slot up (i + 1) rest)

module _ {K : Types} where
  -- the spot of the old tree, and of the new one
  abbrev pub old_in : Event K → List (Spot K)
  old_in (stays p k) = node_at p k ∷ []
  old_in (goes p k) = node_at p k ∷ []
  old_in (comes p k) = []
  old_in (fed p c d) = component_at p c ∷ []
  old_in (left p c) = component_at p c ∷ []
  old_in (made p d) = []

  -- and of the new one
  abbrev pub new_in : Event K → List (Spot K)
  new_in (stays p k) = node_at p k ∷ []
  new_in (goes p k) = []
  new_in (comes p k) = node_at p k ∷ []
  new_in (fed p c d) = component_at p d ∷ []
  new_in (left p c) = []
  new_in (made p d) = component_at p d ∷ []

  -- the spots of a template's nodes are a walk
  pub spots-walk : (whole : Template) (above : Place) (slot : ℕ → Place → List (Spot K)) (up : List ℕ) (i : ℕ) (nodes : TemplateNodes)
      → node_spots whole above slot up i nodes ≡ walk (λ p k. node_at p k ∷ []) whole above slot up i nodes
  spots-walk whole above slot up i no_nodes = refl
  spots-walk whole above slot up i (element_node tag namespace attributes children rest) =
      λ t. node_at (place_in whole above up i) an_element ∷ (spots-walk whole above slot (up ++ i ∷ []) 0 children t ++ spots-walk whole above slot up (i + 1) rest t)
  spots-walk whole above slot up i (text_node text rest) = ap (λ zs. node_at (place_in whole above up i) a_static_text ∷ zs) (spots-walk whole above slot up (i + 1) rest)
  spots-walk whole above slot up i (slot_node k rest) = ap (λ zs. slot k (place_in whole above up i) ++ zs) (spots-walk whole above slot up (i + 1) rest)
