-- The node test of one tree, without what stands in its node slots.
use Rattle.std.specs.Prelude.{ℕ, Bool, true, ◌&&◌, ◌==◌, nat_lt, nat_le, is_none, List, length}
use Rattle.std.specs.List.{list_all}
use Rattle.tree_nodes.specs.Met.{Met, AtElement, AtAttribute, AtText, AtSlot, met_in}
use Rattle.tree_nodes.specs.Names.{Name, distinct, names_in, slot_names}
use Rattle.tree_nodes.specs.Slots.{node_slots, attr_slots, are_numbered}
use Rattle.tree_nodes.specs.declared.attribute.Attribute.{Attribute}
use Rattle.tree_nodes.specs.declared.attribute.AttributeValue.{AttributeValue}
use Rattle.tree_nodes.specs.declared.attribute.AttributeValue.TheVariants.{Text as TextValue, None as NoValue, Listener}
use Rattle.tree_nodes.specs.declared.template.TemplateParts.{TemplateParts as Template}
use Rattle.tree_nodes.specs.declared.template.TemplateNode.{TemplateNode}

-- what a walk looks for: the path of each slot, the names in each attribute slot, and how many
-- levels there may be
pub record Sought : Type 0 where
  pub node_paths : List (List ℕ)
  pub attr_paths : List (List ℕ)
  pub names : List (List Name)
  pub levels : ℕ

-- whether what was met fits by itself: it stands within the levels, and an element has at most
-- 256 children and no name twice
abbrev pub met_fits : ℕ → List (List Name) → Met → Bool
met_fits levels names (AtElement path attrs children) =
    nat_le (length path) levels && (nat_le children 256 && distinct (names_in names attrs))
met_fits levels names (AtAttribute path id) = true
met_fits levels names (AtText path) = nat_le (length path) levels
met_fits levels names (AtSlot path id) = nat_le (length path) levels

-- whether the slots that are met are the ones at the listed paths, and all that is met fits
abbrev pub met_as : Sought → List Met → Bool
met_as s ms = are_numbered (node_slots ms) s.node_paths
    && (are_numbered (attr_slots ms) s.attr_paths && list_all (met_fits s.levels s.names) ms)

-- whether a template fits, where it may have so many levels and its slots hold these names
abbrev pub template_fits : Sought → List TemplateNode → Bool
template_fits s roots = nat_lt 0 (length roots) && (nat_le (length roots) 256 && met_as s (met_in roots))

module _ {P Component Props Value Handler TaskState Effect Payload : Type 0} where
  -- a listener has no namespace
  abbrev pub value_fits : Bool → AttributeValue P Component Props Value Handler TaskState Effect Payload → Bool
  value_fits plain (TextValue text) = true
  value_fits plain NoValue = true
  value_fits plain (Listener listener) = plain

  -- an attribute in a slot fits where its value does
  abbrev pub attribute_fits : Attribute P Component Props Value Handler TaskState Effect Payload → Bool
  attribute_fits attribute = value_fits (is_none attribute.namespace) attribute.value

  -- what a walk through a template looks for
  abbrev pub sought_in : Template → List (List (Attribute P Component Props Value Handler TaskState Effect Payload)) → ℕ → Sought
  sought_in template dynamic_attrs levels = record {
    node_paths = template.node_paths;
    attr_paths = template.attr_paths;
    names = slot_names dynamic_attrs;
    levels = levels;
  }

  -- a tree without what stands in its slots: as many values as slots, no listener with a namespace,
  -- and a template that fits
  abbrev pub block_fits : Template → ℕ → List (List (Attribute P Component Props Value Handler TaskState Effect Payload)) → ℕ → Bool
  block_fits template values dynamic_attrs levels = values == length template.node_paths
      && (length dynamic_attrs == length template.attr_paths
      && (list_all (list_all attribute_fits) dynamic_attrs
      && template_fits (sought_in template dynamic_attrs levels) template.roots))
