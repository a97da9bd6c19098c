-- The rules by which the calls write what the definitions say.
use Rattle.run_shown.proofs.Looks.{side_found}
use Rattle.run_shown.proofs.OneByOne.{nil-right}
use Rattle.run_shown.proofs.Parted.{edits-append, then_nothing}
use Rattle.run_shown.proofs.ScopesWrite.{unit_out, unit_shown, unit_hidden, scope_none, scope_some_none, scope_same, scope_other, name_none, name_some_none, output_new_none, output_old_none, output_both, node_Element, node_Text, node_both, node_new, node_gone, tree_unmatched}
use Rattle.run_shown.proofs.SlotsWrite.{text_same, text_other, text_placeholder, text_component, text_fragment, placeholder_same, placeholder_text, placeholder_component, placeholder_fragment, component_text, component_placeholder, component_fragment, component_same, component_other, fragment_text, fragment_placeholder, fragment_component, no_items_same, no_items_other, items_anew, items_both, child_none, child_case}
use Rattle.run_places.proofs.Trails.{on_Root, on_Inside, on_Item, path_Top, path_Below}

pub ruleset writings = (edits-append, nil-right, then_nothing, side_found, unit_out, unit_shown, unit_hidden, scope_none, scope_some_none, scope_same, scope_other, name_none, name_some_none, output_new_none, output_old_none, output_both, node_Element, node_Text, node_both, node_new, node_gone, text_same, text_other, text_placeholder, text_component, text_fragment, placeholder_same, placeholder_text, placeholder_component, placeholder_fragment, component_text, component_placeholder, component_fragment, component_same, component_other, fragment_text, fragment_placeholder, fragment_component, no_items_same, no_items_other, items_anew, items_both, child_none, child_case, tree_unmatched, on_Root, on_Inside, on_Item, path_Top, path_Below)
