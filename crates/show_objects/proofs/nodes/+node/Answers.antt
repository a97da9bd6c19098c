-- The object of an element, of a text and of a placeholder.
use Rattle.std.proofs.Common.{List, [], ◌∷◌, ◌++◌, map, codes, arith, ◌∙◌, ap}
use Rattle.std.proofs.lemmas.Grind.{common_steps}
use Rattle.json.specs.Json.{array}
use Rattle.json.specs.Token.{Token, begin_object, key}
use Rattle.json.specs.Tree.{json_tokens}
use Rattle.rt_edits.specs.declared.doc_node.DocAttr.{DocAttr}
use Rattle.rt_edits.specs.declared.doc_node.DocKind.{DocKind}
use Rattle.rt_edits.specs.declared.doc_node.DocNode.{DocNode}
use Rattle.rt_model.specs.Lists.{Text}
use Rattle.show_objects.proofs.Onward.{counted_tokens, ended, maybe_tokens, onward, worded_tokens}
use Rattle.show_objects.proofs.Written.{kind_tokens, written-Element, written-Placeholder, written-Text}
use Rattle.show_objects.specs.Objects.{attribute_items, name_items, node_items}
use Rattle.tree_edits.specs.Documents.{doc_attribute_of, forest_of}
use Rattle.show_objects.proofs.nodes.+node.Goals as goal

pub put_kind-returns-in_ok-put_nodes-in-Element : goal.put_kind-returns-in_ok-put_nodes-in-Element
put_kind-returns-in_ok-put_nodes-in-Element t c =
    let begun : List Token = begin_object ∷ [] in
    let tag = worded_tokens (codes "el") c.in-Element.tag in
    let namespace = maybe_tokens (codes "ns") c.in-Element.namespace in
    let number = counted_tokens (codes "id") c.args.id in
    let attrs = key (codes "attrs") ∷ [] in
    let attributes = json_tokens (array (attribute_items (map doc_attribute_of c.in-Element.attrs))) in
    let on = key (codes "on") ∷ [] in
    let names = json_tokens (array (name_items c.in-Element.listeners)) in
    let below = key (codes "kids") ∷ [] in
    let kids = json_tokens (array (node_items (forest_of c.in-Element.children))) in
    let from_kids = kids ++ ended in
    let from_below = below ++ from_kids in
    let from_names = names ++ from_below in
    let from_on = on ++ from_names in
    let from_attributes = attributes ++ from_on in
    let from_attrs = attrs ++ from_attributes in
    let from_number = number ++ from_attrs in
    let from_namespace = namespace ++ from_number in
    let from_tag = tag ++ from_namespace in
    rw (ap (λ (kind : DocKind). kind_tokens c.args.id kind) c.in-Element.is
    ∙ written-Element c.args.id c.in-Element.tag c.in-Element.namespace c.in-Element.attrs c.in-Element.listeners c.in-Element.children)
    (record {
      node =
          onward c.close.result c.close.new.self c.begin.new.self c.args.object.now begun from_tag
          c.in_ok-begin.ensures.begins
          (onward c.close.result c.close.new.self c.worded.new.self c.begin.new.self tag from_namespace
          (c.in_ok-worded-in-Element.ensures.worded
          ∙ ap (λ (text : Text). c.begin.new.self ++ worded_tokens (codes "el") text) c.as_str.ensures.text)
          (onward c.close.result c.close.new.self c.maybe.new.self c.worded.new.self namespace from_number
          c.in_ok-maybe-in-Element.ensures.maybe
          (onward c.close.result c.close.new.self c.counted.new.self c.maybe.new.self number from_attrs
          c.in_ok-counted-in-Element.ensures.counted
          (onward c.close.result c.close.new.self c.key.new.self c.counted.new.self attrs from_attributes
          c.in_ok-key-in-Element.ensures.key
          (onward c.close.result c.close.new.self c.put_attributes.new.object c.key.new.self attributes from_on
          (c.in_ok-put_attributes-in-Element.ensures.attributes
          ∙ ap (λ (own : List DocAttr). c.key.new.self ++ json_tokens (array (attribute_items (map doc_attribute_of own)))) c.as_slice.ensures.items)
          (onward c.close.result c.close.new.self c.key-in-Element.new.self c.put_attributes.new.object on from_names
          c.in_ok-key-in-Element-2.ensures.key
          (onward c.close.result c.close.new.self c.put_listeners.new.object c.key-in-Element.new.self names from_below
          (c.in_ok-put_listeners-in-Element.ensures.listeners
          ∙ ap (λ (own : List Text). c.key-in-Element.new.self ++ json_tokens (array (name_items own))) c.as_slice-in-Element.ensures.items)
          (onward c.close.result c.close.new.self c.key-in-Element-2.new.self c.put_listeners.new.object below from_kids
          c.in_ok-key-in-Element-3.ensures.key
          (onward c.close.result c.close.new.self c.put_nodes.new.object c.key-in-Element-2.new.self kids ended
          (c.in_ok-put_nodes-in-Element.ensures.nodes
          ∙ ap (λ (own : List DocNode). c.key-in-Element-2.new.self ++ json_tokens (array (node_items (forest_of own)))) c.as_slice-in-Element-2.ensures.items)
          c.close.ensures.ends)))))))));
    })

pub put_kind-returns-in_ok-counted-in-Text : goal.put_kind-returns-in_ok-counted-in-Text
put_kind-returns-in_ok-counted-in-Text t c =
    rw (ap (λ (kind : DocKind). kind_tokens c.args.id kind) c.in-Text.is ∙ written-Text c.args.id c.in-Text.text)
    (grind (arith, common_steps))

pub put_kind-returns-in_ok-counted-in-Placeholder : goal.put_kind-returns-in_ok-counted-in-Placeholder
put_kind-returns-in_ok-counted-in-Placeholder t c =
    rw (ap (λ (kind : DocKind). kind_tokens c.args.id kind) c.in-Placeholder.is ∙ written-Placeholder c.args.id)
    (grind (arith, common_steps))
