-- Its word, its node, and the nodes that it puts there.
use Rattle.std.proofs.Common.{List, [], ◌∷◌, ◌++◌, codes, ap, ◌∙◌}
use Rattle.json.specs.Json.{array}
use Rattle.json.specs.Token.{key}
use Rattle.json.specs.Tree.{json_tokens}
use Rattle.rt_edits.specs.declared.doc_node.DocNode.{DocNode}
use Rattle.show_objects.proofs.Onward.{edit_begun, ended, onward}
use Rattle.show_objects.specs.Objects.{node_items}
use Rattle.tree_edits.specs.Documents.{forest_of}
use Rattle.show_objects.proofs.edits.put_forest.Goals as goal

pub returns : goal.returns
returns c =
    let begun = edit_begun c.args.word.now c.args.id in
    let name = key (codes "nodes") ∷ [] in
    let nodes = json_tokens (array (node_items (forest_of c.args.nodes.now))) in
    let from_nodes = nodes ++ ended in
    let from_name = name ++ from_nodes in
    record {
      edit =
          onward c.close.result c.close.new.self c.begin_edit.new.object c.args.object.now begun from_name
          c.in_ok-begin_edit.ensures.begins
          (onward c.close.result c.close.new.self c.key.new.self c.begin_edit.new.object name from_nodes
          c.in_ok-key.ensures.key
          (onward c.close.result c.close.new.self c.put_nodes.new.object c.key.new.self nodes ended
          (c.in_ok-put_nodes.ensures.nodes
          ∙ ap (λ (own : List DocNode). c.key.new.self ++ json_tokens (array (node_items (forest_of own)))) c.as_slice.ensures.items)
          c.close.ensures.ends));
    }
