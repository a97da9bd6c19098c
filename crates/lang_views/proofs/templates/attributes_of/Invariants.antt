-- The attributes so far, and those that are left, are all; so are their paths.
use Rattle.std.proofs.Common.{◌≡◌, ◌++◌, map, drop}
use Rattle.rt_model.specs.Tree.{paths_of, slots_among}
use Rattle.tree_mirror.specs.Mirror.{attribute_in}
use Rattle.lang_syntax.specs.Mirror as source
use Rattle.lang_views.specs.Built.{numbered_attributes}
use Rattle.lang_views.proofs.templates.attributes_of.Given as goal

abbrev pub invariant-loop-attribute : goal.invariant-loop-attribute
invariant-loop-attribute l = record {
  made : map attribute_in l.made ++ numbered_attributes l.paths (map source.attribute_of (drop l.attribute-index l.attributes)) ≡ numbered_attributes l.fn.paths (map source.attribute_of l.attributes);
  paths : (l.paths).attr_paths ++ paths_of (slots_among (numbered_attributes l.paths (map source.attribute_of (drop l.attribute-index l.attributes))) (l.fn.paths).path)
      ≡ (l.fn.paths).attr_paths ++ paths_of (slots_among (numbered_attributes l.fn.paths (map source.attribute_of l.attributes)) (l.fn.paths).path);
  node_paths : (l.paths).node_paths ≡ (l.fn.paths).node_paths;
  path : (l.paths).path ≡ (l.fn.paths).path;
}
