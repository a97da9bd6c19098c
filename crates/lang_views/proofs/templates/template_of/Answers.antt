-- A row that is built from the start gives the whole template.
use Rattle.std.proofs.Common.{ap, ◌∙◌}
use Rattle.tree_mirror.specs.Sealed as mirror
use Rattle.lang_syntax.specs.Mirror as source
use Rattle.lang_views.proofs.Rows.{all-built}
use Rattle.lang_views.proofs.templates.template_of.Goals as goal

pub returns : goal.returns
returns c =
    record {
      template =
          ap mirror.template_of c.in_ok-template.ensures.template
          ∙ all-built (record { node_paths = c.new.result; attr_paths = c.new-2.result; path = c.new-3.result }) c.row_of.new.paths
          (source.view_of c.args.roots.now) (mirror.nodes_of c.in_ok-roots.roots) c.new.ensures.empty c.new-2.ensures.empty
          c.new-3.ensures.empty c.in_ok-roots.ensures.built;
    }
