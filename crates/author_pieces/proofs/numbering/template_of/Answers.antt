-- A row that is made from the start gives the whole template.
use Rattle.std.proofs.Common.{◌∙◌}
use Rattle.author_pieces.proofs.Rows.{whole}
use Rattle.author_pieces.proofs.numbering.template_of.Goals as goal

pub returns : goal.returns
returns c =
    record {
      template =
          c.in_ok-template.ensures.template ∙
          whole c.args.roots.now (record { node_paths = c.new.result; attr_paths = c.new-2.result }) c.row_of.new.paths c.in_ok-roots.roots c.new.ensures.empty c.new-2.ensures.empty c.in_ok-roots.ensures.row;
    }
