-- The next node has the path in the side's own tree.
use Rattle.std.proofs.Common.{sym, ap, ◌∙◌}
use Rattle.run_places.specs.Places.{kind_of}
use Rattle.run_places.specs.Trails.{path_of, place_on}
use Rattle.run_shown.specs.Told.{is_told, is_tree_of}
use Rattle.run_shown.proofs.ToldNodes.{number_told}
use Rattle.run_shown.proofs.numbered.next_number.Goals as goal

pub returns : goal.returns
returns g c =
    let standing = c.args.standing.now in
    let side = (standing.shown.now).side.now in
    let above = place_on standing.above.now in
    c.number_under.ensures
    ∙ number_told g.row.P-Component.coded c.in-Some._known.now side standing.tree.now above c.get-next.result (path_of c.args.path.now) (kind_of c.args.kind)
    (sym (ap (λ own. is_told own (is_tree_of side standing.tree.now above)) c.if-not-standing.false) ∙ standing.told)
    c.is_under.ensures.apart
    (c.is_under.ensures.under c.if-not-is_under.false)
