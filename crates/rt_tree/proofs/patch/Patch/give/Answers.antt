-- All but the new block stays where a scope gets its place.
use Rattle.std.proofs.Common.{[], ◌∷◌, ◌++◌, ◌∙◌, ◌≡◌, ap, map, subst, rules}
use Rattle.tree_edits.specs.Documents.{edit_of}
use Rattle.run_met.specs.Mets.{marks_of}
use Rattle.run_places.specs.Places.{side_of}
use Rattle.rt_tree.specs.Gives.{SeatedBy}
use Rattle.rt_tree.proofs.patch.Patch.give.Goals as goal

pub returns-clause-rows : goal.returns-clause-rows
returns-clause-rows g c = c.in_ok-put.ensures.more ∙ ap (λ p. (p.given).rows ++ (c.args.scope.0, c.args.nodes) ∷ []) c.in_ok-seat.ensures.others

pub returns-clause-seated : goal.returns-clause-seated
returns-clause-seated g c =
    let phase : c.replace-phase.result ≡ c.args.self.now.phase = search rules in
    subst (λ p. SeatedBy p c.args.scope (side_of c.args.self.now.new.side) (side_of c.seat.new.self.new.side)) phase c.in_ok-seat.ensures.seated

pub returns-clause-marks : goal.returns-clause-marks
returns-clause-marks g c = ap (λ p. marks_of p.plan.items) c.in_ok-seat.ensures.others

pub returns-clause-edits : goal.returns-clause-edits
returns-clause-edits g c = ap (λ p. map edit_of p.edits.items) c.in_ok-seat.ensures.others

pub returns-clause-old : goal.returns-clause-old
returns-clause-old g c = ap (λ p. p.old) c.in_ok-seat.ensures.others

pub returns-clause-shown : goal.returns-clause-shown
returns-clause-shown g c = ap (λ p. p.shown) c.in_ok-seat.ensures.others

pub returns-clause-tree : goal.returns-clause-tree
returns-clause-tree g c = c.in_ok-seat.ensures.tree

pub returns-clause-drops : goal.returns-clause-drops
returns-clause-drops g c = ap (λ p. p.drops) c.in_ok-seat.ensures.others

pub returns-clause-gone : goal.returns-clause-gone
returns-clause-gone g c = ap (λ p. p.gone) c.in_ok-seat.ensures.others
