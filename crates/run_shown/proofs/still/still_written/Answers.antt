-- The nodes of the side are those of its tree, and none is left over.
use Rattle.std.proofs.Common.{[], sym, ap, ◌∙◌}
use Rattle.std.specs.Prelude.{IfSome, map}
use Rattle.rt_model.specs.Caused.{then_on, writes}
use Rattle.tree_edits.specs.Documents.{edit_of}
use Rattle.run_places.proofs.Trails.{on_Root}
use Rattle.run_places.specs.Spots.{tree_spots}
use Rattle.run_shown.specs.Still.{IsStill}
use Rattle.run_shown.specs.Units.{tree_writes}
use Rattle.run_shown.proofs.Stills.{nothing_then, old_left, some_of, some_weaker, told_still}
use Rattle.run_shown.proofs.still.still_written.Goals as goal

pub returns-in-Some : goal.returns-in-Some
returns-in-Some g c = λ app tests passes.
    let b = c.args.sides.now in
    let side = (b.old.now).side.now in
    let old = c.args.old.now in
    let new = c.args.new.now in
    let found : IfSome c.in_ok-found.found (λ n. IsStill b 0 n (tree_spots [] old) c.new-edits.result c.tree_still.new.edits (λ a. tree_writes a b [] new old)) =
    some_weaker c.in_ok-found.found _ _
    (λ n s. told_still b 0 n _ (tree_spots [] old) c.new-edits.result c.tree_still.new.edits _ (λ a. tree_writes a b [] new old)
    (ap (λ p. tree_spots p old) (sym on_Root)) (λ a. ap (λ p. tree_writes a b p new old) (sym on_Root)) s)
    c.in_ok-found.ensures in
    let still : IsStill b 0 c.in-Some._end (tree_spots [] old) c.new-edits.result c.tree_still.new.edits (λ a. tree_writes a b [] new old) =
    some_of c.in_ok-found.found c.in-Some._end _ found c.in-Some.is in
    let s = still [] (old_left side old c.requires.stood (c.knows_seats.ensures c.if-knows_seats.false) (side.known app tests)) in
    sym (s.1 app tests passes)
    ∙ ap (λ es. then_on (writes (map edit_of es)) (tree_writes app b [] new old)) c.new-edits.ensures.empty
    ∙ nothing_then (tree_writes app b [] new old)
