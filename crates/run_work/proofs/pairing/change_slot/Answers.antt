-- What goes, then what comes, and behind both the one gives way to the other.
use Rattle.std.proofs.lemmas.Result.{on_ok_weaker}
use Rattle.tree_mirror.specs.Sealed.{slot_of}
use Rattle.tree_marks.specs.Marks.{slot_goes, slot_way}
use Rattle.run_places.specs.Trails.{place_on}
use Rattle.run_work.specs.declared.turning.Turn.TheVariants as turns
use Rattle.run_work.specs.Grounds.{value_turn}
use Rattle.run_work.proofs.Following.{changes}
use Rattle.run_work.proofs.pairing.change_slot.Goals as goal

pub returns : goal.returns
returns g c =
    let place = place_on c.args.trail.now in
    let old = c.args.old.now in
    let new = c.args.new.now in
    on_ok_weaker c.slot_gives_way.result
    (changes g.T.Takes.one (slot_goes place (slot_of old)) (slot_way place (slot_of new) (slot_of old)) (value_turn turns.Goes old place) (value_turn turns.Comes new place)
    c.args.out.now c.slot_go.new.self c.value_turns.new.out c.value_turns-2.new.out c.slot_gives_way.new.self
    c.in_ok-slot_go.ensures.taken c.in_ok-value_turns.ensures c.in_ok-value_turns-2.ensures)
    c.slot_gives_way.ensures.taken
