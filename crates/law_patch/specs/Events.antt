-- What becomes of each place, by the marks of two trees, is what the runtime's walk finds there.
use Rattle.std.specs.Prelude.{◌≡◌}
use Rattle.rt_model.specs.Tree.{Types, Tree, Place}
use Rattle.rt_model.specs.World.{Application}
use Rattle.rt_model.specs.Values.{is_same_component}
use Rattle.tree_marks.specs.Marks.{tree_marks}
use Rattle.run_work.specs.Events.{pairing}
use Rattle.run_work.specs.Marked.{events_in}

-- the events of two trees side by side are those of their marks
abbrev pub MarksAreEvents : {K : Types} → Application K → Type 0
MarksAreEvents {K = K} app =
    (above : Place) (new old : Tree K)
    → events_in (tree_marks app above new old) ≡ pairing (λ c d. is_same_component app c d) old new above
