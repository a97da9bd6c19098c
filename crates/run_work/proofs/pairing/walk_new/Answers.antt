-- The new tree stands at the root.
use Rattle.std.proofs.Common.{[], ◌∙◌, ap, map}
use Rattle.std.proofs.lemmas.Result.{on_ok_weaker}
use Rattle.rt_model.specs.Tree.{spots}
use Rattle.tree_mirror.specs.Sealed.{tree_of}
use Rattle.tree_marks.specs.Marks.{come}
use Rattle.run_places.proofs.Trails.{on_Root}
use Rattle.run_work.specs.declared.turning.Turn.TheVariants as turns
use Rattle.run_work.specs.Grounds.{tree_turn}
use Rattle.run_work.proofs.Following.{told}
use Rattle.run_work.proofs.Turns.{all_comes}
use Rattle.run_work.proofs.pairing.walk_new.Goals as goal

pub returns : goal.returns
returns g c =
    let new = c.args.new.now in
    on_ok_weaker c.tree_turns.result
    (λ w. told g.T.Takes.one (tree_turn turns.Comes _ new) (map come (spots [] (tree_of new))) c.args.out.now c.tree_turns.new.out
    w (ap (λ p. tree_turn turns.Comes p new) on_Root ∙ all_comes new []))
    c.tree_turns.ensures
