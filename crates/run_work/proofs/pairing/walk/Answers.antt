-- Both trees stand at the root.
use Rattle.std.proofs.Common.{[], ◌∙◌, ap}
use Rattle.std.proofs.lemmas.Result.{on_ok_weaker}
use Rattle.tree_mirror.specs.Sealed.{tree_of}
use Rattle.tree_marks.specs.Marks.{tree_marks}
use Rattle.run_places.proofs.Trails.{on_Root}
use Rattle.run_work.specs.Pairs.{tree_pair}
use Rattle.run_work.proofs.Following.{meets_told}
use Rattle.run_work.proofs.PairRules.{tree_is}
use Rattle.run_work.proofs.pairing.walk.Goals as goal

pub returns : goal.returns
returns g c =
    let old = c.args.old.now in
    let new = c.args.new.now in
    on_ok_weaker c.pair_tree.result
    (λ w. meets_told g.T.Takes.one (λ app. tree_pair app old new _) (λ app. tree_marks app [] (tree_of new) (tree_of old)) c.args.out.now c.pair_tree.new.out
    w (λ app tests. ap (λ p. tree_pair app old new p) on_Root ∙ tree_is app old new []))
    c.pair_tree.ensures
