-- The side shows the rows that were handed in, each under its scope.
use Rattle.std.proofs.Common.{ℕ, ◌≡◌, ◌∙◌, ap}
use Rattle.std.proofs.lemmas.Result.{IfOk-weaker}
use Rattle.rt_model.specs.Document.{Forest}
use Rattle.rt_model.specs.View.{tree_view}
use Rattle.run_places.specs.Places.{side_of}
use Rattle.run_places.proofs.Trails.{on_Root}
use Rattle.run_shown.specs.Given.{rows_under}
use Rattle.tree_mirror.specs.Sealed.{tree_of}
use Rattle.rt_tree.specs.Blocks.{children_of}
use Rattle.rt_tree.specs.Rows.{paired}
use Rattle.rt_tree.proofs.InOrder.{shows_of}
use Rattle.rt_tree.proofs.block.Block.nodes.Goals as goal

pub returns : goal.returns
returns g c =
    let block = c.args.self.now in
    let tree = c.tree.result.now in
    let shown : ℕ → Forest = λ t. rows_under (paired (children_of block) c.args.children) t in
    let same : c.in_ok-given.given.rows ≡ paired (children_of block) c.args.children = c.in_ok-given.ensures ∙ ap (λ ss. paired ss c.args.children) c.in_ok-scopes.ensures.children in
    record {
      nodes = IfOk-weaker c.tree_given.result _ _
          (λ nodes h. h ∙ (λ k. tree_view (side_of block.side) (λ t. rows_under (same k) t) (on_Root k) (tree_of tree)) ∙ shows_of block.side tree shown c.tree.ensures.tree) c.tree_given.ensures;
    }
