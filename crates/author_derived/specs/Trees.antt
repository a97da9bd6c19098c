-- The trees of an application of pages with derived cells.
use Rattle.author_bodies.specs.declared.bodied.Bodied.{Bodied}
use Rattle.author_bodies.specs.declared.no_data.NoData.{NoData}
use Rattle.author_deriving.specs.declared.task.MemoTask.{MemoTask}
use Rattle.tree_nodes.specs.declared.vnode.VNode.{VNode}
use Rattle.author_derived.specs.declared.paged.DerivedPaged.{DerivedPaged}

-- the types of a tree: what the author gives, and the types of his `Parts` in their order
abbrev pub DerivedTree : (S C Q V H F E L : Type 0) → Type 0
DerivedTree S C Q V H F E L =
    VNode (Bodied (DerivedPaged S C Q V H F E L) C Q V H (MemoTask V F) NoData L) C Q V H (MemoTask V F) NoData L
