-- What is written at the marks of two trees: the edits of the definitions, which make the new tree's document.
use Rattle.std.specs.Prelude.{ℕ, false, None, ◌≡◌}
use Rattle.rt_model.specs.Tree.{Types, Tree, Place}
use Rattle.rt_model.specs.World.{Application}
use Rattle.rt_model.specs.View.{tree_view}
use Rattle.rt_model.specs.Caused.{Both, writes, tree_written}
use Rattle.law_moves.specs.Settings.{Brings}
use Rattle.law_moves.specs.Meets.{ChildBrings, TreeMeets, tree_claims}
use Rattle.tree_marks.specs.Marks.{tree_marks}
use Rattle.tree_marks.specs.Writing.{all_written}

-- no place is refused, and no child scope stops
pub record GoesOn {K : Types} (b : Both K) : Type 0 where
  -- no place
  pub place : b.stop ≡ None
  -- no child scope
  pub child : (t : ℕ) → (b.under t).stopped ≡ false

-- what is written is what the definitions write
abbrev pub MarksAreWritten : {K : Types} → Application K → Type 0
MarksAreWritten {K = K} app =
    (b : Both K) (above : Place) (new old : Tree K)
    → GoesOn b
    → tree_written app b above new old ≡ writes (all_written app b (tree_marks app above new old))

-- where the trees meet it makes what the new one shows of what the old one showed, in every setting
abbrev pub MarksBring : {K : Types} → Application K → Type 0
MarksBring {K = K} app =
    (b : Both K) (claims : ℕ → ℕ → ℕ) (above : Place) (new old : Tree K)
    → GoesOn b
    → TreeMeets app b (λ t. ChildBrings b claims t) above new old
    → Brings
    (all_written app b (tree_marks app above new old))
    (tree_view b.old b.old_child above old)
    (tree_view b.new b.new_child above new)
    (λ n. tree_claims app b claims n above new old)
