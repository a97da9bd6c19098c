-- What is written between two outputs of one side that meet.
use Rattle.std.specs.Prelude.{ℕ, ◌+◌, ◌≤◌, None, ◌≡◌}
use Rattle.rt_model.specs.Tree.{Types, Tree, Place}
use Rattle.rt_model.specs.World.{Application}
use Rattle.rt_model.specs.Document.{count_of}
use Rattle.rt_model.specs.View.{tree_view}
use Rattle.rt_model.specs.Caused.{Both, tree_written}
use Rattle.law_moves.specs.Meets.{Performs, ChildBrings, TreeMeets, tree_claims}

-- what is written between two outputs of one side that meet, where no place is refused, makes what the new one shows
-- of what the old one shows
abbrev pub OutputsBring : {K : Types} → Application K → Type 0
OutputsBring {K = K} app =
    (b : Both K) (claims : ℕ → ℕ → ℕ) (above : Place) (new old : Tree K)
    → b.stop ≡ None
    → TreeMeets app b (λ t. ChildBrings b claims t) above new old
    → Performs
    (tree_written app b above new old)
    (tree_view b.old b.old_child above old)
    (tree_view b.new b.new_child above new)
    (λ n. tree_claims app b claims n above new old)

-- and it claims no number but those that either output shows
abbrev pub OutputsClaim : {K : Types} → Application K → Type 0
OutputsClaim {K = K} app =
    (b : Both K) (claims : ℕ → ℕ → ℕ) (above : Place) (new old : Tree K) (n : ℕ)
    → TreeMeets app b (λ t. ChildBrings b claims t) above new old
    → tree_claims app b claims n above new old
    ≤ count_of n (tree_view b.old b.old_child above old) + count_of n (tree_view b.new b.new_child above new)
